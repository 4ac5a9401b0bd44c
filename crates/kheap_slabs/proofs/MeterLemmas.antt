-- What the heap keeps: at boot, and where a process, a page or a node is changed in its place.
use Rattle.std.proofs.Common.{◌≡◌, ℕ, ◌+◌, ◌/◌, ◌≤◌, List, Option, Some, None, length, replicate, refl, sym, ◌∙◌, inl, inr, arith, length-append, length-drop}
use Rattle.std.proofs.lemmas.Bool.{cases_eq}
use Rattle.std.proofs.lemmas.List.{length-replicate, length-set, length-take}
use Rattle.kabi_types.specs.Class.{size}
use Rattle.kabi_types.specs.declared.classes.Class.TheVariants as class
use Rattle.kheap_slabs.specs.Objects.{object, count, put}
use Rattle.kheap_slabs.specs.Pages.{with_bytes}
use Rattle.kheap_slabs.specs.declared.objects.Leaf.{Leaf}
use Rattle.kheap_slabs.specs.declared.objects.Node.{Node}
use Rattle.kheap_slabs.specs.declared.objects.Page.{Page}
use Rattle.kheap_slabs.specs.declared.objects.Proc.{Proc}
use Rattle.kheap_slabs.specs.Heap.{Heap, empty_heap, live_bytes}
use Rattle.kheap_slabs.specs.Metered.{IsMetered}
use Rattle.kheap_slabs.proofs.ObjectLemmas.{InUse-within, count-none, count-put_used, object-none, object-put, object-put_other}

no_objects : (X : Type 0) (limit : ℕ) → count (replicate {A = Option X} limit None) ≡ 0
no_objects X limit = count-none (replicate limit None) limit refl

-- a heap without objects takes no bytes
pub none_live : (heap : ℕ) → live_bytes (empty_heap heap) ≡ 0
none_live heap = simp no_objects

pub IsMetered-boot : (heap : ℕ) → heap ≤ 8388608 → IsMetered (empty_heap heap) 0
IsMetered-boot heap most = record {
  live_is = sym (none_live heap);
  well_formed = record {
    live_within = rw none_live (omega arith);
    high_within = omega arith;
    limit = most;
    descriptors = λ key process is. absurd (object-none (heap / size class.Proc) key process is);
    spaces = λ key process is. absurd (object-none (heap / size class.Proc) key process is);
    leaves = λ key process is. absurd (object-none (heap / size class.Proc) key process is);
    leaf_rows = λ key leaf is. absurd (object-none (heap / size class.Leaf) key leaf is);
    entries = λ key node is. absurd (object-none (heap / size class.Node) key node is);
    page_bytes = λ key page is. absurd (object-none (heap / size class.Page) key page is);
    chunk_bytes = λ key chunk is. absurd (object-none (heap / size class.Chunk) key chunk is);
    waiting = λ key sock is. absurd (object-none (heap / size class.Sock) key sock is);
  };
  keys = simp length-replicate;
}

-- a row is as long in all objects, and stays so where one becomes another with a row as long
stay_long : {X : Type 0} (measured : X → ℕ) (long : ℕ) (objects : List (Option X)) (key : ℕ) (was now : X) → object objects key ≡ Some was → measured now ≡ long
    → ((other : ℕ) (value : X) → object objects other ≡ Some value → measured value ≡ long)
    → (other : ℕ) (value : X) → object (put objects key now) other ≡ Some value → measured value ≡ long
stay_long {X} measured long objects key was now is same all other value there = elim (cases_eq other key) [
  | inl equal ↦ (
      let stored = object-put objects key now (InUse-within objects key (rw is refl)) in
      let named : object (put objects key now) key ≡ Some value = rw equal at there in
      let one : value ≡ now = grind arith in
      rw one same
      )
  | inr differs ↦ all other value (sym (object-put_other objects key other now differs) ∙ there)
]

-- a process is changed in its place and keeps as many descriptors, nodes and Leaves
pub IsMetered-proc : (h : Heap) (live key : ℕ) (procs : List (Option Proc)) (was now : Proc) → IsMetered h live → object h.procs key ≡ Some was → length now.descriptors ≡ 32 → length now.nodes ≡ 4 → length now.leaves ≡ 3 → procs ≡ put h.procs key now → IsMetered (record h { procs = procs }) live
IsMetered-proc h live key procs was now metered is descriptors four three put_is = rw put_is (record {
  live_is = metered.live_is ∙ sym same_live;
  well_formed = record {
    live_within = rw same_live metered.well_formed.live_within;
    high_within = metered.well_formed.high_within;
    limit = metered.well_formed.limit;
    descriptors = stay_long (λ (p : Proc). length p.descriptors) 32 h.procs key was now is descriptors metered.well_formed.descriptors;
    spaces = stay_long (λ (p : Proc). length p.nodes) 4 h.procs key was now is four metered.well_formed.spaces;
    leaves = stay_long (λ (p : Proc). length p.leaves) 3 h.procs key was now is three metered.well_formed.leaves;
    leaf_rows = metered.well_formed.leaf_rows;
    entries = metered.well_formed.entries;
    page_bytes = metered.well_formed.page_bytes;
    chunk_bytes = metered.well_formed.chunk_bytes;
    waiting = metered.well_formed.waiting;
  };
  keys = rw (length-set h.procs key (Some now)) metered.keys;
})
  where
    same_live : live_bytes (record h { procs = put h.procs key now }) ≡ live_bytes h
    same_live = rw (count-put_used h.procs key now (rw is refl)) refl

-- a page is changed in its place and keeps as many bytes
pub IsMetered-page : (h : Heap) (live key : ℕ) (pages : List (Option Page)) (was now : Page) → IsMetered h live → object h.pages key ≡ Some was → length now.bytes ≡ length was.bytes → pages ≡ put h.pages key now → IsMetered (record h { pages = pages }) live
IsMetered-page h live key pages was now metered is long put_is = rw put_is (record {
  live_is = metered.live_is ∙ sym same_live;
  well_formed = record {
    live_within = rw same_live metered.well_formed.live_within;
    high_within = metered.well_formed.high_within;
    limit = metered.well_formed.limit;
    descriptors = metered.well_formed.descriptors;
    spaces = metered.well_formed.spaces;
    leaves = metered.well_formed.leaves;
    leaf_rows = metered.well_formed.leaf_rows;
    entries = metered.well_formed.entries;
    page_bytes = stay_long (λ (p : Page). length p.bytes) 4096 h.pages key was now is (long ∙ metered.well_formed.page_bytes key was is) metered.well_formed.page_bytes;
    chunk_bytes = metered.well_formed.chunk_bytes;
    waiting = metered.well_formed.waiting;
  };
  keys = rw (length-set h.pages key (Some now)) metered.keys;
})
  where
    same_live : live_bytes (record h { pages = put h.pages key now }) ≡ live_bytes h
    same_live = rw (count-put_used h.pages key now (rw is refl)) refl

-- a page has as many bytes as before where some are written
pub length-with_bytes : (page : Page) (at : ℕ) (bytes : List ℕ) → at + length bytes ≤ length page.bytes → length (with_bytes page at bytes).bytes ≡ length page.bytes
length-with_bytes page at bytes within = simp (length-append, length-take, length-drop) (omega arith)

-- an entry of a node is changed in its place, so the node keeps as many
pub IsMetered-node : (h : Heap) (live key : ℕ) (nodes : List (Option Node)) (was now : Node) → IsMetered h live → object h.nodes key ≡ Some was → length now.entries ≡ length was.entries → nodes ≡ put h.nodes key now → IsMetered (record h { nodes = nodes }) live
IsMetered-node h live key nodes was now metered is long put_is = rw put_is (record {
  live_is = metered.live_is ∙ sym same_live;
  well_formed = record {
    live_within = rw same_live metered.well_formed.live_within;
    high_within = metered.well_formed.high_within;
    limit = metered.well_formed.limit;
    descriptors = metered.well_formed.descriptors;
    spaces = metered.well_formed.spaces;
    leaves = metered.well_formed.leaves;
    leaf_rows = metered.well_formed.leaf_rows;
    entries = stay_long (λ (n : Node). length n.entries) 64 h.nodes key was now is (long ∙ metered.well_formed.entries key was is) metered.well_formed.entries;
    page_bytes = metered.well_formed.page_bytes;
    chunk_bytes = metered.well_formed.chunk_bytes;
    waiting = metered.well_formed.waiting;
  };
  keys = rw (length-set h.nodes key (Some now)) metered.keys;
})
  where
    same_live : live_bytes (record h { nodes = put h.nodes key now }) ≡ live_bytes h
    same_live = rw (count-put_used h.nodes key now (rw is refl)) refl

-- a number of a Leaf is changed in its place, so the Leaf keeps as many
pub IsMetered-leaf : (h : Heap) (live key : ℕ) (leaves : List (Option Leaf)) (was now : Leaf) → IsMetered h live → object h.leaves key ≡ Some was → length now.descriptors ≡ length was.descriptors → leaves ≡ put h.leaves key now → IsMetered (record h { leaves = leaves }) live
IsMetered-leaf h live key leaves was now metered is long put_is = rw put_is (record {
  live_is = metered.live_is ∙ sym same_live;
  well_formed = record {
    live_within = rw same_live metered.well_formed.live_within;
    high_within = metered.well_formed.high_within;
    limit = metered.well_formed.limit;
    descriptors = metered.well_formed.descriptors;
    spaces = metered.well_formed.spaces;
    leaves = metered.well_formed.leaves;
    leaf_rows = stay_long (λ (l : Leaf). length l.descriptors) 32 h.leaves key was now is (long ∙ metered.well_formed.leaf_rows key was is) metered.well_formed.leaf_rows;
    entries = metered.well_formed.entries;
    page_bytes = metered.well_formed.page_bytes;
    chunk_bytes = metered.well_formed.chunk_bytes;
    waiting = metered.well_formed.waiting;
  };
  keys = rw (length-set h.leaves key (Some now)) metered.keys;
})
  where
    same_live : live_bytes (record h { leaves = put h.leaves key now }) ≡ live_bytes h
    same_live = rw (count-put_used h.leaves key now (rw is refl)) refl

-- What a fork makes of numbers: the child has copies of its parent's.
use Rattle.std.proofs.Common.{◌≡◌, ◌≢◌, ℕ, ◌+◌, ◌-◌, ◌<◌, ◌≤◌, cond, List, [], ◌∷◌, ◌++◌, count_by, length, Option, None, Some, refl, sym, ap, ◌∙◌, subst, arith}
use Rattle.std.specs.List.{AllByRecursion}
use Rattle.std.proofs.lemmas.List.{length-set}
use Rattle.std.proofs.lemmas.List.Sums.{sum_by-set}
use Rattle.kabi_types.specs.Counts.{with_count}
use Rattle.kabi_types.specs.declared.classes.Class.TheVariants as class
use Rattle.kheap_slabs.specs.Objects.{object, put}
use Rattle.kheap_slabs.specs.Purse.{Purse}
use Rattle.kheap_slabs.specs.declared.objects.Leaf.{Leaf}
use Rattle.kheap_slabs.specs.declared.objects.Proc.{Proc}
use Rattle.kheap_slabs.specs.Heap.{Heap}
use Rattle.kheap_slabs.specs.Leaves.{HoldLeaves, LeavesChange, numbers_by}
use Rattle.kheap_slabs.proofs.ObjectLemmas.{InUse-within}
use Rattle.desc_table.specs.Copying.{no_leaves, spends_leaves}
use Rattle.open_laws.specs.Owned.{leaf_namings_of, names_desc, namings_in, namings_of}
use Rattle.proc_table.specs.Changes.{child_proc}
use Rattle.proc_table.specs.Moves.{HasCopies, IsAdded}
use Rattle.proc_table.specs.Procs.{numbers_in, proc_of}
use Rattle.proc_table.specs.Table.{AreBetween, AreStored, TableView, processes}
use Rattle.proc_table.proofs.AccountLemmas.{pids_within}
use Rattle.proc_table.proofs.LeafTurns.{forked_hold}
use Rattle.proc_table.proofs.OwnLemmas.{all_weaker}
use Rattle.proc_table.proofs.PlaceLemmas.{eqb_other, eqb_same, some_same}

-- the last one has its pid alone
pub found_last : (procs : List Proc) (child : Proc) → AllByRecursion (λ p. p.pid ≢ child.pid) procs → proc_of (procs ++ child ∷ []) child.pid ≡ Some child
found_last [] child all = ap (λ b. cond b (Some child) None) (eqb_same child.pid child.pid refl)
found_last (first ∷ procs) child all =
    ap (λ b. cond b (Some first) (proc_of (procs ++ child ∷ []) child.pid)) (eqb_other first.pid child.pid all.0) ∙ found_last procs child all.1

-- one Proc more names what its own numbers do
proc_comes : (procs : List (Option Proc)) (at : ℕ) (proc : Proc) (key : ℕ) → at < length procs → object procs at ≡ None
    → namings_of (put procs at proc) key ≡ namings_of procs key + count_by (names_desc key) proc.descriptors
proc_comes procs at proc key within vacant =
    let moved = sum_by-set (namings_in key) procs at (Some proc) None within in
    let before : namings_in key (object procs at) ≡ 0 = ap (namings_in key) vacant in
    omega (arith, moved, before)

module _ (old copied split new : Heap) (between after : Purse) (was now : TableView) (parent : Proc) (nodes leaves : List (Option ℕ))
    (copied_is : copied ≡ record old { descs = copied.descs; leaves = copied.leaves; high = copied.high })
    (split_is : split ≡ record copied { nodes = split.nodes; pages = split.pages; high = split.high })
    (added : IsAdded split between was new after now (child_proc parent (was.last + 1) nodes leaves))
    (numbers : numbers_by copied.leaves parent.descriptors leaves ≡ numbers_by old.leaves parent.descriptors parent.leaves)
    (own : LeavesChange old.leaves copied.leaves no_leaves leaves)
    (namings : (key : ℕ) → leaf_namings_of copied.leaves key + count_by (names_desc key) parent.descriptors
    ≡ leaf_namings_of old.leaves key + count_by (names_desc key) (numbers_by old.leaves parent.descriptors parent.leaves)) where
  abbrev child : Proc
  child = child_proc parent (was.last + 1) nodes leaves

  same_leaves : new.leaves ≡ copied.leaves
  same_leaves = ap (λ (h : Heap). h.leaves) added.kept ∙ ap (λ (h : Heap). h.leaves) split_is

  same_procs : split.procs ≡ old.procs
  same_procs = ap (λ (h : Heap). h.procs) split_is ∙ ap (λ (h : Heap). h.procs) copied_is

  one_more : new.procs ≡ put split.procs added.key child
  one_more = ap (λ (h : Heap). h.procs) added.kept

  within : added.key < length split.procs
  within =
      let used : added.key < length new.procs = InUse-within new.procs added.key (let stored = added.stored in rw stored refl) in
      let size = ap length one_more ∙ length-set split.procs added.key (Some child) in
      omega (arith, used, size)

  named : (key : ℕ) → namings_of new.procs key ≡ namings_of old.procs key + count_by (names_desc key) parent.descriptors
  named key =
      ap (λ (procs : List (Option Proc)). namings_of procs key) one_more ∙ proc_comes split.procs added.key child key within added.vacant
      ∙ ap (λ (procs : List (Option Proc)). namings_of procs key + count_by (names_desc key) parent.descriptors) same_procs

  pub has_copies : HasCopies old new parent child
  has_copies = record {
    numbers = ap (λ (l : List (Option Leaf)). numbers_by l parent.descriptors leaves) same_leaves ∙ numbers;
    own = subst (λ (l : List (Option Leaf)). LeavesChange old.leaves l no_leaves leaves) (sym same_leaves) own;
    namings = λ key.
        together (namings_of new.procs key) (namings_of old.procs key) (leaf_namings_of new.leaves key) (leaf_namings_of copied.leaves key) (leaf_namings_of old.leaves key)
        (count_by (names_desc key) parent.descriptors) (count_by (names_desc key) (numbers_in old parent)) (named key)
        (ap (λ (l : List (Option Leaf)). leaf_namings_of l key) same_leaves) (namings key);
  }
    where
      together : (a b c d e f g : ℕ) → a ≡ b + f → c ≡ d → d + f ≡ e + g → a + c ≡ b + e + g
      together a b c d e f g one two three = omega (arith, one, two, three)

  module _ (hold : HoldLeaves old.leaves (processes old was)) (procs_are : processes new now ≡ processes old was ++ child ∷ []) where
    pub has_owners : HoldLeaves new.leaves (processes new now)
    has_owners = subst (HoldLeaves new.leaves) (sym procs_are) (forked_hold old new (processes old was) parent child hold has_copies)

    -- and so is whoever is said to be the parent and the child
    pub its_copies : (pid last : ℕ) → AreStored old.procs was.listed → AreBetween 0 was.listed was.last → proc_of (processes old was) pid ≡ Some parent → last ≡ was.last + 1
        → (one its : Proc) → proc_of (processes old was) pid ≡ Some one → proc_of (processes new now) last ≡ Some its → HasCopies old new one its
    its_copies pid last stored rising there number one its is made =
        let last_one : proc_of (processes new now) last ≡ Some child =
        ap (λ n. proc_of (processes new now) n) number ∙ ap (λ procs. proc_of procs (was.last + 1)) procs_are
        ∙ found_last (processes old was) child
        (all_weaker (λ (p : Proc). (0 < p.pid) × (p.pid ≤ was.last)) (λ p. p.pid ≢ was.last + 1) (processes old was) (λ p both same. (let l : p.pid ≤ was.last = both.1 in omega (arith, l, same)))
        (pids_within old.procs was.listed 0 was.last stored rising))
        in
        subst (λ (p : Proc). HasCopies old new one p) (some_same (proc_of (processes new now) last) child its last_one made)
        (subst (λ (p : Proc). HasCopies old new p child) (some_same (proc_of (processes old was) pid) parent one there is) has_copies)

abbrev takes_proc : Purse → Purse
takes_proc p = record p { left = with_count p.left class.Proc (p.left.proc - 1) }

-- what is spent in three steps: Leaves, Nodes, one Proc
pub spent_all : (first second third last : Purse) → second ≡ spends_leaves first second → third ≡ record second { left = with_count second.left class.Node third.left.node }
    → last ≡ record third { left = with_count third.left class.Proc (third.left.proc - 1) }
    → last ≡ record first { left = with_count (with_count (with_count first.left class.Leaf last.left.leaf) class.Node last.left.node) class.Proc (first.left.proc - 1) }
spent_all first second third last one two three =
    three ∙ ap takes_proc two ∙ ap (λ (p : Purse). takes_proc (record p { left = with_count p.left class.Node third.left.node })) one
    ∙ ap (λ n. takes_proc (record first { left = with_count (with_count first.left class.Leaf n) class.Node third.left.node })) (sym (ap (λ (p : Purse). p.left.leaf) three ∙ ap (λ (p : Purse). p.left.leaf) two))
    ∙ ap (λ n. takes_proc (record first { left = with_count (with_count first.left class.Leaf last.left.leaf) class.Node n })) (sym (ap (λ (p : Purse). p.left.node) three))

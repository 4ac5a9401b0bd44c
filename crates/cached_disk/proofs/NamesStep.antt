-- Where a name is filled, all that is lent goes on, and the other caches stay.
use Rattle.std.proofs.Common.{◌≡◌, ℕ, zero, suc, ◌+◌, ◌-◌, ◌*◌, ◌/◌, ◌<◌, ◌≤◌, List, [], ◌∷◌, ◌++◌, length, take, Option, Some, None, IsSome, refl, sym, ap, ◌∙◌, subst, inl, inr, arith, le_refl, length-append}
use Rattle.std.proofs.lemmas.Bool.{cases_lt}
use Rattle.kabi_types.specs.Class.{size}
use Rattle.kabi_types.specs.declared.classes.Class.TheVariants as class
use Rattle.kheap_slabs.specs.Objects.{count, put}
use Rattle.kheap_slabs.specs.Purse.{Purse}
use Rattle.kheap_slabs.specs.declared.objects.Name.{Name}
use Rattle.kheap_slabs.specs.declared.objects.Vnode.{Vnode}
use Rattle.kheap_slabs.specs.Heap.{Heap}
use Rattle.kheap_slabs.specs.Paid.{CanPay, IsPaid}
use Rattle.kheap_laws.proofs.PaidLemmas.{CanPay-kept}
use Rattle.lru_index.specs.NameKeys.{name_key}
use Rattle.lru_index.specs.Order.{Order}
use Rattle.lru_index.specs.Keys.{same_name}
use Rattle.lru_index.specs.declared.keys.NameKey.{NameKey}
use Rattle.disk_layout.specs.Disk.{Disk}
use Rattle.posix_defs.specs.DiskTree.{StandsFor}
use Rattle.posix_defs.specs.SoundDisk.{HasNode}
use Rattle.posix_defs.specs.Tree.{Tree, found}
use Rattle.name_cache.specs.Names.{same_key, name_of, name_slot, cached_node, KeepsNames, HasNameFills, TrueNames, MayFill, NameFilled, with_names}
use Rattle.name_cache.proofs.KeyLemmas.{same_key_laws, name_read}
use Rattle.name_cache.proofs.TrueLemmas.{filled_true}
use Rattle.vnode_cache.specs.Nodes.{Nodes, TrueNodes}
use Rattle.cached_disk.specs.Lent.{AreLent}
use Rattle.cached_disk.specs.TreeLent.{TreeParts, tree_parts, NamesLent, NodesLent, AllLent, StandsThrough, HasPins, TreeGoesOn, with_cached}
use Rattle.cached_disk.proofs.Absent.{no_slot_of}
use Rattle.cached_disk.proofs.Moved.{nodes_moved, blocks_moved}

-- a name that isn't cached may be filled
pub name_absent : (heap : Heap) (purse : Purse) (names : Order NameKey) (key : NameKey) → NamesLent heap purse names → cached_node heap.names names key ≡ None → name_slot names key ≡ None
name_absent heap purse names key lent none = no_slot_of same_key_laws same_name _ (λ (n : Name). n.node) heap.names names key lent.keeps none

pub name_may_fill : (heap : Heap) (purse : Purse) (names : Order NameKey) → CanPay heap purse → NamesLent heap purse names → MayFill names purse
name_may_fill heap purse names pays lent = elim (cases_lt 0 purse.left.name) [
  | inl some ↦
      let fits : count heap.names < heap.heap / size class.Name = omega (arith, pays, some) in
      inl (some, omega (arith, fits, lent.room, lent.keeps.many))
  | inr none ↦ let nothing : purse.left.name ≡ 0 = omega arith in inr (nothing, omega (arith, lent.some, nothing))
]

module _ (dir : ℕ) (name : List ℕ) (node : ℕ) (old new : Heap) (before after : Purse) (had has : Order NameKey) (vnodes : Nodes) (blocks : Order ℕ) (disk : Disk) (filled : NameFilled (name_of (name_key dir name) node) old new before after had has) (paid : IsPaid old before new after) where
  made : Name
  made = name_of (name_key dir name) node

  step_heap : new ≡ record old { names = new.names; high = new.high }
  step_heap =
      let e : new ≡ record old { names = put filled.between.names filled.slot (name_of (name_key dir name) node); high = new.high } = filled.added.heap ∙ ap (λ (h : Heap). record h { names = put filled.between.names filled.slot (name_of (name_key dir name) node); high = new.high }) filled.room.heap in
      e ∙ ap (λ (h : Heap). record old { names = h.names; high = h.high }) (sym e)

  step_purse : after ≡ with_names before after.left.name after.names
  step_purse =
      let e = filled.added.purse ∙ ap (λ (p : Purse). with_names p (p.left.name - 1) (p.names ++ filled.slot ∷ [])) filled.room.purse in
      e ∙ ap (λ (p : Purse). with_names before p.left.name p.names) (sym e)

  step_capacity : has.capacity ≡ had.capacity
  step_capacity = ap (λ (o : Order NameKey). o.capacity) filled.added.cache ∙ ap (λ (o : Order NameKey). o.capacity) filled.room.cache

  same_vnodes : new.vnodes ≡ old.vnodes
  same_vnodes = ap (λ (h : Heap). h.vnodes) step_heap

  same_blocks : new.blocks ≡ old.blocks
  same_blocks = ap (λ (h : Heap). h.blocks) step_heap

  pub name_goes_on : TreeGoesOn (tree_parts old before had vnodes blocks disk) (tree_parts new after has vnodes blocks disk)
  name_goes_on = record {
    heap = step_heap ∙ ap (λ (h : Heap). record old { vnodes = h.vnodes; names = new.names; blocks = h.blocks; high = new.high }) (sym step_heap);
    purse = step_purse ∙ ap (with_cached before) (sym step_purse);
    paid = paid;
    capacities = (step_capacity, refl, refl);
    bytes = refl;
    reads = le_refl _;
    pins = λ pins pinned. subst (λ (o : List (Option Vnode)). HasPins pins o) (sym same_vnodes) pinned;
  }

  pub name_all_lent : KeepsNames new.names has → HasNameFills new after → AllLent old before had vnodes blocks disk → AllLent new after has vnodes blocks disk
  name_all_lent keeps fills lent =
      let long : length after.names ≡ length filled.purse.names + 1 = ap (λ (p : Purse). length p.names) filled.added.purse ∙ length-append filled.purse.names (filled.slot ∷ []) in
      let whole : after.need.name ≡ before.need.name = ap (λ n. n.name) paid.need in
      record {
        of_names = record {
          keeps = keeps;
          fills = fills;
          few = rw whole lent.of_names.few;
          some = omega arith;
          room = rw (paid.heap, step_capacity) lent.of_names.room;
        };
        of_nodes = nodes_moved old new before after vnodes disk disk same_vnodes paid.heap (ap (λ (p : Purse). p.vnodes) step_purse) (ap (λ (p : Purse). p.left.vnode) step_purse) paid.need refl lent.of_nodes;
        of_blocks = blocks_moved old new before after blocks disk same_blocks paid.heap (ap (λ (p : Purse). p.blocks) step_purse) (ap (λ (p : Purse). p.left.block) step_purse) paid.need (CanPay-kept old new before after paid lent.of_blocks.pays) lent.of_blocks;
      }

  pub name_stands : (tree : Tree) → found tree dir name ≡ Some node → StandsThrough (tree_parts old before had vnodes blocks disk) tree → StandsThrough (tree_parts new after has vnodes blocks disk) tree
  name_stands tree is stands = record {
    behind = stands.behind;
    is_tree = stands.is_tree;
    names = filled_true (found tree) (name_of (name_key dir name) node) old new before after had has stands.names (ap (found tree dir) (name_read name) ∙ is) filled;
    nodes = subst (λ (o : List (Option Vnode)). TrueNodes (HasNode disk.blocks) o) (sym same_vnodes) stands.nodes;
  }

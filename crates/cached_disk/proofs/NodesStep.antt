-- Where an inode is filled, all that is lent goes on, and the other caches stay.
use Rattle.std.proofs.Common.{◌≡◌, ◌≢◌, ℕ, zero, suc, ◌+◌, ◌-◌, ◌*◌, ◌/◌, ◌<◌, ◌≤◌, true, false, List, [], ◌∷◌, ◌++◌, length, min, Option, Some, None, IsSome, nat_eq, eqb-true, refl, sym, ap, ◌∙◌, subst, inl, inr, arith, le_refl, length-append}
use Rattle.std.specs.Prelude.{slice_index_or, remove}
use Rattle.std.specs.List.{Contains}
use Rattle.std.specs.Cmp.{nat_eq_equiv}
use Rattle.std.specs.Option.{option_map}
use Rattle.std.proofs.lemmas.Bool.{cases_eq, cases_lt, false≢true}
use Rattle.std.proofs.lemmas.List.Elements.{Contains-append_cases, Contains-append_right}
use Rattle.kabi_types.specs.Class.{size}
use Rattle.kabi_types.specs.declared.classes.Class.TheVariants as class
use Rattle.kabi_types.specs.declared.inodes.Inode.{Inode}
use Rattle.kheap_slabs.specs.Objects.{object, InUse, count, put, without}
use Rattle.kheap_slabs.specs.Purse.{Purse}
use Rattle.kheap_slabs.specs.declared.objects.Vnode.{Vnode}
use Rattle.kheap_slabs.proofs.ObjectLemmas.{object-put, object-put_other, object-without_other, InUse-within, length-put, object_of}
use Rattle.kheap_slabs.specs.Heap.{Heap}
use Rattle.kheap_slabs.specs.Paid.{CanPay, IsPaid}
use Rattle.kheap_laws.proofs.PaidLemmas.{CanPay-kept}
use Rattle.kheap_laws.proofs.OnceLemmas.{Contains-single}
use Rattle.lru_index.specs.Order.{Order}
use Rattle.lru_index.specs.declared.keys.NameKey.{NameKey}
use Rattle.cache_laws.proofs.KeepsLemmas.{true_put, true_without}
use Rattle.disk_layout.specs.Disk.{Disk}
use Rattle.posix_defs.specs.DiskFormat.{table_nodes}
use Rattle.posix_defs.specs.SoundDisk.{HasNode}
use Rattle.posix_defs.specs.Tree.{Tree, found}
use Rattle.name_cache.specs.Names.{TrueNames}
use Rattle.vnode_cache.specs.Nodes.{Nodes, node_slot, cached_inode, KeepsNodes, TrueNodes, is_loose, IsLoose, AreLoose, SomeLoose, IsFirstLoose}
use Rattle.vnode_cache.specs.Calls.{new_vnode, HasNodeFills, MayFill, NodeFilled, FillDropped, with_vnodes}
use Rattle.vnode_cache.proofs.TrueLemmas.{filled_true}
use Rattle.vnode_cache.proofs.LooseLemmas.{loose_rest, loose_first}
use Rattle.cached_disk.specs.Lent.{AreLent}
use Rattle.cached_disk.specs.TreeLent.{TreeParts, tree_parts, NamesLent, NodesLent, AllLent, StandsThrough, HasPins, TreeGoesOn, with_cached}
use Rattle.cached_disk.proofs.Absent.{no_slot_of}
use Rattle.cached_disk.proofs.Few.{AreFound, fewer}
use Rattle.cached_disk.proofs.Moved.{names_moved, blocks_moved}

-- ---- an inode that isn't cached may be filled

pub node_absent : (heap : Heap) (purse : Purse) (vnodes : Nodes) (disk : Disk) (number : ℕ) → NodesLent heap purse vnodes disk → cached_inode heap.vnodes vnodes number ≡ None → node_slot vnodes number ≡ None
node_absent heap purse vnodes disk number lent none = no_slot_of nat_eq_equiv eqb-true (λ (v : Vnode). v.number) (λ (v : Vnode). v.inode) heap.vnodes vnodes.order number lent.keeps.kept none

-- the number of a node, counted from 0
abbrev from_zero : Vnode → ℕ
from_zero v = v.number - 1

-- fewer Vnodes are there than the disk has nodes, where one of these isn't cached
fewer_than_nodes : (objects : List (Option Vnode)) (vnodes : Nodes) (disk : List (List ℕ)) (number : ℕ) → KeepsNodes objects vnodes → TrueNodes (HasNode disk) objects → 0 < number → number ≤ table_nodes (length disk) → node_slot vnodes number ≡ None → count objects < table_nodes (length disk)
fewer_than_nodes objects vnodes disk number keeps are above within absent =
    fewer from_zero (table_nodes (length disk)) objects find (number - 1) (record { there = there; only = λ k slot is. only k slot (object objects slot) refl is }) (λ k slot is. below k slot (object objects slot) refl is) (omega arith) (ap (node_slot vnodes) (let e : number - 1 + 1 ≡ number = omega arith in e) ∙ absent)
  where
    find : ℕ → Option ℕ
    find k = node_slot vnodes (k + 1)

    there : (k slot : ℕ) → find k ≡ Some slot → option_map from_zero (object objects slot) ≡ Some k
    there k slot is = by_object (object objects slot) (keeps.kept.there (k + 1) slot is)
      where
        by_object : (o : Option Vnode) → option_map (λ (v : Vnode). v.number) o ≡ Some (k + 1) → option_map from_zero o ≡ Some k
        by_object None none = cc
        by_object (Some v) some = let e : v.number ≡ k + 1 = cc in let f : v.number - 1 ≡ k = omega arith in ap Some f

    only : (k slot : ℕ) (o : Option Vnode) → object objects slot ≡ o → option_map from_zero (object objects slot) ≡ Some k → find k ≡ Some slot
    only k slot None none is = let gone = ap (option_map from_zero) none in absurd (cc)
    only k slot (Some v) some is =
        let named = ap (option_map from_zero) some in
        let one : v.number - 1 ≡ k = cc in
        let number = (are slot v some).0.number in
        let e : v.number ≡ k + 1 = omega (arith, number.0, one) in
        keeps.kept.only (k + 1) slot (ap (option_map (λ (x : Vnode). x.number)) some ∙ ap Some e)

    below : (k slot : ℕ) (o : Option Vnode) → object objects slot ≡ o → option_map from_zero (object objects slot) ≡ Some k → k < table_nodes (length disk)
    below k slot None none is = let gone = ap (option_map from_zero) none in absurd (cc)
    below k slot (Some v) some is =
        let named = ap (option_map from_zero) some in
        let one : v.number - 1 ≡ k = cc in
        let number = (are slot v some).0.number in
        omega (arith, number.0, number.1, one)

pub node_may_fill : (heap : Heap) (purse : Purse) (vnodes : Nodes) (disk : Disk) (number : ℕ) → CanPay heap purse → NodesLent heap purse vnodes disk → TrueNodes (HasNode disk.blocks) heap.vnodes → 0 < number → number ≤ table_nodes (length disk.blocks) → node_slot vnodes number ≡ None → MayFill heap vnodes purse
node_may_fill heap purse vnodes disk number pays lent are above within absent = elim (cases_lt 0 purse.left.vnode) [
  | inl some ↦
      let in_heap : count heap.vnodes < heap.heap / size class.Vnode = omega (arith, pays, some) in
      let on_disk = fewer_than_nodes heap.vnodes vnodes disk.blocks number lent.keeps are above within absent in
      inl (some, omega (arith, in_heap, on_disk, lent.room, lent.keeps.kept.many))
  | inr none ↦
      let nothing : purse.left.vnode ≡ 0 = omega arith in
      let one : 0 < length purse.vnodes = omega (arith, lent.some, nothing) in
      inr (nothing, (0, one, loose_first heap.vnodes purse.vnodes one lent.loose))
]

-- ---- who is held

no_pins : (objects : List (Option Vnode)) (slot : ℕ) (v : Vnode) → IsLoose objects slot → object objects slot ≡ Some v → v.pins ≡ 0
no_pins objects slot v loose there = eqb-true v.pins 0 (sym (ap is_loose there) ∙ loose)

pub pins_without : (pins : ℕ → ℕ) (objects : List (Option Vnode)) (slot : ℕ) → IsLoose objects slot → HasPins pins objects → HasPins pins (without objects slot)
pins_without pins objects slot loose has = record {
  each = true_without (λ (v : Vnode). v.pins ≡ pins v.number) objects slot has.each;
  held = λ number some.
      let at = has.held number some in
      let differs : at.0 ≢ slot = λ e.
      let none = no_pins objects slot at.1 loose (ap (object objects) (sym e) ∙ at.2) in
      let so = has.each at.0 at.1 at.2 in
      let here : pins number ≡ 0 = ap pins (sym at.3) ∙ sym so ∙ none in
      omega arith
      in
      (at.0, at.1, object-without_other objects slot at.0 differs ∙ at.2, at.3);
}

pins_put : (pins : ℕ → ℕ) (objects : List (Option Vnode)) (slot : ℕ) (made : Vnode) → object objects slot ≡ None → made.pins ≡ pins made.number → HasPins pins objects → HasPins pins (put objects slot made)
pins_put pins objects slot made vacant is has = record {
  each = true_put (λ (v : Vnode). v.pins ≡ pins v.number) objects slot made is has.each;
  held = λ number some.
      let at = has.held number some in
      let differs : at.0 ≢ slot = λ e. let here : object objects slot ≡ Some at.1 = ap (object objects) (sym e) ∙ at.2 in cc in
      (at.0, at.1, object-put_other objects slot at.0 made differs ∙ at.2, at.3);
}

-- who isn't cached isn't held
pub absent_pins : (pins : ℕ → ℕ) (objects : List (Option Vnode)) (vnodes : Nodes) (number : ℕ) → KeepsNodes objects vnodes → HasPins pins objects → node_slot vnodes number ≡ None → 0 ≡ pins number
absent_pins pins objects vnodes number keeps has absent = elim (cases_lt 0 (pins number)) [
  | inl some ↦
      let at = has.held number some in
      let there : node_slot vnodes number ≡ Some at.0 = keeps.kept.only number at.0 (ap (option_map (λ (v : Vnode). v.number)) at.2 ∙ ap Some at.3) in
      absurd (cc)
  | inr none ↦ omega arith
]

-- ---- no one holds what was filled

loose_put : (objects : List (Option Vnode)) (slots : List ℕ) (slot : ℕ) (made : Vnode) → object objects slot ≡ None → slot < length objects → made.pins ≡ 0 → AreLoose objects slots → AreLoose (put objects slot made) (slots ++ slot ∷ [])
loose_put objects slots slot made vacant within none are other there = elim (Contains-append_cases slots (slot ∷ []) other there) [
  | inl before ↦
      let differs : other ≢ slot = λ e.
      let loose = are other before in
      let here : is_loose (object objects other) ≡ false = ap (λ s. is_loose (object objects s)) e ∙ ap is_loose vacant in
      absurd (false≢true (sym here ∙ loose))
      in
      ap is_loose (object-put_other objects slot other made differs) ∙ are other before
  | inr it ↦
      let one : slot ≡ other = Contains-single slot other it in
      ap (λ s. is_loose (object (put objects slot made) s)) (sym one) ∙ ap is_loose (object-put objects slot made within) ∙ ap (λ n. nat_eq n 0) none
]

-- the first of those that no one holds is the first of all
first_is_first : (objects : List (Option Vnode)) (slots : List ℕ) (at : ℕ) → AreLoose objects slots → IsFirstLoose objects slots at → at ≡ 0
first_is_first objects slots zero are first = refl
first_is_first objects slots (suc at) are first =
    let within : 0 < length slots = omega (arith, first.within) in
    let loose = loose_first objects slots within are in
    absurd (false≢true (sym (first.before 0 (omega arith)) ∙ loose))

module _ (number : ℕ) (inode : Inode) (old new : Heap) (before after : Purse) (had has : Nodes) (names : Order NameKey) (blocks : Order ℕ) (disk : Disk) (filled : NodeFilled (new_vnode number inode) old new before after had has) (paid : IsPaid old before new after) where
  made : Vnode
  made = new_vnode number inode

  -- where room is made, a Vnode may have gone
  room_heap : filled.between ≡ record old { vnodes = filled.between.vnodes }
  room_heap = elim (cases_eq before.left.vnode 0) [
    | inl none ↦ let e = (filled.room.none none).2.heap in e ∙ ap (λ (h : Heap). record old { vnodes = h.vnodes }) (sym e)
    | inr some ↦ let e = (filled.room.enough some).0.heap in e ∙ ap (λ (h : Heap). record old { vnodes = h.vnodes }) (sym e)
  ]

  room_purse : filled.purse ≡ with_vnodes before filled.purse.left.vnode filled.purse.vnodes
  room_purse = elim (cases_eq before.left.vnode 0) [
    | inl none ↦ let e = (filled.room.none none).2.purse in e ∙ ap (λ (p : Purse). with_vnodes before p.left.vnode p.vnodes) (sym e)
    | inr some ↦ let e = (filled.room.enough some).1 in e ∙ ap (λ (p : Purse). with_vnodes before p.left.vnode p.vnodes) (sym e)
  ]

  room_capacity : filled.cache.order.capacity ≡ had.order.capacity
  room_capacity = elim (cases_eq before.left.vnode 0) [
    | inl none ↦ ap (λ (n : Nodes). n.order.capacity) (filled.room.none none).2.cache
    | inr some ↦ ap (λ (n : Nodes). n.order.capacity) (filled.room.enough some).0.cache
  ]

  step_heap : new ≡ record old { vnodes = new.vnodes; high = new.high }
  step_heap =
      let e = filled.added.heap ∙ ap (λ (h : Heap). record h { vnodes = put filled.between.vnodes filled.slot (new_vnode number inode); high = new.high }) room_heap in
      e ∙ ap (λ (h : Heap). record old { vnodes = h.vnodes; high = h.high }) (sym e)

  step_purse : after ≡ with_vnodes before after.left.vnode after.vnodes
  step_purse =
      let e = filled.added.purse ∙ ap (λ (p : Purse). with_vnodes p (filled.purse.left.vnode - 1) (filled.purse.vnodes ++ filled.slot ∷ [])) room_purse in
      e ∙ ap (λ (p : Purse). with_vnodes before p.left.vnode p.vnodes) (sym e)

  step_capacity : has.order.capacity ≡ had.order.capacity
  step_capacity = ap (λ (n : Nodes). n.order.capacity) filled.added.cache ∙ room_capacity

  same_names : new.names ≡ old.names
  same_names = ap (λ (h : Heap). h.names) step_heap

  same_blocks : new.blocks ≡ old.blocks
  same_blocks = ap (λ (h : Heap). h.blocks) step_heap

  room_pins : (pins : ℕ → ℕ) → HasPins pins old.vnodes → HasPins pins filled.between.vnodes
  room_pins pins pinned = elim (cases_eq before.left.vnode 0) [
    | inl none ↦ let d = filled.room.none none in subst (λ (h : Heap). HasPins pins h.vnodes) (sym d.2.heap) (pins_without pins old.vnodes (slice_index_or before.vnodes d.0 0) d.1.loose pinned)
    | inr some ↦ subst (λ (h : Heap). HasPins pins h.vnodes) (sym (filled.room.enough some).0.heap) pinned
  ]

  step_pins : (pins : ℕ → ℕ) → 0 ≡ pins number → HasPins pins old.vnodes → HasPins pins new.vnodes
  step_pins pins none pinned = subst (λ (h : Heap). HasPins pins h.vnodes) (sym filled.added.heap) (pins_put pins filled.between.vnodes filled.slot (new_vnode number inode) filled.added.vacant none (room_pins pins pinned))

  room_loose : NodesLent old before had disk → AreLoose filled.between.vnodes filled.purse.vnodes
  room_loose lent = elim (cases_eq before.left.vnode 0) [
    | inl none ↦
        let d = filled.room.none none in
        let first = first_is_first old.vnodes before.vnodes d.0 lent.loose d.1 in
        let heap : filled.between ≡ record old { vnodes = without old.vnodes (slice_index_or before.vnodes 0 0) } = d.2.heap ∙ ap (λ (at : ℕ). record old { vnodes = without old.vnodes (slice_index_or before.vnodes at 0) }) first in
        let fills : filled.purse.vnodes ≡ remove before.vnodes 0 = ap (λ (p : Purse). p.vnodes) d.2.purse ∙ ap (remove before.vnodes) first in
        subst (λ (h : Heap). AreLoose h.vnodes filled.purse.vnodes) (sym heap) (subst (λ (k : List ℕ). AreLoose (without old.vnodes (slice_index_or before.vnodes 0 0)) k) (sym fills) (loose_rest old.vnodes before.vnodes lent.fills.once lent.loose))
    | inr some ↦
        let e = filled.room.enough some in
        subst (λ (h : Heap). AreLoose h.vnodes filled.purse.vnodes) (sym e.0.heap) (subst (λ (p : Purse). AreLoose old.vnodes p.vnodes) (sym e.1) lent.loose)
  ]

  fills_are : after.vnodes ≡ filled.purse.vnodes ++ filled.slot ∷ []
  fills_are = ap (λ (p : Purse). p.vnodes) filled.added.purse

  slot_within : HasNodeFills new after → filled.slot < length filled.between.vnodes
  slot_within fills =
      let there : Contains after.vnodes filled.slot = subst (λ (k : List ℕ). Contains k filled.slot) (sym fills_are) (Contains-append_right filled.purse.vnodes (filled.slot ∷ []) filled.slot (0, omega arith, refl)) in
      let used = subst (λ (h : Heap). InUse h.vnodes filled.slot) filled.added.heap (fills.used filled.slot there) in
      rw length-put at (InUse-within (put filled.between.vnodes filled.slot (new_vnode number inode)) filled.slot used)

  step_loose : HasNodeFills new after → NodesLent old before had disk → AreLoose new.vnodes after.vnodes
  step_loose fills lent =
      subst (λ (h : Heap). AreLoose h.vnodes after.vnodes) (sym filled.added.heap)
      (subst (λ (k : List ℕ). AreLoose (put filled.between.vnodes filled.slot (new_vnode number inode)) k) (sym fills_are) (loose_put filled.between.vnodes filled.purse.vnodes filled.slot (new_vnode number inode) filled.added.vacant (slot_within fills) refl (room_loose lent)))

  pub node_goes_on : KeepsNodes old.vnodes had → node_slot had number ≡ None → TreeGoesOn (tree_parts old before names had blocks disk) (tree_parts new after names has blocks disk)
  node_goes_on keeps absent = record {
    heap = step_heap ∙ ap (λ (h : Heap). record old { vnodes = new.vnodes; names = h.names; blocks = h.blocks; high = new.high }) (sym step_heap);
    purse = step_purse ∙ ap (with_cached before) (sym step_purse);
    paid = paid;
    capacities = (refl, step_capacity, refl);
    bytes = refl;
    reads = le_refl _;
    pins = λ pins pinned. step_pins pins (absent_pins pins old.vnodes had number keeps pinned absent) pinned;
  }

  pub node_all_lent : KeepsNodes new.vnodes has → HasNodeFills new after → AllLent old before names had blocks disk → AllLent new after names has blocks disk
  node_all_lent keeps fills lent =
      let long : length after.vnodes ≡ length filled.purse.vnodes + 1 = ap length fills_are ∙ length-append filled.purse.vnodes (filled.slot ∷ []) in
      let whole : after.need.vnode ≡ before.need.vnode = ap (λ n. n.vnode) paid.need in
      record {
        of_names = names_moved old new before after names same_names paid.heap (ap (λ (p : Purse). p.names) step_purse) (ap (λ (p : Purse). p.left.name) step_purse) paid.need lent.of_names;
        of_nodes = record {
          keeps = keeps;
          fills = fills;
          loose = step_loose fills lent.of_nodes;
          few = rw whole lent.of_nodes.few;
          some = omega arith;
          room = rw (paid.heap, step_capacity) lent.of_nodes.room;
        };
        of_blocks = blocks_moved old new before after blocks disk same_blocks paid.heap (ap (λ (p : Purse). p.blocks) step_purse) (ap (λ (p : Purse). p.left.block) step_purse) paid.need (CanPay-kept old new before after paid lent.of_blocks.pays) lent.of_blocks;
      }

  pub node_stands : (tree : Tree) → HasNode disk.blocks number inode → StandsThrough (tree_parts old before names had blocks disk) tree → StandsThrough (tree_parts new after names has blocks disk) tree
  node_stands tree is stands = record {
    behind = stands.behind;
    is_tree = stands.is_tree;
    names = subst (λ o. TrueNames (found tree) o) (sym same_names) stands.names;
    nodes = filled_true (HasNode disk.blocks) (new_vnode number inode) old new before after had has stands.nodes is filled;
  }

-- One more holds a node that is cached.
use Rattle.std.proofs.Common.{◌≡◌, ◌≢◌, ℕ, ◌+◌, ◌<◌, cond, List, Option, Some, None, IsSome, eqb-true, refl, sym, ap, ◌∙◌, subst, inl, inr, arith}
use Rattle.std.specs.Cmp.{nat_eq_equiv}
use Rattle.std.specs.Option.{option_map}
use Rattle.std.proofs.lemmas.Bool.{cases_eq, ne_eqb, eq-eqb}
use Rattle.kheap_slabs.specs.Objects.{object, put}
use Rattle.kheap_slabs.specs.declared.objects.Vnode.{Vnode}
use Rattle.kheap_slabs.proofs.ObjectLemmas.{object-put, object-put_other, InUse-within, InUse-put, object_of}
use Rattle.kheap_slabs.specs.Purse.{Purse}
use Rattle.kheap_slabs.specs.Paid.{HasFills, TakesNothing}
use Rattle.kheap_laws.proofs.PaidLemmas.{IsPaid-trans, IsPaid-nothing}
use Rattle.kheap_laws.proofs.FillLemmas.{AreFills-kept}
use Rattle.kheap_slabs.specs.Heap.{Heap}
use Rattle.cache_laws.proofs.KeepsLemmas.{keeps_used, cached_is}
use Rattle.posix_defs.specs.SoundDisk.{HasNode}
use Rattle.posix_defs.specs.Tree.{Tree}
use Rattle.vnode_cache.specs.Nodes.{Nodes, node_slot, cached_inode, cached_pins, KeepsNodes}
use Rattle.vnode_cache.specs.Calls.{NodeSet}
use Rattle.vnode_cache.proofs.TrueLemmas.{pinned_true}
use Rattle.cached_disk.specs.TreeLent.{HasPins}
use Rattle.memfs_ops.specs.FileTree.{TreeView, Stands, one_more, Looks, Pays}

-- the Vnode of a cached node
pub record IsCachedAs (objects : List (Option Vnode)) (cache : Nodes) (number : ℕ) : Type 0 where
  pub slot : ℕ
  pub vnode : Vnode
  pub there : node_slot cache number ≡ Some slot
  pub is : object objects slot ≡ Some vnode
  pub named : vnode.number ≡ number

same_number : (v : Vnode) (number : ℕ) → ◌≡◌ {A = Option ℕ} (Some v.number) (Some number) → v.number ≡ number
same_number v number e = cc

same_count : (a b : ℕ) → ◌≡◌ {A = Option ℕ} (Some a) (Some b) → a ≡ b
same_count a b e = cc

pub cached_as : (objects : List (Option Vnode)) (cache : Nodes) (number : ℕ) → KeepsNodes objects cache → IsSome (node_slot cache number) → IsCachedAs objects cache number
cached_as objects cache number keeps some = (elim (node_slot cache number) as (λ (o : Option ℕ). node_slot cache number ≡ o → IsSome o → IsCachedAs objects cache number) [
  | None ↦ λ e none. absurd (cc)
  | Some slot ↦ λ e yes.
      let used = keeps_used nat_eq_equiv eqb-true (λ (v : Vnode). v.number) objects cache.order number slot keeps.kept e in
      let v = object_of objects slot used in
      record { slot = slot; vnode = v.0; there = e; is = v.1; named = same_number v.0 number (sym (ap (option_map (λ (x : Vnode). x.number)) v.1) ∙ keeps.kept.there number slot e) }
]) refl some

-- who is held is cached
pub held_cached : (pins : ℕ → ℕ) (objects : List (Option Vnode)) (cache : Nodes) (number : ℕ) → KeepsNodes objects cache → HasPins pins objects → 0 < pins number → IsSome (node_slot cache number)
held_cached pins objects cache number keeps has some =
    let at = has.held number some in
    subst (λ (o : Option ℕ). IsSome o) (sym (keeps.kept.only number at.0 (ap (option_map (λ (v : Vnode). v.number)) at.2 ∙ ap Some at.3))) refl

one_more_here : (pins : ℕ → ℕ) (number other : ℕ) → number ≡ other → one_more pins number other ≡ pins other + 1
one_more_here pins number other e = ap (λ b. cond b (pins other + 1) (pins other)) (eq-eqb number other e)

one_more_there : (pins : ℕ → ℕ) (number other : ℕ) → number ≢ other → one_more pins number other ≡ pins other
one_more_there pins number other n = ap (λ b. cond b (pins other + 1) (pins other)) (ne_eqb number other n)

pub pins_pinned : (pins : ℕ → ℕ) (objects : List (Option Vnode)) (cache : Nodes) (number : ℕ) → KeepsNodes objects cache → HasPins pins objects → (at : IsCachedAs objects cache number) → HasPins (one_more pins number) (put objects at.slot (record at.vnode { pins = at.vnode.pins + 1 }))
pins_pinned pins objects cache number keeps has at = record {
  each = λ s v there. elim (cases_eq s at.slot) [
    | inl e ↦
        let both : Some now ≡ Some v = sym stored ∙ ap (object (put objects at.slot now)) (sym e) ∙ there in
        let one : now ≡ v = cc in
        subst (λ (w : Vnode). w.pins ≡ one_more pins number w.number) one (ap (λ n. n + 1) (has.each at.slot at.vnode at.is) ∙ sym (one_more_here pins number at.vnode.number (sym at.named)))
    | inr differs ↦
        let here : object objects s ≡ Some v = sym (object-put_other objects at.slot s now differs) ∙ there in
        let unlike : number ≢ v.number = λ e.
        let other : node_slot cache number ≡ Some s = keeps.kept.only number s (ap (option_map (λ (x : Vnode). x.number)) here ∙ ap Some (sym e)) in
        let both : Some s ≡ Some at.slot = sym other ∙ at.there in
        let one : s ≡ at.slot = cc in
        differs one
        in
        has.each s v here ∙ sym (one_more_there pins number v.number unlike)
  ];
  held = λ other some. elim (cases_eq number other) [
    | inl e ↦ (at.slot, now, stored, at.named ∙ e)
    | inr unlike ↦
        let less : 0 < pins other = subst (λ (n : ℕ). 0 < n) (one_more_there pins number other unlike) some in
        let there = has.held other less in
        let differs : there.0 ≢ at.slot = λ e.
        let both : Some there.1 ≡ Some at.vnode = sym there.2 ∙ ap (object objects) e ∙ at.is in
        let one : there.1 ≡ at.vnode = cc in
        unlike (sym at.named ∙ ap (λ (v : Vnode). v.number) (sym one) ∙ there.3)
        in
        (there.0, there.1, object-put_other objects at.slot there.0 now differs ∙ there.2, there.3)
  ];
}
  where
    now : Vnode
    now = record at.vnode { pins = at.vnode.pins + 1 }

    stored : object (put objects at.slot now) at.slot ≡ Some now
    stored = object-put objects at.slot now (InUse-within objects at.slot (subst (λ (o : Option Vnode). IsSome o) (sym at.is) refl))

more_root : (pins : ℕ → ℕ) (number other : ℕ) → 0 < pins other → 0 < one_more pins number other
more_root pins number other some = elim (cases_eq number other) [
  | inl e ↦ rw (one_more_here pins number other e) (omega arith)
  | inr n ↦ rw (one_more_there pins number other n) some
]

-- the tree stands with one pin more
pub stands_pinned : (old new : Heap) (fs : TreeView) (nodes : Nodes) (tree : Tree) (pins : ℕ → ℕ) (number : ℕ) → Stands old fs tree pins → IsSome (node_slot fs.vnodes number) → NodeSet number (λ was. record was { pins = was.pins + 1 }) old new fs.vnodes nodes
    → KeepsNodes new.vnodes nodes → nodes.order ≡ fs.vnodes.order → Stands new (record fs { vnodes = nodes }) tree (one_more pins number)
stands_pinned old new fs nodes tree pins number stands some set keeps same =
    let at = cached_as old.vnodes fs.vnodes number stands.nodes some in
    let is = set at.slot at.vnode at.there at.is in
    subst (λ (h : Heap). Stands h (record fs { vnodes = nodes }) tree (one_more pins number)) (sym is) (record {
      behind = stands.behind;
      is_tree = stands.is_tree;
      names = stands.names;
      nodes = subst (λ (h : Heap). KeepsNodes h.vnodes nodes) is keeps;
      blocks = stands.blocks;
      true_names = stands.true_names;
      true_nodes = pinned_true (HasNode fs.disk.blocks) old.vnodes at.slot at.vnode (at.vnode.pins + 1) stands.true_nodes at.is;
      true_blocks = stands.true_blocks;
      held = pins_pinned pins old.vnodes fs.vnodes number stands.nodes stands.held at;
      root = more_root pins number 1 stands.root;
      room = record { names = stands.room.names; nodes = rw (ap (λ o. o.capacity) same) stands.room.nodes; blocks = stands.room.blocks };
    })

-- how many hold a cached node is not too many
pub small_pins : (pins : ℕ → ℕ) (objects : List (Option Vnode)) (cache : Nodes) (number count : ℕ) → KeepsNodes objects cache → HasPins pins objects → IsSome (node_slot cache number) → cached_pins objects cache number ≡ Some count → pins number < 4294967295 → count < 4294967295
small_pins pins objects cache number count keeps has some cached few =
    let at = cached_as objects cache number keeps some in
    let is : cached_pins objects cache number ≡ Some at.vnode.pins = cached_is nat_eq_equiv eqb-true (λ (v : Vnode). v.number) (λ (v : Vnode). v.pins) objects cache.order number at.slot at.vnode at.there at.is in
    let same : at.vnode.pins ≡ count = same_count at.vnode.pins count (sym is ∙ cached) in
    let so : at.vnode.pins ≡ pins number = has.each at.slot at.vnode at.is ∙ ap pins at.named in
    omega (arith, same, so, few)

-- the Vnodes alone are other
pub only_pinned : (old new : Heap) (had has : Nodes) (number : ℕ) → KeepsNodes old.vnodes had → IsSome (node_slot had number) → NodeSet number (λ was. record was { pins = was.pins + 1 }) old new had has → new ≡ record old { vnodes = new.vnodes }
only_pinned old new had has number keeps some set =
    let at = cached_as old.vnodes had number keeps some in
    let is = set at.slot at.vnode at.there at.is in
    is ∙ ap (λ (h : Heap). record old { vnodes = h.vnodes }) (sym is)

-- what a call leaves of all else, where one more holds a node at its end
pub pays_pinned : (old new last : Heap) (before after : Purse) (was is end : TreeView) (number : ℕ) → Looks old new before after was is → KeepsNodes new.vnodes is.vnodes → IsSome (node_slot is.vnodes number) → NodeSet number (λ w. record w { pins = w.pins + 1 }) new last is.vnodes end.vnodes → TakesNothing new last → end.disk.reads ≡ is.disk.reads
    → Pays old last before after was end
pays_pinned old new last before after was is end number looks keeps some set takes reads =
    let at = cached_as new.vnodes is.vnodes number keeps some in
    let here = set at.slot at.vnode at.there at.is in
    let used = subst (λ (o : Option Vnode). IsSome o) (sym at.is) refl in
    let e : last ≡ record old { vnodes = put new.vnodes at.slot (record at.vnode { pins = at.vnode.pins + 1 }); names = new.names; blocks = new.blocks; high = new.high } = here ∙ ap (λ (h : Heap). record h { vnodes = put new.vnodes at.slot (record at.vnode { pins = at.vnode.pins + 1 }) }) looks.on.heap in
    record {
      only = e ∙ ap (λ (h : Heap). record old { vnodes = h.vnodes; names = h.names; blocks = h.blocks; high = h.high }) (sym e);
      purse = looks.on.purse;
      paid = IsPaid-trans old before new after last after looks.on.paid (IsPaid-nothing new last after after takes refl refl);
      fills = subst (λ (h : Heap). HasFills h after) (sym here) (record {
        vnodes = AreFills-kept new.vnodes (put new.vnodes at.slot (record at.vnode { pins = at.vnode.pins + 1 })) after.vnodes after.left.vnode after.need.vnode (λ key there is. InUse-put new.vnodes at.slot (record at.vnode { pins = at.vnode.pins + 1 }) key used is) looks.may.fills.vnodes;
        names = looks.may.fills.names;
        blocks = looks.may.fills.blocks;
      });
      reads = omega (arith, looks.on.reads, reads);
    }

-- an inode that is cached is found
pub inode_cached : (objects : List (Option Vnode)) (cache : Nodes) (number : ℕ) → KeepsNodes objects cache → IsSome (node_slot cache number) → cached_inode objects cache number ≡ None → ⊥
inode_cached objects cache number keeps some none =
    let at = cached_as objects cache number keeps some in
    let is : cached_inode objects cache number ≡ Some at.vnode.inode = cached_is nat_eq_equiv eqb-true (λ (v : Vnode). v.number) (λ (v : Vnode). v.inode) objects cache.order number at.slot at.vnode at.there at.is in
    cc

-- the tree stands where an inode was used
pub stands_used : (heap : Heap) (fs : TreeView) (nodes : Nodes) (tree : Tree) (pins : ℕ → ℕ) → Stands heap fs tree pins → KeepsNodes heap.vnodes nodes → nodes.order.capacity ≡ fs.vnodes.order.capacity → Stands heap (record fs { vnodes = nodes }) tree pins
stands_used heap fs nodes tree pins stands keeps capacity = record {
  behind = stands.behind;
  is_tree = stands.is_tree;
  names = stands.names;
  nodes = keeps;
  blocks = stands.blocks;
  true_names = stands.true_names;
  true_nodes = stands.true_nodes;
  true_blocks = stands.true_blocks;
  held = stands.held;
  root = stands.root;
  room = record { names = stands.room.names; nodes = rw capacity stands.room.nodes; blocks = stands.room.blocks };
}

-- who gets one more is held
pub held_more : (pins : ℕ → ℕ) (number : ℕ) → 0 < one_more pins number number
held_more pins number = rw (one_more_here pins number number refl) (omega arith)

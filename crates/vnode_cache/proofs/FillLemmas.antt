-- What a call filled is there still after a cached Vnode became another.
use Rattle.std.proofs.Common.{◌≡◌, ℕ, Option, Some, None, IsSome, nat_eq, eqb-true, refl, sym, ap, subst}
use Rattle.std.specs.Cmp.{nat_eq_equiv}
use Rattle.kheap_slabs.specs.Objects.{InUse, put}
use Rattle.kheap_slabs.specs.Purse.{Purse}
use Rattle.kheap_slabs.specs.declared.objects.Vnode.{Vnode}
use Rattle.kheap_slabs.proofs.ObjectLemmas.{InUse-put, object_of}
use Rattle.kheap_slabs.specs.Heap.{Heap}
use Rattle.kheap_slabs.specs.Paid.{AreFills}
use Rattle.kheap_laws.proofs.FillLemmas.{AreFills-kept}
use Rattle.cache_laws.proofs.KeepsLemmas.{keeps_used}
use Rattle.vnode_cache.specs.Calls.{HasNodeFills, NodeSet}
use Rattle.vnode_cache.specs.Nodes.{Nodes, node_slot, KeepsNodes}

pub fills_set : (number : ℕ) (change : Vnode → Vnode) (old new : Heap) (had has : Nodes) (purse : Purse) → KeepsNodes old.vnodes had → IsSome (node_slot had number) → NodeSet number change old new had has → HasNodeFills old purse → HasNodeFills new purse
fills_set number change old new had has purse keeps there set fills = by_slot (node_slot had number) refl there
  where
    by_slot : (o : Option ℕ) → node_slot had number ≡ o → IsSome o → HasNodeFills new purse
    by_slot None at some = cc
    by_slot (Some slot) at some =
        let used : InUse old.vnodes slot = keeps_used nat_eq_equiv eqb-true (λ (v : Vnode). v.number) old.vnodes had.order number slot keeps.kept at in
        let found = object_of old.vnodes slot used in
        let is = set slot found.0 at found.1 in
        subst (λ h. HasNodeFills h purse) (sym is) (AreFills-kept old.vnodes (put old.vnodes slot (change found.0)) purse.vnodes purse.left.vnode purse.need.vnode (λ key within here. InUse-put old.vnodes slot (change found.0) key used here) fills)

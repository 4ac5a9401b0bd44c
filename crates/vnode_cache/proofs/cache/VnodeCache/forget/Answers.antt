use Rattle.std.proofs.Common.{sym, ap, ◌∙◌}
use Rattle.vnode_cache.specs.Nodes.{node_slot}
use Rattle.std.proofs.Common.{eqb-true}
use Rattle.std.specs.Cmp.{nat_eq_equiv}
use Rattle.kheap_slabs.specs.declared.objects.Vnode.{Vnode}
use Rattle.cache_laws.proofs.KeepsLemmas.{absent_found}
use Rattle.vnode_cache.proofs.OrderLemmas.{unpinned_is_loose, loose_at}
use Rattle.vnode_cache.proofs.cache.VnodeCache.forget.Goals as goal

pub remove-slot-requires-clause-loose : goal.remove-slot-requires-clause-loose
remove-slot-requires-clause-loose c =
    let at = ap (λ o. node_slot o c.args.number) (sym c.self.view_is) ∙ sym c.in-Some.ensures.slot in
    loose_at c.args.heap.now.vnodes c.args.self.now.order c.args.number _ at (unpinned_is_loose c.args.heap.now.vnodes c.args.self.now c.args.number _ c.requires.keeps at c.requires.unpinned)

pub returns-in_default-clause-slots : goal.returns-in_default-clause-slots
returns-in_default-clause-slots c = absent_found nat_eq_equiv eqb-true (λ (v : Vnode). v.number) c.args.self.now.order c.args.number (ap (λ o. node_slot o c.args.number) (sym c.self.view_is) ∙ sym c.in_default.ensures.slot)

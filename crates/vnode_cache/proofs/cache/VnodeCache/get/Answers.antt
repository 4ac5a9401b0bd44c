use Rattle.std.proofs.Common.{eqb-true, sym, ap, ◌∙◌, subst}
use Rattle.std.specs.Cmp.{nat_eq_equiv}
use Rattle.kheap_slabs.specs.declared.objects.Vnode.{Vnode}
use Rattle.vnode_cache.specs.Nodes.{node_slot, KeepsNodes}
use Rattle.cache_laws.proofs.KeepsLemmas.{keeps_used, keeps_touched}
use Rattle.vnode_cache.proofs.cache.VnodeCache.get.Goals as goal

pub get_vnode-requires : goal.get_vnode-requires
get_vnode-requires c = keeps_used nat_eq_equiv eqb-true (λ (v : Vnode). v.number) c.args.heap.now.vnodes c.args.self.now.order c.args.number c.in-Some.slot c.requires.keeps.kept (ap (λ o. node_slot o c.args.number) (sym c.self.view_is) ∙ sym c.in-Some.ensures.slot)

pub returns-clause-keeps : goal.returns-clause-keeps
returns-clause-keeps c =
    let objects = c.args.heap.now.vnodes in
    let keeps = subst (KeepsNodes objects) (sym c.self.view_is) c.requires.keeps in
    record {
      kept = keeps_touched nat_eq_equiv eqb-true (λ (v : Vnode). v.number) objects c.self.inside.slots c.used.new.self c.args.number keeps.kept c.used.ensures.finds c.used.ensures.pairs;
      loose = keeps.loose;
    }

pub returns-clause-same : goal.returns-clause-same
returns-clause-same c other = c.used.ensures.finds other ∙ ap (λ o. node_slot o other) c.self.view_is

use Rattle.std.proofs.Common.{sym, ap, ◌∙◌}
use Rattle.vnode_cache.specs.Nodes.{node_slot}
use Rattle.vnode_cache.proofs.cache.VnodeCache.slot_of.Goals as goal

pub returns : goal.returns
returns c = ap (λ o. node_slot o c.args.number) (sym c.self.view_is) ∙ sym c.in-Some.ensures.slot

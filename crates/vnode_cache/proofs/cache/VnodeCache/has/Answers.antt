use Rattle.std.proofs.Common.{◌≡◌, rules, IsSome, ap, ◌∙◌, subst}
use Rattle.std.specs.Prelude.{IsTrue}
use Rattle.vnode_cache.specs.Nodes.{node_slot}
use Rattle.vnode_cache.proofs.cache.VnodeCache.has.Goals as goal

pub returns : goal.returns
returns c =
    let slot : c.find.result ≡ node_slot c.args.self.now c.args.number = c.find.ensures.slot ∙ ap (λ o. node_slot o c.args.number) c.self.view_is in
    subst (λ o. (IsTrue c.is_some.result → IsSome o) × (IsSome o → IsTrue c.is_some.result)) slot (search rules)

use Rattle.std.proofs.Common.{◌≡◌, rules, IsSome, ap, ◌∙◌, subst}
use Rattle.std.specs.Prelude.{IsTrue}
use Rattle.name_cache.specs.Names.{name_slot}
use Rattle.name_cache.proofs.cache.NameCache.has.Goals as goal

pub returns : goal.returns
returns c =
    let slot : c.find.result ≡ name_slot c.args.self.now c.args.key = c.find.ensures.slot ∙ ap (λ o. name_slot o c.args.key) c.self.view_is in
    subst (λ o. (IsTrue c.is_some.result → IsSome o) × (IsSome o → IsTrue c.is_some.result)) slot (search rules)

use Rattle.std.proofs.Common.{◌≡◌, Some, sym, ap, ◌∙◌}
use Rattle.lru_index.proofs.index.slot_for.Goals as goal

pub returns-then-eq : goal.returns-then-eq
returns-then-eq g c =
    let pair = c.in-Some.pair in
    let same : pair.0 ≡ c.args.key.now = g.met.K.Key.same pair.0 c.args.key.now (sym c.eq.ensures ∙ c.if-eq.true) in
    c.in-Some.is ∙ ap (λ k. Some (k, pair.1)) same

use Rattle.std.proofs.Common.{sym, ◌∙◌, eq-eqb, eqb-true}
use Rattle.std.proofs.lemmas.Nat.Bits.{shr_and_one}
use Rattle.wait_graph.proofs.circles.circle.Goals as goal

pub returns : goal.returns
returns c =
    let reached = c.reached_from.ensures c.args.from in (
      λ yes. reached.0 (sym (shr_and_one c.reached_from.result c.args.from) ∙ eqb-true _ 1 yes),
      λ chain. eq-eqb _ 1 (shr_and_one c.reached_from.result c.args.from ∙ reached.1 chain),
    )

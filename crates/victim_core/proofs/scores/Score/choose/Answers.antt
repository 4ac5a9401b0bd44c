use Rattle.std.proofs.Common.{take, get_or, refl}
use Rattle.std.proofs.lemmas.List.{take_more, take_all}
use Rattle.kabi_types.specs.declared.classes.Weight.{Weight}
use Rattle.victim_core.proofs.JudgingLemmas.{judged_past_first, judged_past, none_judged}
use Rattle.victim_core.proofs.scores.Score.choose.Goals as goal
use Rattle.victim_core.proofs.scores.Score.choose.Goals.{then-weight-ne-FIRST_PROCESS, else-weight-ne-FIRST_PROCESS}

no_weight : Weight
no_weight = record { pid = 0; frames = 0; nodes = 0; descs = 0 }

pub loop-weight-preserved : goal.loop-weight-preserved
unfolding no_weight
loop-weight-preserved g c =
    let weights = c.args.weights.now in
    let at = c.loop-weight.weight-index in
    let more = take_more weights at no_weight c.loop-weight-test.true in
    elim c.if-weight-ne-FIRST_PROCESS.branch [
      | then-weight-ne-FIRST_PROCESS w ↦ rw (more, w.best-is, w.better.ensures)
          (judged_past c.args.policy (take at weights) (get_or weights at no_weight) w.if-weight-ne-FIRST_PROCESS.true c.loop-weight.best _ w.score.ensures refl c.loop-weight.invariant)
      | else-weight-ne-FIRST_PROCESS w ↦ rw (more, w.best-is)
          (judged_past_first c.args.policy (take at weights) (get_or weights at no_weight) c.loop-weight.best w.if-weight-ne-FIRST_PROCESS.false c.loop-weight.invariant)
    ]

pub returns-clause-none : goal.returns-clause-none
returns-clause-none g c =
    let whole = take_all c.loop-weight.weight-index c.args.weights.now c.loop-weight-test.false in
    none_judged c.args.policy c.args.weights.now c.loop-weight.best c.map.result (rw whole at c.loop-weight.invariant) c.map.ensures.variant

use Rattle.std.proofs.Common.{take}
use Rattle.victim_core.specs.Judging.{IsJudged}
use Rattle.victim_core.proofs.scores.Score.choose.Given as goal

abbrev pub invariant-loop-weight : goal.invariant-loop-weight
invariant-loop-weight g l = IsJudged l.policy (take l.weight-index l.weights) l.best

use Rattle.claim_lines.proofs.Cutting.{NotYet}
use Rattle.claim_lines.proofs.words.cut.Given as goal

abbrev pub invariant-loop-at : goal.invariant-loop-at
invariant-loop-at l = NotYet l.bytes l.at

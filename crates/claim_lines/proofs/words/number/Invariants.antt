use Rattle.std.proofs.Common.{◌≡◌, drop}
use Rattle.claim_lines.specs.Words.{number_after}
use Rattle.claim_lines.proofs.words.number.Given as goal

abbrev pub invariant-loop-digit : goal.invariant-loop-digit
invariant-loop-digit l = number_after 0 l.digits ≡ number_after l.n (drop l.digit-index l.digits)

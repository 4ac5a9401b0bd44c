use Rattle.std.proofs.Common.{◌≡◌, ◌==◌, Some, length}
use Rattle.std.specs.List.{slice_split}
use Rattle.posix_defs.specs.ScriptValues.{constants_said, joined}
use Rattle.script_words.proofs.values.constants.Given as goal

abbrev pub invariant-loop-part : goal.invariant-loop-part
invariant-loop-part l = constants_said l.word ≡ joined (Some l.number) (slice_split (λ byte. byte == 124) l.rest)

abbrev pub decreases-loop-part : goal.decreases-loop-part
decreases-loop-part l = length l.rest

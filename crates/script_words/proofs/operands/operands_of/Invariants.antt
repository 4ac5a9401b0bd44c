use Rattle.std.proofs.Common.{◌≡◌, length}
use Rattle.posix_defs.specs.ScriptValues.{value, each}
use Rattle.script_words.proofs.Faults.{so_far, joined}
use Rattle.script_words.proofs.operands.operands_of.Given as goal

-- all words say what those say that were read, and then the rest
abbrev pub invariant-loop-word : goal.invariant-loop-word
invariant-loop-word l = each value l.words ≡ joined (so_far l.fault l.said.items) (each value l.rest)

abbrev pub decreases-loop-word : goal.decreases-loop-word
decreases-loop-word l = length l.rest

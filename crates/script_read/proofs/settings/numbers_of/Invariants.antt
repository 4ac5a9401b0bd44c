use Rattle.std.proofs.Common.{◌≡◌, length}
use Rattle.posix_defs.specs.ScriptLines.{natural}
use Rattle.posix_defs.specs.ScriptValues.{each}
use Rattle.script_words.proofs.Faults.{so_far, joined}
use Rattle.script_read.proofs.settings.numbers_of.Given as goal

-- all words say what those say that were read, and then the rest
abbrev pub invariant-loop-word : goal.invariant-loop-word
invariant-loop-word l = each (natural 0 4294967295) l.words ≡ joined (so_far l.fault l.said.items) (each (natural 0 4294967295) l.rest)

abbrev pub decreases-loop-word : goal.decreases-loop-word
decreases-loop-word l = length l.rest

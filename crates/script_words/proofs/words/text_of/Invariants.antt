use Rattle.std.proofs.Common.{◌≤◌, length, Option, ℕ, List}
use Rattle.posix_defs.specs.ScriptWords.{SaysText}
use Rattle.script_words.proofs.Fronts.{before_text}
use Rattle.script_words.proofs.words.text_of.Given as goal

-- whatever the rest says, the whole says with what was read before it
abbrev pub invariant-loop-byte : goal.invariant-loop-byte
invariant-loop-byte l = ((said : Option (List ℕ × List ℕ)) → SaysText l.rest said → SaysText l.bytes (before_text l.text.items said)) × (length l.rest ≤ length l.bytes)

abbrev pub decreases-loop-byte : goal.decreases-loop-byte
decreases-loop-byte l = length l.rest

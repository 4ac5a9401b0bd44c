use Rattle.std.proofs.Common.{length, Option, List}
use Rattle.posix_defs.specs.declared.said.Word.{Word}
use Rattle.posix_defs.specs.ScriptWords.{Words}
use Rattle.script_words.proofs.Fronts.{before_words}
use Rattle.script_words.proofs.words.words_of.Given as goal

-- whatever words the rest has, the whole has behind those that were read
abbrev pub invariant-loop-first : goal.invariant-loop-first
invariant-loop-first l = (said : Option (List Word)) → Words l.rest said → Words l.line (before_words l.words.items said)

abbrev pub decreases-loop-first : goal.decreases-loop-first
decreases-loop-first l = length l.rest

use Rattle.std.proofs.Common.{◌≡◌, length}
use Rattle.posix_defs.specs.ScriptWords.{is_comment}
use Rattle.script_words.proofs.words.is_comment.Given as goal

abbrev pub invariant-loop-byte : goal.invariant-loop-byte
invariant-loop-byte l = is_comment l.line ≡ is_comment l.rest

abbrev pub decreases-loop-byte : goal.decreases-loop-byte
decreases-loop-byte l = length l.rest

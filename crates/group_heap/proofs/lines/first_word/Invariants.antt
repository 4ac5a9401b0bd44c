use Rattle.std.proofs.Common.{◌≡◌, length}
use Rattle.group_heap.specs.Texts.{first_word}
use Rattle.group_heap.proofs.lines.first_word.Given as goal

abbrev pub invariant-loop-byte : goal.invariant-loop-byte
invariant-loop-byte l = first_word l.rest ≡ first_word l.line

abbrev pub decreases-loop-byte : goal.decreases-loop-byte
decreases-loop-byte l = length l.rest

use Rattle.std.proofs.Common.{◌≡◌, ℕ, ◌+◌, List, ◌++◌, length}
use Rattle.group_heap.specs.Texts.{IsWithin, lines_of}
use Rattle.group_heap.proofs.Cutting.{bytes_of}
use Rattle.group_heap.proofs.lines.cut_section.Given as goal

-- the lines that were passed, of which none begins a section
abbrev pub invariant-loop-first : goal.invariant-loop-first
invariant-loop-first l = (passed : List (List ℕ)) × (lines_of l.text ≡ passed ++ lines_of l.rest) × IsWithin passed
    × (l.lines ≡ length passed) × (l.end ≡ bytes_of passed) × (l.end + length l.rest ≡ length l.text)

abbrev pub decreases-loop-first : goal.decreases-loop-first
decreases-loop-first l = length l.rest

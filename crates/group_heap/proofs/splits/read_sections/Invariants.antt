use Rattle.std.proofs.Common.{◌+◌, ◌≤◌, length}
use Rattle.group_heap.proofs.Reading.{SectionsTo}
use Rattle.group_heap.proofs.splits.read_sections.Given as goal

-- what is read, and that the numbers of lines fit
abbrev pub invariant-loop-name : goal.invariant-loop-name
invariant-loop-name l = SectionsTo l.fn.sections.items l.fn.line l.fn.text l.sections.items l.number l.rest
    × (l.number + length l.rest ≤ 1048577) × (length l.sections.items ≤ 8)

abbrev pub decreases-loop-name : goal.decreases-loop-name
decreases-loop-name l = length l.rest

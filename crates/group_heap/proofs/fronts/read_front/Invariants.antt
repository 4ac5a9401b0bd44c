use Rattle.std.proofs.Common.{◌+◌, ◌≤◌, length}
use Rattle.group_heap.proofs.Reading.{FrontTo}
use Rattle.group_heap.proofs.fronts.read_front.Given as goal

abbrev pub invariant-loop-bytes : goal.invariant-loop-bytes
invariant-loop-bytes l = FrontTo l.fn.text l.whole l.line l.rest × (l.line + length l.rest ≤ 1048577)

abbrev pub decreases-loop-bytes : goal.decreases-loop-bytes
decreases-loop-bytes l = length l.rest

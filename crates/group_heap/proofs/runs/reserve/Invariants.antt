use Rattle.std.proofs.Common.{◌≡◌}
use Rattle.group_heap.proofs.runs.reserve.Given as goal

abbrev pub invariant-loop : goal.invariant-loop
invariant-loop g l = (l.seat.charge ≡ l.fn.seat.charge) × (l.seat.known.holds ≡ l.fn.seat.known.holds)

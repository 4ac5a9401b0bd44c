use Rattle.std.proofs.Common.{◌≡◌, ◌++◌, true, map, take, drop}
use Rattle.group_heap.specs.Seats.{unseated}
use Rattle.group_heap.proofs.runs.take_seats.Given as goal

-- the groups before the place have no seat any more
abbrev pub invariant-loop-group : goal.invariant-loop-group
invariant-loop-group g l = record {
  groups : l.groups ≡ map unseated (take l.group-index l.fn.groups) ++ drop l.group-index l.fn.groups;
  charge : l.boot.charge ≡ l.charge;
  boot : l.boot.known.is_boot ≡ true;
  holds : l.boot.known.holds ≡ l.fn.boot.known.holds;
}

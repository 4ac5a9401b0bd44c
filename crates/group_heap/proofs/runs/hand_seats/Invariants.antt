use Rattle.std.proofs.Common.{◌≡◌, ◌++◌, true, map, take, drop}
use Rattle.group_heap.specs.Seats.{seated}
use Rattle.group_heap.proofs.runs.hand_seats.Given as goal

-- the groups before the place have a seat, and the others get one
abbrev pub invariant-loop-group : goal.invariant-loop-group
invariant-loop-group g l = record {
  groups : take l.group-index l.groups ++ map (seated l.charge) (drop l.group-index l.groups) ≡ map (seated l.charge) l.fn.groups;
  charge : l.boot.charge ≡ l.charge;
  boot : l.boot.known.is_boot ≡ true;
  holds : l.boot.known.holds ≡ l.fn.boot.known.holds;
}

use Rattle.std.proofs.Common.{◌≡◌, ◌≤◌, length, take}
use Rattle.proc_table.specs.Table.{key_of}
use Rattle.proc_table.proofs.places.find.Given as goal

-- the process is at one of the places before, or there is none
abbrev pub invariant-loop-places : goal.invariant-loop-places
invariant-loop-places l = record {
  within : l.places ≤ length l.listed;
  front : key_of (take l.places l.listed) l.pid ≡ key_of l.listed l.pid;
}

abbrev pub decreases-loop-places : goal.decreases-loop-places
decreases-loop-places l = l.places

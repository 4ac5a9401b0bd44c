use Rattle.std.proofs.Common.{◌≡◌, ◌≤◌, ◌+◌, length, drop}
use Rattle.kern_tasks.specs.Others.{present}
use Rattle.kern_tasks.proofs.others.count_present.Given as goal

-- so many are counted, and these are left
abbrev pub invariant-loop-event : goal.invariant-loop-event
invariant-loop-event l = record {
  few : l.count ≤ l.event-index;
  rest : l.count + length (present (drop l.event-index l.events)) ≡ length (present l.events);
}

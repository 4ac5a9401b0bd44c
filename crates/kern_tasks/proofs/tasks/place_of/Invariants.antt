use Rattle.std.proofs.Common.{◌≡◌, ◌≤◌, length, take}
use Rattle.kern_tasks.specs.Places.{place_from}
use Rattle.kern_tasks.proofs.tasks.place_of.Given as goal

-- the task is at one of the places before, or there is none
abbrev pub invariant-loop-place : goal.invariant-loop-place
invariant-loop-place l = record {
  within : l.place ≤ length l.tasks;
  front : place_from 0 (take l.place l.tasks) l.pid ≡ place_from 0 l.tasks l.pid;
}

abbrev pub decreases-loop-place : goal.decreases-loop-place
decreases-loop-place l = l.place

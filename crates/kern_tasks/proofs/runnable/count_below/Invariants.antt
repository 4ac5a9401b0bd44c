use Rattle.std.proofs.Common.{◌≤◌, length}
use Rattle.kern_tasks.specs.Runnable.{below}
use Rattle.kern_tasks.proofs.runnable.count_below.Given as goal

-- no more are below than stand before this number
abbrev pub invariant-loop-count : goal.invariant-loop-count
invariant-loop-count l = record {
  within : l.count ≤ length l.places;
  few : below l.places l.place ≤ l.count;
}

abbrev pub decreases-loop-count : goal.decreases-loop-count
decreases-loop-count l = l.count

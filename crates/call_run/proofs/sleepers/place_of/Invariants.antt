use Rattle.std.proofs.Common.{◌≤◌, length}
use Rattle.call_run.specs.Sleepers.{place_in}
use Rattle.call_run.proofs.sleepers.place_of.Given as goal

-- no more are below than stand before this place
abbrev pub invariant-loop-place : goal.invariant-loop-place
invariant-loop-place l = record {
  within : l.place ≤ length l.told;
  few : place_in l.told l.pid ≤ l.place;
}

abbrev pub decreases-loop-place : goal.decreases-loop-place
decreases-loop-place l = l.place

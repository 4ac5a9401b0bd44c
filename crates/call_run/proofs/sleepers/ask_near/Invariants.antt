use Rattle.std.proofs.Common.{◌≤◌, ◌+◌, length}
use Rattle.call_run.specs.Sleepers.{AreRising, NamesMore}
use Rattle.call_run.proofs.Asking.{AreNearFrom}
use Rattle.call_run.proofs.sleepers.ask_near.Given as goal

-- those from this place on were looked at
abbrev pub invariant-loop-place : goal.invariant-loop-place
invariant-loop-place l = record {
  within : l.place ≤ length l.told;
  rising : AreRising 0 l.told;
  asked : AreNearFrom l.script l.objects l.pid l.fd l.channel l.place l.fn.told l.told l.near;
  named : NamesMore l.fn.told l.fn.stirred.items l.told l.stirred.items;
  room : length l.stirred.items + l.place ≤ length l.fn.stirred.items + length l.fn.told;
}

abbrev pub decreases-loop-place : goal.decreases-loop-place
decreases-loop-place l = l.place

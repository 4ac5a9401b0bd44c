use Rattle.std.proofs.Common.{◌≤◌, ◌+◌, drop, length}
use Rattle.lock_calls.specs.Waiting.{AreKnown}
use Rattle.call_run.specs.Sleepers.{AreFewer, AreRising, AreTrulyTold, NamesMore}
use Rattle.call_run.proofs.sleepers.ask_each.Given as goal

-- those from this place on were looked at
abbrev pub invariant-loop-place : goal.invariant-loop-place
invariant-loop-place l = record {
  within : l.place ≤ length l.told.items;
  rising : AreRising 0 l.told.items;
  truly : AreTrulyTold l.script l.objects (drop l.place l.told.items);
  fewer : AreFewer l.fn.told.items l.told.items;
  named : NamesMore l.fn.told.items l.fn.stirred.items l.told.items l.stirred.items;
  known : AreKnown l.script l.objects l.waits;
  room : length l.stirred.items + l.place ≤ length l.fn.stirred.items + 64;
}

abbrev pub decreases-loop-place : goal.decreases-loop-place
decreases-loop-place l = l.place

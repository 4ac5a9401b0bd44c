use Rattle.std.proofs.Common.{◌≡◌, length}
use Rattle.lock_calls.specs.Waiting.{IsRowOf}
use Rattle.lock_calls.proofs.Rows.{HaveRows}
use Rattle.lock_calls.proofs.waits.rows_of.Given as goal

-- the processes of the places before it have their rows
abbrev pub invariant-loop-place : goal.invariant-loop-place
invariant-loop-place l = record {
  at : l.at ≡ l.place-index;
  long : length l.rows ≡ 64;
  rows : HaveRows (IsRowOf l.script l.objects) l.place-items l.place-index l.rows;
}

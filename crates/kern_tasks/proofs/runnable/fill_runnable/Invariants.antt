use Rattle.std.proofs.Common.{◌≡◌, ◌≤◌, ◌++◌, drop}
use Rattle.std.specs.Prelude.{vec_len, vec_capacity}
use Rattle.kern_tasks.specs.Runnable.{is_runnable, places_from, runnable_in}
use Rattle.kern_tasks.proofs.runnable.fill_runnable.Given as goal

-- the places of the tasks before this one are put down
abbrev pub invariant-loop-place : goal.invariant-loop-place
invariant-loop-place g l =
    let settled = g.T.Turner.settled l.store in
    record {
      few : vec_len l.runnable ≤ l.place;
      room : vec_capacity l.fn.runnable ≤ vec_capacity l.runnable;
      rest : l.runnable.items ++ places_from (is_runnable settled) l.place (drop l.place l.tasks) ≡ runnable_in settled l.tasks;
    }

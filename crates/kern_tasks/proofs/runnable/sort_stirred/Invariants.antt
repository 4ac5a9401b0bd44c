use Rattle.std.proofs.Common.{◌≡◌, ◌≤◌, Bool, take}
use Rattle.std.specs.Prelude.{vec_capacity}
use Rattle.posix_defs.specs.declared.phases.Task.{Task}
use Rattle.kern_tasks.specs.Runnable.{but_for_each, is_runnable, places_from}
use Rattle.kern_tasks.proofs.runnable.sort_stirred.Given as goal

-- the tasks of those before this one were looked at
abbrev pub invariant-loop-pid : goal.invariant-loop-pid
invariant-loop-pid g l = record {
  named : l.pid-items ≡ g.T.Turner.stirred l.store;
  room : vec_capacity l.fn.runnable ≤ vec_capacity l.runnable;
  looked : (passes : Task → Bool) → l.fn.runnable.items ≡ places_from passes 0 l.tasks
      → l.runnable.items ≡ places_from (but_for_each passes (take l.pid-index l.pid-items) (is_runnable (g.T.Turner.settled l.store))) 0 l.tasks;
}

use Rattle.std.proofs.Common.{◌≡◌, ◌≤◌, ◌-◌, filter}
use Rattle.posix_defs.specs.CoreState.{CoreState}
use Rattle.posix_defs.specs.SoundTasks.{IsSound}
use Rattle.kern_tasks.specs.Runnable.{is_runnable, runnable_in}
use Rattle.kern_tasks.specs.View.{IsAt}
use Rattle.kern_tasks.proofs.TaskLoops.{Passed}
use Rattle.kern_events.proofs.cores.Core.task_event.Given as goal

-- of each state that the core is at so many events were passed
abbrev pub invariant-loop-place : goal.invariant-loop-place
invariant-loop-place g l =
    let script = g.T.Turner.script l.self.store in
    let settled = g.T.Turner.settled l.self.store in
    record {
      items : l.place-items ≡ runnable_in settled l.self.tasks;
      more : l.left ≤ l.i;
      passed : (s : CoreState) → IsAt g.T.Turner.stands l.self s → IsSound script s → Passed script s (filter (is_runnable settled) l.self.tasks) l.place-index (l.i - l.left);
    }

use Rattle.std.proofs.Common.{◌≡◌, drop, filter}
use Rattle.std.specs.List.{list_all}
use Rattle.posix_defs.specs.Ends.{all_asleep, sleeps_on}
use Rattle.posix_defs.specs.CoreState.{CoreState}
use Rattle.posix_defs.specs.SoundTasks.{IsSound}
use Rattle.kern_tasks.specs.Runnable.{is_runnable, runnable_in}
use Rattle.kern_tasks.specs.View.{IsAt}
use Rattle.kern_events.proofs.cores.Core.all_block.Given as goal

-- all before the place sleep
abbrev pub invariant-loop-place : goal.invariant-loop-place
invariant-loop-place g l =
    let script = g.T.Turner.script l.self.store in
    let settled = g.T.Turner.settled l.self.store in
    record {
      items : l.place-items ≡ runnable_in settled l.self.tasks;
      rest : (s : CoreState) → IsAt g.T.Turner.stands l.self s → IsSound script s
          → list_all (λ task. sleeps_on script s task.pid task.phase) (drop l.place-index (filter (is_runnable settled) l.self.tasks)) ≡ all_asleep script s;
    }

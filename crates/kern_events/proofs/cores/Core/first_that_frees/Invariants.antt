use Rattle.std.proofs.Common.{◌≡◌, ◌++◌, drop, filter}
use Rattle.posix_defs.specs.Choice.{asks_nothing, enabled_in, events_in, others_in}
use Rattle.posix_defs.specs.CoreState.{CoreState}
use Rattle.posix_defs.specs.SoundTasks.{IsSound}
use Rattle.kern_tasks.specs.Runnable.{is_runnable, runnable_in}
use Rattle.kern_tasks.specs.View.{IsAt}
use Rattle.kern_events.proofs.cores.Core.first_that_frees.Given as goal

-- none of the events before the place asks for nothing
abbrev pub invariant-loop-place : goal.invariant-loop-place
invariant-loop-place g l =
    let script = g.T.Turner.script l.self.store in
    let settled = g.T.Turner.settled l.self.store in
    record {
      items : l.place-items ≡ runnable_in settled l.self.tasks;
      rest : (s : CoreState) → IsAt g.T.Turner.stands l.self s → IsSound script s
          → filter asks_nothing (events_in script s (drop l.place-index (filter (is_runnable settled) l.self.tasks)) ++ others_in script s) ≡ filter asks_nothing (enabled_in script s);
    }

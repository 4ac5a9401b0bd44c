use Rattle.std.proofs.Common.{◌≡◌, drop}
use Rattle.posix_defs.specs.CoreState.{waiting_in}
use Rattle.kern_tasks.proofs.tasks.first_waiting.Given as goal

-- none before the place waits
abbrev pub invariant-loop-task : goal.invariant-loop-task
invariant-loop-task l = waiting_in (drop l.task-index l.tasks) ≡ waiting_in l.tasks

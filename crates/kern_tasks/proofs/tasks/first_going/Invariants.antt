use Rattle.std.proofs.Common.{◌≡◌, drop}
use Rattle.kern_tasks.specs.Room.{first_going}
use Rattle.kern_tasks.proofs.tasks.first_going.Given as goal

-- none before the place can go on
abbrev pub invariant-loop-task : goal.invariant-loop-task
invariant-loop-task l = first_going l.room (drop l.task-index l.tasks) ≡ first_going l.room l.tasks

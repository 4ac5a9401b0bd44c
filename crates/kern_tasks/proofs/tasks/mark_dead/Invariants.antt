use Rattle.std.proofs.Common.{◌≡◌, ◌++◌, map, take, drop}
use Rattle.posix_defs.specs.World.{World}
use Rattle.posix_defs.specs.CoreEvent.{bury}
use Rattle.kern_tasks.proofs.tasks.mark_dead.Given as goal

-- the tasks before the place are marked, and the others are to be marked still
abbrev pub invariant-loop-task : goal.invariant-loop-task
invariant-loop-task g l =
    (world : World) → g.T.Turner.stands l.store world
    → take l.task-index l.tasks ++ map (bury world.plain) (drop l.task-index l.tasks) ≡ map (bury world.plain) l.fn.tasks

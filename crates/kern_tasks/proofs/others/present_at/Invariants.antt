use Rattle.std.proofs.Common.{◌≡◌, slice_get, drop}
use Rattle.kern_tasks.specs.Others.{present}
use Rattle.kern_tasks.proofs.others.present_at.Given as goal

-- the one that is left for is the one that is asked for
abbrev pub invariant-loop-event : goal.invariant-loop-event
invariant-loop-event l = slice_get (present (drop l.event-index l.events)) l.left ≡ slice_get (present l.events) l.fn.i

use Rattle.std.proofs.Common.{sym}
use Rattle.kern_tasks.proofs.TaskPlaces.{found_place, no_phase}
use Rattle.kern_tasks.proofs.tasks.phase_of.Goals as goal

pub returns-in-Some : goal.returns-in-Some
returns-in-Some c =
    let found = found_place c.args.tasks.now c.args.pid c.in-Some.place (sym c.in-Some.ensures.place) in found.phase _

pub returns-in-None : goal.returns-in-None
returns-in-None c = no_phase c.args.tasks.now c.args.pid 0 (sym c.in-None.ensures.place)

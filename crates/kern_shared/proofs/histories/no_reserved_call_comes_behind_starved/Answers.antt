use Rattle.kern_shared.proofs.Starving.{no_room, starved_stands}
use Rattle.kern_shared.proofs.histories.no_reserved_call_comes_behind_starved.Goals as goal

pub returns-clause-stands : goal.returns-clause-stands
returns-clause-stands c = starved_stands

pub returns-clause-room : goal.returns-clause-room
returns-clause-room c = no_room

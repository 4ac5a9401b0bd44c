use Rattle.kern_shared.proofs.Standing.{controls_stand, held_made}
use Rattle.kern_shared.proofs.histories.the_control_of_who_is_held_stands.Goals as goal

pub returns-clause-made : goal.returns-clause-made
returns-clause-made c = held_made

pub returns-clause-stands : goal.returns-clause-stands
returns-clause-stands c = controls_stand

use Rattle.machine_laws.proofs.Children.{inherits}
use Rattle.machine_laws.proofs.own.a_child_begins_with_what_its_parent_has.Goals as goal

pub returns : goal.returns
returns c = inherits

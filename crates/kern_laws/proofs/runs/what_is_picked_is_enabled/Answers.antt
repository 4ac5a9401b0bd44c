use Rattle.posix_defs.specs.Choice.{chosen}
use Rattle.kern_laws.proofs.Picking.{one_is_named, named_is_enabled, some_is_named}
use Rattle.kern_laws.proofs.runs.what_is_picked_is_enabled.Goals as goal

pub returns-clause-one : goal.returns-clause-one
returns-clause-one c = λ script j s event is some. one_is_named script s event is some (chosen script.chooser j)

pub returns-clause-enabled : goal.returns-clause-enabled
returns-clause-enabled c = λ script j s event sound is. named_is_enabled script s event (chosen script.chooser j) sound is

pub returns-clause-some : goal.returns-clause-some
returns-clause-some c = λ script j s some. some_is_named script s (chosen script.chooser j) some

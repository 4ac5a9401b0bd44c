use Rattle.machine_laws.proofs.Reaches.{reached_keeps}
use Rattle.machine_laws.proofs.ended.what_is_open_is_named_in_every_machine.Goals as goal

pub returns : goal.returns
returns c = λ script plain reached. reached_keeps reached

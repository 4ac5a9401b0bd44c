use Rattle.kern_shared.proofs.Runs.{held_up}
use Rattle.kern_shared.proofs.histories.who_is_held_is_up.Goals as goal

pub returns : goal.returns
returns c = held_up

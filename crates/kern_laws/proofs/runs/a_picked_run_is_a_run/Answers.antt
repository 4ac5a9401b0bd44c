use Rattle.kern_laws.proofs.Picking.{ruled_is_run}
use Rattle.kern_laws.proofs.runs.a_picked_run_is_a_run.Goals as goal

pub returns : goal.returns
returns c = λ script steps run s is_run. ruled_is_run is_run

use Rattle.run_pasts.proofs.Runs.{one_past}
use Rattle.run_pasts.proofs.laws.a_run_has_one_past.Goals as goal

pub returns : goal.returns
returns c = one_past

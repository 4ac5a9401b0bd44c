use Rattle.kern_shared.proofs.Runs.{a_run}
use Rattle.kern_shared.proofs.histories.entries_are_a_run.Goals as goal

pub returns : goal.returns
returns c = a_run

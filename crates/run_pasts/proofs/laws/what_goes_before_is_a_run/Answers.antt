use Rattle.run_pasts.proofs.Runs.{run_before, run_on, stops_for_good}
use Rattle.run_pasts.proofs.laws.what_goes_before_is_a_run.Goals as goal

pub returns-clause-before : goal.returns-clause-before
returns-clause-before c = run_before

pub returns-clause-goes_on : goal.returns-clause-goes_on
returns-clause-goes_on c = run_on

pub returns-clause-stops : goal.returns-clause-stops
returns-clause-stops c = stops_for_good

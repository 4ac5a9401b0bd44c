use Rattle.run_pasts.proofs.Runs.{computed_run, run_computed}
use Rattle.run_pasts.proofs.laws.a_history_is_computed.Goals as goal

pub returns-clause-legal : goal.returns-clause-legal
returns-clause-legal c = computed_run

pub returns-clause-computed : goal.returns-clause-computed
returns-clause-computed c = λ script history past run. run_computed run

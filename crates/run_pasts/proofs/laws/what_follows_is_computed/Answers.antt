use Rattle.run_pasts.proofs.Runs.{leads_so, may_lead}
use Rattle.run_pasts.proofs.laws.what_follows_is_computed.Goals as goal

pub returns-clause-may : goal.returns-clause-may
returns-clause-may c = may_lead

pub returns-clause-computed : goal.returns-clause-computed
returns-clause-computed c = leads_so

use Rattle.run_pasts.proofs.Runs.{expected_may, may_expected, one_expected}
use Rattle.run_pasts.proofs.laws.one_entry_is_expected.Goals as goal

pub returns-clause-may : goal.returns-clause-may
returns-clause-may c = expected_may

pub returns-clause-expected : goal.returns-clause-expected
returns-clause-expected c = may_expected

pub returns-clause-one : goal.returns-clause-one
returns-clause-one c = one_expected

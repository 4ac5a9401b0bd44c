use Rattle.store_objects.proofs.Sleeping.{kept_sleeping, runs_sleeping, stands_sleeping}
use Rattle.store_objects.proofs.laws.a_store_goes_on_with_who_waits.Goals as goal

pub returns-clause-kept : goal.returns-clause-kept
returns-clause-kept c = λ script old new pid control opening kept runs changes. kept_sleeping script old new pid opening kept changes

pub returns-clause-runs : goal.returns-clause-runs
returns-clause-runs c = λ script old new pid control opening kept runs changes. runs_sleeping script old new pid opening kept changes control runs

pub returns-clause-stands : goal.returns-clause-stands
returns-clause-stands c = λ script old new pid control opening world stands runs changes. stands_sleeping script old new pid opening stands.kept changes world stands

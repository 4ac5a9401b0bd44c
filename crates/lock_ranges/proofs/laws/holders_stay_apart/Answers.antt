use Rattle.lock_ranges.proofs.Conflicts.{apart_both, apart_held, apart_let_go}
use Rattle.lock_ranges.proofs.laws.holders_stay_apart.Goals as goal

pub returns-clause-held : goal.returns-clause-held
returns-clause-held c = apart_held

pub returns-clause-let_go : goal.returns-clause-let_go
returns-clause-let_go c = apart_let_go

pub returns-clause-both : goal.returns-clause-both
returns-clause-both c = apart_both

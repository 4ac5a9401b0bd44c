use Rattle.lock_ranges.proofs.Widening.{set_held, set_none}
use Rattle.lock_ranges.proofs.laws.a_widened_range_stands_alone.Goals as goal

pub returns-clause-held : goal.returns-clause-held
returns-clause-held c = set_held

pub returns-clause-let_go : goal.returns-clause-let_go
returns-clause-let_go c = set_none

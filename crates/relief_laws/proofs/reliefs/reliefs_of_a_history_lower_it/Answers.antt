use Rattle.relief_laws.proofs.Histories.{eviction_lowers, kill_lowers}
use Rattle.relief_laws.proofs.reliefs.reliefs_of_a_history_lower_it.Goals as goal

pub returns-clause-kill : goal.returns-clause-kill
returns-clause-kill c = kill_lowers

pub returns-clause-eviction : goal.returns-clause-eviction
returns-clause-eviction c = eviction_lowers

use Rattle.block_cache.proofs.TrueLemmas.{filled_true, written_true, absent_true}
use Rattle.block_cache.proofs.laws.a_cache_stays_true.Goals as goal

pub returns-clause-filled : goal.returns-clause-filled
returns-clause-filled c = filled_true

pub returns-clause-written : goal.returns-clause-written
returns-clause-written c = written_true

pub returns-clause-absent : goal.returns-clause-absent
returns-clause-absent c = absent_true

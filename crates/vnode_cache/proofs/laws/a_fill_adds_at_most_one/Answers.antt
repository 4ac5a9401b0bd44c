use Rattle.vnode_cache.proofs.TrueLemmas.{adds_one, adds_none}
use Rattle.vnode_cache.proofs.laws.a_fill_adds_at_most_one.Goals as goal

pub returns-clause-one : goal.returns-clause-one
returns-clause-one c = adds_one

pub returns-clause-none : goal.returns-clause-none
returns-clause-none c = adds_none

use Rattle.vnode_cache.proofs.HeldLemmas.{none_off}
use Rattle.vnode_cache.proofs.TrueLemmas.{held_cached}
use Rattle.vnode_cache.proofs.laws.a_held_node_stays.Goals as goal

pub returns-clause-stays : goal.returns-clause-stays
returns-clause-stays c = held_cached

pub returns-clause-none : goal.returns-clause-none
returns-clause-none c = none_off

use Rattle.std.proofs.Common.{◌≡◌, Some}
use Rattle.vnode_cache.proofs.TrueLemmas.{read_true}
use Rattle.vnode_cache.proofs.laws.reading_a_cache_is_reading_the_table.Goals as goal

pub returns : goal.returns
returns c table = read_true (λ n i. table n ≡ Some i)

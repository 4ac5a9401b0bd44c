use Rattle.vnode_cache.proofs.TrueLemmas.{boot_keeps}
use Rattle.vnode_cache.proofs.laws.nothing_is_cached_at_boot.Goals as goal

pub returns-clause-keeps : goal.returns-clause-keeps
returns-clause-keeps c = boot_keeps

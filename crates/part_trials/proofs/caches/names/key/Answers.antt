use Rattle.std.proofs.Common.{sym, subst}
use Rattle.name_cache.specs.Names.{IsNameKey}
use Rattle.name_cache.proofs.KeyLemmas.{made_is_key}
use Rattle.part_trials.proofs.caches.names.key.Goals as goal

pub returns : goal.returns
returns g c = subst IsNameKey (sym c.of-2.ensures) (made_is_key 1 _)

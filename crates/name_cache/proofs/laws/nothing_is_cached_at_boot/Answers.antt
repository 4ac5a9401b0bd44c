use Rattle.std.proofs.Common.{None, refl, replicate}
use Rattle.cache_laws.proofs.KeepsLemmas.{keeps_none}
use Rattle.name_cache.specs.Names.{same_key, key_of}
use Rattle.name_cache.proofs.laws.nothing_is_cached_at_boot.Goals as goal

pub returns-clause-keeps : goal.returns-clause-keeps
returns-clause-keeps c limit capacity = keeps_none same_key key_of limit capacity (replicate limit None) refl

use Rattle.name_cache.proofs.KeyLemmas.{made_is_key}
use Rattle.name_cache.proofs.laws.a_name_has_a_key.Goals as goal

pub returns : goal.returns
returns c = made_is_key

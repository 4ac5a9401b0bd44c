use Rattle.cache_laws.proofs.KeepsLemmas.{one_key}
use Rattle.cache_laws.proofs.a_slot_has_one_key.Goals as goal

pub returns : goal.returns
returns g c key = one_key g.met.K.Eq.laws g.met.K.Key.same key

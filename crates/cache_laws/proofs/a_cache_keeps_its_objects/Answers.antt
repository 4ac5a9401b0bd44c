use Rattle.cache_laws.proofs.KeepsLemmas.{keeps_touched, keeps_set, keeps_put, keeps_dropped}
use Rattle.cache_laws.proofs.a_cache_keeps_its_objects.Goals as goal

pub returns-clause-touched : goal.returns-clause-touched
returns-clause-touched g c key = keeps_touched g.met.K.Eq.laws g.met.K.Key.same key

pub returns-clause-set : goal.returns-clause-set
returns-clause-set g c key = keeps_set g.met.K.Eq.laws g.met.K.Key.same key

pub returns-clause-put : goal.returns-clause-put
returns-clause-put g c key = keeps_put g.met.K.Eq.laws g.met.K.Key.same key

pub returns-clause-dropped : goal.returns-clause-dropped
returns-clause-dropped g c key = keeps_dropped g.met.K.Eq.laws g.met.K.Key.same key

use Rattle.name_cache.proofs.TrueLemmas.{found_true}
use Rattle.name_cache.proofs.laws.finding_a_cached_name_is_finding_it.Goals as goal

pub returns : goal.returns
returns c = found_true

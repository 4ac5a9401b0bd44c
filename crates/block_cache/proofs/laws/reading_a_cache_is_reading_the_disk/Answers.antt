use Rattle.block_cache.proofs.TrueLemmas.{read_true}
use Rattle.block_cache.proofs.laws.reading_a_cache_is_reading_the_disk.Goals as goal

pub returns : goal.returns
returns c = read_true

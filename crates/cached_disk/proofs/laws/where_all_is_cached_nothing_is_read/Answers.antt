use Rattle.cached_disk.proofs.InTurn.{nothing_read}
use Rattle.cached_disk.proofs.laws.where_all_is_cached_nothing_is_read.Goals as goal

pub returns : goal.returns
returns c = nothing_read

use Rattle.cached_disk.proofs.InTurn.{last_cached}
use Rattle.cached_disk.proofs.laws.what_was_asked_for_last_is_cached.Goals as goal

pub returns : goal.returns
returns c = last_cached

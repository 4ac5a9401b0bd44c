use Rattle.tree_laws.proofs.ReadAndStarted.{written_read}
use Rattle.tree_laws.proofs.trees.what_was_written_is_read.Goals as goal

pub returns : goal.returns
returns c = written_read

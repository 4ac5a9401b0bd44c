use Rattle.tree_laws.proofs.ReadAndStarted.{thirty_bytes}
use Rattle.tree_laws.proofs.calls.thirty_bytes_tell_the_program.Goals as goal

pub returns : goal.returns
returns c = thirty_bytes

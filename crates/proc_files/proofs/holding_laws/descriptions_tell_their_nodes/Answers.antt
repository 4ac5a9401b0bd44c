use Rattle.proc_files.proofs.Openings.{same_nodes}
use Rattle.proc_files.proofs.holding_laws.descriptions_tell_their_nodes.Goals as goal

pub returns : goal.returns
returns c = same_nodes

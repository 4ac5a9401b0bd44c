use Rattle.disk_laws.proofs.BlockWritten.{block_written}
use Rattle.disk_laws.proofs.disks.a_block_of_a_node_is_written.Goals as goal

pub returns : goal.returns
returns c = block_written

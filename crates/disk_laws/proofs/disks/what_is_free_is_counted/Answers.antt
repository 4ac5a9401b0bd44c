use Rattle.disk_laws.proofs.FreeNodes.{some_block_is_free, some_node_is_free}
use Rattle.disk_laws.proofs.disks.what_is_free_is_counted.Goals as goal

pub returns-clause-blocks : goal.returns-clause-blocks
returns-clause-blocks c = some_block_is_free

pub returns-clause-nodes : goal.returns-clause-nodes
returns-clause-nodes c = some_node_is_free

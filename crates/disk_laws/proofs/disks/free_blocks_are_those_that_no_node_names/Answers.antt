use Rattle.disk_laws.proofs.FreeBlocks.{how_many_free, is_for_files}
use Rattle.disk_laws.proofs.disks.free_blocks_are_those_that_no_node_names.Goals as goal

pub returns-clause-named : goal.returns-clause-named
returns-clause-named c = is_for_files

pub returns-clause-many : goal.returns-clause-many
returns-clause-many c = how_many_free

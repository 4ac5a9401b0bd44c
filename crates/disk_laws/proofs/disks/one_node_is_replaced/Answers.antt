use Rattle.disk_laws.proofs.OneNode.{this_has, changes_node, free_after}
use Rattle.disk_laws.proofs.disks.one_node_is_replaced.Goals as goal

pub returns-clause-has : goal.returns-clause-has
returns-clause-has c = this_has

pub returns-clause-changes : goal.returns-clause-changes
returns-clause-changes c = changes_node

pub returns-clause-free : goal.returns-clause-free
returns-clause-free c = free_after

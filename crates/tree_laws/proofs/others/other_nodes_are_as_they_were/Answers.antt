use Rattle.tree_laws.proofs.OtherNodes.{make_nodes, unlink_nodes, link_nodes, over_nodes, to_nodes, write_nodes, resize_nodes, closed_nodes}
use Rattle.tree_laws.proofs.others.other_nodes_are_as_they_were.Goals as goal

pub returns-clause-make : goal.returns-clause-make
returns-clause-make c = make_nodes

pub returns-clause-unlink : goal.returns-clause-unlink
returns-clause-unlink c = unlink_nodes

pub returns-clause-link : goal.returns-clause-link
returns-clause-link c = link_nodes

pub returns-clause-rename_over : goal.returns-clause-rename_over
returns-clause-rename_over c = over_nodes

pub returns-clause-rename_to : goal.returns-clause-rename_to
returns-clause-rename_to c = to_nodes

pub returns-clause-write : goal.returns-clause-write
returns-clause-write c = write_nodes

pub returns-clause-resize : goal.returns-clause-resize
returns-clause-resize c = resize_nodes

pub returns-clause-closed : goal.returns-clause-closed
returns-clause-closed c = closed_nodes

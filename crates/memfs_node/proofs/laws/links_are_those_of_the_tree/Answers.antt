use Rattle.memfs_node.proofs.OnTree.{added_in_tree, dropped_in_tree, closed_in_tree, stays_open}
use Rattle.memfs_node.proofs.laws.links_are_those_of_the_tree.Goals as goal

pub returns-clause-added : goal.returns-clause-added
returns-clause-added c = added_in_tree

pub returns-clause-dropped : goal.returns-clause-dropped
returns-clause-dropped c = dropped_in_tree

pub returns-clause-closed : goal.returns-clause-closed
returns-clause-closed c = closed_in_tree

pub returns-clause-linked : goal.returns-clause-linked
returns-clause-linked c = stays_open

use Rattle.tree_laws.proofs.FileKeeps.{write_keeps, resize_keeps}
use Rattle.tree_laws.proofs.TreeKeeps.{closed_keeps}
use Rattle.tree_laws.proofs.trees.a_changed_file_leaves_a_tree.Goals as goal

pub returns-clause-written : goal.returns-clause-written
returns-clause-written c = write_keeps

pub returns-clause-sized : goal.returns-clause-sized
returns-clause-sized c = resize_keeps

pub returns-clause-closed : goal.returns-clause-closed
returns-clause-closed c = closed_keeps

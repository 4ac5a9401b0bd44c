use Rattle.machine_laws.proofs.Untouched.{leaves_tree}
use Rattle.machine_laws.proofs.trees.a_call_that_reaches_no_node_leaves_the_tree.Goals as goal

pub returns : goal.returns
returns c = leaves_tree

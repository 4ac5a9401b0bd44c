use Rattle.std.proofs.Common.{subst}
use Rattle.posix_defs.specs.IsTree.{IsTree}
use Rattle.posix_defs.specs.NodeLists.{node_listed, tree_listed}
use Rattle.posix_defs.proofs.nodes.NodeListDirs.node.Goals as goal

pub size-requires : goal.size-requires
size-requires c =
    let is : IsTree (tree_listed c.args.self.now) = subst IsTree c.requires.1.0 c.requires.1.1 in
    (is.nodes c.args.number (node_listed c.at-node.result.now) c.at-node.ensures).size

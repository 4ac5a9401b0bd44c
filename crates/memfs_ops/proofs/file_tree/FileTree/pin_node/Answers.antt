use Rattle.memfs_ops.proofs.PinLemmas.{held_cached}
use Rattle.memfs_ops.proofs.file_tree.FileTree.pin_node.Goals as goal

pub hold-requires-clause-stands : goal.hold-requires-clause-stands
hold-requires-clause-stands c = (c.requires.0, c.requires.1, c.requires.2, c.requires.4)

pub hold-requires-clause-there : goal.hold-requires-clause-there
hold-requires-clause-there c = held_cached c.requires.1 c.args.heap.now.vnodes c.args.self.now.vnodes c.args.node c.requires.2.nodes c.requires.2.held c.requires.3

pub returns-clause-stands : goal.returns-clause-stands
returns-clause-stands c = λ tree pins stands. c.hold.ensures.stands tree pins stands

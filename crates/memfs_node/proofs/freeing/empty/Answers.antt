use Rattle.memfs_node.proofs.Freed.{may_shrink, was_empty, shrunk}
use Rattle.memfs_node.proofs.freeing.empty.Goals as goal

pub shrink-requires-clause-kind : goal.shrink-requires-clause-kind
shrink-requires-clause-kind g c = may_shrink c.args.inode.now c.requires.node.0.valid.kind c.requires.node.1 c.if-inode-eq0.false

pub returns-then-inode-eq0-clause-empties : goal.returns-then-inode-eq0-clause-empties
returns-then-inode-eq0-clause-empties g c = was_empty (g.B.Blocks.blocks c.args.b.now) c.args.number c.args.inode.now c.requires.sound c.requires.node.0 c.if-inode-eq0.true

pub returns-clause-empties : goal.returns-clause-empties
returns-clause-empties g c = shrunk c.args.number (g.B.Blocks.blocks c.args.b.now) c.args.inode.now (g.B.Blocks.blocks c.shrink.new.b) c.shrink.new.inode c.shrink.ensures.resizes

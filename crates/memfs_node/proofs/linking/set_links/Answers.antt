use Rattle.memfs_node.proofs.Made.{relink}
use Rattle.memfs_node.proofs.linking.set_links.Goals as goal

pub retag-requires-clause-kind : goal.retag-requires-clause-kind
retag-requires-clause-kind g c = relink c.args.inode.now c.args.links c.requires.node.0.valid.kind c.requires.node.1 c.requires.most

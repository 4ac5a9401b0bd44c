use Rattle.blk_map.proofs.Taken.{same_takes_none}
use Rattle.memfs_node.proofs.linking.drop_link.Goals as goal

pub returns-clause-takes_none : goal.returns-clause-takes_none
returns-clause-takes_none g c = same_takes_none (g.B.Blocks.blocks c.args.b.now) (g.B.Blocks.blocks c.set_links.new.b) c.set_links.ensures.links.map

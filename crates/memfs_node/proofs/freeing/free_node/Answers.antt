use Rattle.std.proofs.Common.{refl, arith}
use Rattle.blk_map.proofs.Taken.{none_then_none, same_takes_none}
use Rattle.memfs_node.proofs.Freed.{freed}
use Rattle.memfs_node.proofs.Made.{tag_empty}
use Rattle.memfs_node.proofs.freeing.free_node.Goals as goal

pub retag-requires-clause-kind : goal.retag-requires-clause-kind
retag-requires-clause-kind g c =
    let left = c.empty.ensures.empties in
    tag_empty c.empty.new.inode 0 0 left.has.valid.kind left.size (omega arith) (omega arith) (λ e. refl)

pub returns-clause-frees : goal.returns-clause-frees
returns-clause-frees g c =
    freed c.args.number (g.B.Blocks.blocks c.args.b.now) c.args.inode.now (g.B.Blocks.blocks c.empty.new.b) c.empty.new.inode (g.B.Blocks.blocks c.retag.new.b) c.retag.new.inode c.empty.ensures.empties c.retag.ensures.retags

pub returns-clause-takes_none : goal.returns-clause-takes_none
returns-clause-takes_none g c =
    let emptied = g.B.Blocks.blocks c.empty.new.b in
    let after = g.B.Blocks.blocks c.retag.new.b in
    none_then_none (g.B.Blocks.blocks c.args.b.now) emptied after c.empty.ensures.takes_none (same_takes_none emptied after c.retag.ensures.retags.map)

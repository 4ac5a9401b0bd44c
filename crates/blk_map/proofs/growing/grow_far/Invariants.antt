use Rattle.std.proofs.Common.{◌≤◌, ◌-◌}
use Rattle.blk_map.specs.Growing.{GrowsBut}
use Rattle.blk_map.specs.Named.{FreesNone}
use Rattle.blk_map.proofs.growing.grow_far.Given as goal

abbrev pub invariant-loop-inode : goal.invariant-loop-inode
invariant-loop-inode g l = record {
  grows : GrowsBut l.from l.to l.number (g.B.Blocks.blocks l.initial.b) l.initial.inode l.inode.size (g.B.Blocks.blocks l.b) l.inode;
  frees_none : FreesNone (g.B.Blocks.blocks l.initial.b) (g.B.Blocks.blocks l.b);
  range : (l.initial.inode.size ≤ l.inode.size) × (l.inode.size ≤ l.size);
  follows : g.B.Blocks.follows l.initial.b l.b;
}

abbrev pub decreases-loop-inode : goal.decreases-loop-inode
decreases-loop-inode g l = l.size - l.inode.size

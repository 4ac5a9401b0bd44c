use Rattle.std.proofs.Common.{◌≡◌}
use Rattle.disk_layout.specs.Vacant.{NoneFreeIn}
use Rattle.memfs_node.proofs.inodes.lowest_node.Given as goal

abbrev pub invariant-loop-index : goal.invariant-loop-index
invariant-loop-index g l = record {
  kept : g.B.Blocks.blocks l.b ≡ g.B.Blocks.blocks l.fn.b;
  follows : g.B.Blocks.follows l.fn.b l.b;
  none : NoneFreeIn (g.B.Blocks.blocks l.fn.b) l.index;
}

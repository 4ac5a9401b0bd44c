use Rattle.std.proofs.Common.{◌≡◌, ◌≤◌, ◌-◌, ◌*◌}
use Rattle.posix_defs.specs.DiskFormat.{block_size, data_blocks}
use Rattle.posix_defs.specs.NodeChange.{Resizes}
use Rattle.posix_defs.specs.SoundDisk.{run_of}
use Rattle.blk_map.specs.Named.{TakesNone}
use Rattle.blk_map.specs.Runs.{run_first}
use Rattle.blk_map.proofs.shrinking.shrink.Given as goal

abbrev pub invariant-loop-floor : goal.invariant-loop-floor
invariant-loop-floor g l = record {
  resizes : Resizes l.number (g.B.Blocks.blocks l.initial.b) l.initial.inode l.inode.size (g.B.Blocks.blocks l.b) l.inode;
  takes_none : TakesNone (g.B.Blocks.blocks l.initial.b) (g.B.Blocks.blocks l.b);
  range : (l.size ≤ l.inode.size) × (l.inode.size ≤ l.initial.inode.size);
  floor : l.floor ≡ block_size * run_first (run_of (data_blocks l.inode.size - 1));
  follows : g.B.Blocks.follows l.initial.b l.b;
}

abbrev pub decreases-loop-floor : goal.decreases-loop-floor
decreases-loop-floor g l = l.inode.size

use Rattle.std.proofs.Common.{ℕ}
use Rattle.posix_defs.specs.SoundDisk.{HasNode}
use Rattle.memfs_file.specs.FileChange.{PutsPart}
use Rattle.memfs_file.proofs.putting.put_run.Given as goal

abbrev pub invariant-loop-index : goal.invariant-loop-index
invariant-loop-index g l = record {
  puts : (number : ℕ) → HasNode (g.B.Blocks.blocks l.initial.b) number l.inode → PutsPart number (g.B.Blocks.blocks l.initial.b) l.inode l.at l.bytes l.from l.index (g.B.Blocks.blocks l.b);
  follows : g.B.Blocks.follows l.initial.b l.b;
}

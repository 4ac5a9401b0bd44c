use Rattle.std.proofs.Common.{ℕ}
use Rattle.posix_defs.specs.SoundDisk.{HasNode}
use Rattle.memfs_file.specs.FileChange.{PutsPart}
use Rattle.memfs_file.proofs.Runs.{done_before}
use Rattle.memfs_file.proofs.putting.put_far.Given as goal

abbrev pub invariant-loop-run : goal.invariant-loop-run
invariant-loop-run g l = record {
  puts : (number : ℕ) → HasNode (g.B.Blocks.blocks l.initial.b) number l.inode → PutsPart number (g.B.Blocks.blocks l.initial.b) l.inode l.at l.bytes l.from (done_before l.from l.to l.run) (g.B.Blocks.blocks l.b);
  follows : g.B.Blocks.follows l.initial.b l.b;
}

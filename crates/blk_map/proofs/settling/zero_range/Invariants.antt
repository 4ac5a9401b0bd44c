use Rattle.std.proofs.Common.{◌≡◌, ◌≢◌, ℕ, ◌<◌, ◌≤◌, length, get_or}
use Rattle.posix_defs.specs.DiskFormat.{block_size}
use Rattle.posix_defs.specs.SoundDisk.{block_bytes}
use Rattle.posix_defs.specs.DiskContents.{zeros}
use Rattle.blk_map.proofs.settling.zero_range.Given as goal

abbrev pub invariant-loop-k : goal.invariant-loop-k
invariant-loop-k g l = record {
  count : length (g.B.Blocks.blocks l.b) ≡ length (g.B.Blocks.blocks l.initial.b);
  these : (j : ℕ) → l.from ≤ j → j < l.k → block_bytes (g.B.Blocks.blocks l.b) (get_or l.blocks j 0) ≡ zeros block_size;
  others : (block : ℕ) → ((j : ℕ) → l.from ≤ j → j < l.k → get_or l.blocks j 0 ≢ block) → block_bytes (g.B.Blocks.blocks l.b) block ≡ block_bytes (g.B.Blocks.blocks l.initial.b) block;
  follows : g.B.Blocks.follows l.initial.b l.b;
}

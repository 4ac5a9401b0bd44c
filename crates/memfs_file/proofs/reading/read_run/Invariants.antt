use Rattle.std.proofs.Common.{◌≡◌, ℕ, ◌+◌, ◌/◌, ◌<◌, ◌≤◌, ◌⊎◌, length, get_or}
use Rattle.posix_defs.specs.Asking.{AskedInTurn}
use Rattle.posix_defs.specs.DiskFormat.{block_size}
use Rattle.posix_defs.specs.DiskContents.{byte_at}
use Rattle.memfs_file.specs.Ranges.{blocks_between}
use Rattle.memfs_file.proofs.reading.read_run.Given as goal

abbrev pub invariant-loop-index : goal.invariant-loop-index
invariant-loop-index g l = record {
  here : (k : ℕ) → k < length l.out → l.from ≤ (l.at + k) / block_size → (l.at + k) / block_size < l.index → get_or l.out k 0 ≡ byte_at (g.B.Blocks.blocks l.initial.b) l.inode (l.at + k);
  others : (k : ℕ) → ((l.at + k) / block_size < l.from) ⊎ (l.index ≤ (l.at + k) / block_size) → get_or l.out k 0 ≡ get_or l.initial.out k 0;
  kept : g.B.Blocks.blocks l.b ≡ g.B.Blocks.blocks l.initial.b;
  asked : AskedInTurn g.B.Blocks.asked l.initial.b (blocks_between (g.B.Blocks.blocks l.initial.b) l.inode l.from l.index) l.b;
  follows : g.B.Blocks.follows l.initial.b l.b;
}

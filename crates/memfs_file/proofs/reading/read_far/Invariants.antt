use Rattle.std.proofs.Common.{◌≡◌, ℕ, ◌+◌, ◌-◌, ◌/◌, ◌<◌, length, get_or}
use Rattle.std.specs.List.{flat_map, range_with_len}
use Rattle.posix_defs.specs.Asking.{AskedInTurn}
use Rattle.posix_defs.specs.DiskFormat.{block_size}
use Rattle.posix_defs.specs.SoundDisk.{run_of}
use Rattle.posix_defs.specs.DiskContents.{byte_at}
use Rattle.memfs_file.specs.Ranges.{asked_in_run}
use Rattle.memfs_file.proofs.reading.read_far.Given as goal

abbrev pub invariant-loop-run : goal.invariant-loop-run
invariant-loop-run g l = record {
  here : (k : ℕ) → k < length l.out → run_of ((l.at + k) / block_size) < l.run → get_or l.out k 0 ≡ byte_at (g.B.Blocks.blocks l.initial.b) l.inode (l.at + k);
  kept : g.B.Blocks.blocks l.b ≡ g.B.Blocks.blocks l.initial.b;
  asked : AskedInTurn g.B.Blocks.asked l.initial.b (flat_map (asked_in_run (g.B.Blocks.blocks l.initial.b) l.inode l.from l.to) (range_with_len (run_of l.from) (l.run - run_of l.from))) l.b;
  follows : g.B.Blocks.follows l.initial.b l.b;
}

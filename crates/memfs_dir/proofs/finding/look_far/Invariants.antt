use Rattle.std.proofs.Common.{◌≡◌, ◌≢◌, ℕ, ◌*◌, ◌<◌, List, length, get_or}
use Rattle.kabi_types.specs.declared.inodes.DirEntry.{DirEntry}
use Rattle.posix_defs.specs.Asking.{AskedInTurn}
use Rattle.posix_defs.specs.DiskContents.{HasEntries}
use Rattle.posix_defs.specs.TreeChanges.{no_entry}
use Rattle.memfs_dir.specs.Looking.{HasDouble, HasRun, blocks_at, looked_through}
use Rattle.memfs_dir.proofs.finding.look_far.Given as goal

abbrev pub invariant-loop-index : goal.invariant-loop-index
invariant-loop-index g l = record {
  kept : g.B.Blocks.blocks l.b ≡ g.B.Blocks.blocks l.fn.b;
  follows : g.B.Blocks.follows l.fn.b l.b;
  pointers : HasRun (g.B.Blocks.blocks l.fn.b) l.fn.dir l.pointers l.index;
  double : HasDouble (g.B.Blocks.blocks l.fn.b) l.fn.dir l.double l.index;
  asked : AskedInTurn g.B.Blocks.asked l.fn.b (blocks_at (g.B.Blocks.blocks l.fn.b) l.fn.dir (looked_through l.index)) l.b;
  missing : (entries : List DirEntry) → HasEntries (g.B.Blocks.blocks l.fn.b) l.fn.dir entries → (k : ℕ) → k < length entries → k < 32 * l.index → (get_or entries k no_entry).name ≢ l.fn.name;
}

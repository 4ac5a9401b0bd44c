use Rattle.std.proofs.Common.{◌≡◌}
use Rattle.posix_defs.specs.SoundDisk.{HasNode, Sound}
use Rattle.part_trials.proofs.disk.nodes.files.check_changes.Given as goal

abbrev pub invariant-loop-k : goal.invariant-loop-k
invariant-loop-k g l = record {
  sound : Sound l.b.disk.blocks;
  node : HasNode l.b.disk.blocks l.number l.inode;
  kind : l.inode.kind ≡ 1;
}

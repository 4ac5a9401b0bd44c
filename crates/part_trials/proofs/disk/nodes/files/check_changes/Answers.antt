use Rattle.std.proofs.Common.{◌≡◌, ℕ, List, sym, subst}
use Rattle.posix_defs.specs.SoundDisk.{HasNode, Sound}
use Rattle.part_trials.proofs.disk.nodes.files.check_changes.Goals as goal

pub loop-k-preserved : goal.loop-k-preserved
loop-k-preserved g c =
    let changed = c.change_file-answered.ensures in
    let same : c.free_count-left.new.b.disk.blocks ≡ c.change_file-answered.new.b.disk.blocks = c.free_count-left.ensures.kept in
    record {
      sound = subst (λ (disk : List (List ℕ)). Sound disk) (sym same) changed.sound;
      node = subst (λ (disk : List (List ℕ)). HasNode disk c.args.number c.change_file-answered.new.inode) (sym same) changed.node;
      kind = changed.kind;
    }

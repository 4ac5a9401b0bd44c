use Rattle.memfs_dir.specs.Listed.{HasDirectory}
use Rattle.part_trials.proofs.disk.nodes.directories.check_steps.Given as goal

abbrev pub invariant-loop-k : goal.invariant-loop-k
invariant-loop-k g l = HasDirectory l.b.disk.blocks 1 l.dir

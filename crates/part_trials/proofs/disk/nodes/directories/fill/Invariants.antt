use Rattle.memfs_dir.specs.Listed.{HasDirectory}
use Rattle.part_trials.proofs.disk.nodes.directories.fill.Given as goal

abbrev pub invariant-loop-number : goal.invariant-loop-number
invariant-loop-number l = HasDirectory l.b.disk.blocks 1 l.dir

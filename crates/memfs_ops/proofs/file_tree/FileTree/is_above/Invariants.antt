use Rattle.memfs_ops.proofs.RenameLemmas.{Climbs}
use Rattle.memfs_ops.proofs.file_tree.FileTree.is_above.Given as goal

-- the way up so far, and that the tree was looked at alone
abbrev pub invariant-loop-left : goal.invariant-loop-left
invariant-loop-left l = Climbs l.initial.heap l.heap l.initial.purse l.purse l.initial.self l.self l.dir l.other l.initial.left l.left l.at

abbrev pub decreases-loop-left : goal.decreases-loop-left
decreases-loop-left l = l.left

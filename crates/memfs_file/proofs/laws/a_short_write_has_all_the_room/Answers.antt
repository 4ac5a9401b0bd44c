use Rattle.memfs_file.specs.FileChange.{blocks_for}
use Rattle.memfs_file.proofs.Fitting.{so_many_fit, no_more_fit}
use Rattle.memfs_file.proofs.laws.a_short_write_has_all_the_room.Goals as goal

pub returns-clause-fits : goal.returns-clause-fits
returns-clause-fits c = λ disk inode. so_many_fit (blocks_for disk inode)

pub returns-clause-full : goal.returns-clause-full
returns-clause-full c = λ disk inode. no_more_fit (blocks_for disk inode)

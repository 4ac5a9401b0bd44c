use Rattle.memfs_dir.proofs.InTree.{told_by_bytes}
use Rattle.memfs_dir.proofs.laws.what_is_listed_are_a_directorys_bytes.Goals as goal

pub returns : goal.returns
returns c = told_by_bytes

use Rattle.memfs_dir.proofs.Kept.{entries_stay}
use Rattle.memfs_dir.proofs.laws.other_directories_keep_their_entries.Goals as goal

pub returns : goal.returns
returns c = λ before after number other inode entries. entries_stay number other before after inode entries

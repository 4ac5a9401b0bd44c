use Rattle.disk_laws.proofs.DiskSpelling.{same_entry_bytes}
use Rattle.disk_laws.proofs.DirectoryEntries.{one_list}
use Rattle.disk_laws.proofs.FormattedDisk.{one_inode}
use Rattle.disk_laws.proofs.disks.bytes_of_a_disk_say_one_thing.Goals as goal

pub returns-clause-inodes : goal.returns-clause-inodes
returns-clause-inodes c = one_inode

pub returns-clause-entries : goal.returns-clause-entries
returns-clause-entries c = same_entry_bytes

pub returns-clause-lists : goal.returns-clause-lists
returns-clause-lists c = one_list

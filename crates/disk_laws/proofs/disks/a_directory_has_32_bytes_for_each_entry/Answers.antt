use Rattle.disk_laws.proofs.DirectoryEntries.{size_of_entries}
use Rattle.disk_laws.proofs.disks.a_directory_has_32_bytes_for_each_entry.Goals as goal

pub returns : goal.returns
returns c = size_of_entries

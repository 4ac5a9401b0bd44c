use Rattle.disk_laws.proofs.FreeBlocks.{has_table}
use Rattle.disk_laws.proofs.disks.a_sound_disk_has_a_table.Goals as goal

pub returns : goal.returns
returns c = has_table

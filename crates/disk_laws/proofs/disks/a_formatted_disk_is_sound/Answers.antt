use Rattle.disk_laws.proofs.FormattedDisk.{new_is_sound, new_root_is_empty}
use Rattle.disk_laws.proofs.disks.a_formatted_disk_is_sound.Goals as goal

pub returns-clause-sound : goal.returns-clause-sound
returns-clause-sound c = new_is_sound

pub returns-clause-root : goal.returns-clause-root
returns-clause-root c = new_root_is_empty

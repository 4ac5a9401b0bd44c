use Rattle.machine_laws.proofs.Wholeness.{stands_between}
use Rattle.machine_laws.proofs.offsets.offsets_in_directories_stand_between_entries.Goals as goal

pub returns : goal.returns
returns c = stands_between

use Rattle.std.proofs.Common.{refl}
use Rattle.posix_defs.specs.DiskFormat.{entry_bytes}
use Rattle.tree_laws.proofs.worked.files_are_read_and_started.Goals as goal

pub returns-clause-listed : goal.returns-clause-listed
unfolding entry_bytes
returns-clause-listed c = refl

pub returns-clause-ended : goal.returns-clause-ended
unfolding entry_bytes
returns-clause-ended c = refl

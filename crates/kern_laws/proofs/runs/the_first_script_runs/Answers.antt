use Rattle.std.proofs.Common.{refl}
use Rattle.posix_defs.specs.Files.Closing.{after_end_of}
use Rattle.posix_defs.specs.Files.Descriptors.{none_open}
use Rattle.posix_defs.specs.Memory.{no_places}
use Rattle.kern_laws.proofs.FirstRun.{after_six, first_is_run, first_reported}
use Rattle.kern_laws.proofs.runs.the_first_script_runs.Goals as goal

pub returns-clause-runs : goal.returns-clause-runs
unfolding no_places none_open after_end_of
returns-clause-runs c = (after_six, first_is_run, refl, refl, refl)

pub returns-clause-reported : goal.returns-clause-reported
returns-clause-reported c = first_reported

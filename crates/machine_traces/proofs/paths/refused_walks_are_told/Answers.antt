use Rattle.std.proofs.Common.{refl}
use Rattle.posix_defs.specs.Files.Descriptors.{none_open}
use Rattle.posix_defs.specs.Memory.{no_memory, no_places, lowest_free_run, zero_page}
use Rattle.posix_defs.specs.Files.Closing.{after_exec_of}
use Rattle.posix_defs.specs.Calls.OnNames.{chdir, mkdir, stat}
use Rattle.posix_defs.specs.Calls.Starting.{exec}
use Rattle.posix_defs.specs.Calls.OnFiles.{open_file}
use Rattle.machine_traces.proofs.paths.refused_walks_are_told.Goals as goal

pub returns : goal.returns
unfolding none_open no_memory no_places lowest_free_run zero_page after_exec_of chdir mkdir stat exec open_file
returns c = refl

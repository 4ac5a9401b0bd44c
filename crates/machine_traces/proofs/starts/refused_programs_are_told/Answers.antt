use Rattle.std.proofs.Common.{refl}
use Rattle.posix_defs.specs.Files.Descriptors.{none_open}
use Rattle.posix_defs.specs.Memory.{no_memory, no_places, lowest_free_run, zero_page}
use Rattle.posix_defs.specs.Files.Closing.{after_exec_of}
use Rattle.posix_defs.specs.DiskContents.{zeros}
use Rattle.posix_defs.specs.Calls.Starting.{exec}
use Rattle.posix_defs.specs.Calls.OnNames.{mkdir}
use Rattle.posix_defs.specs.Calls.OnFiles.{open_file}
use Rattle.posix_defs.specs.Calls.Writing.{pwrite, write, write_ignoring}
use Rattle.machine_traces.proofs.starts.refused_programs_are_told.Goals as goal

pub returns : goal.returns
unfolding none_open no_memory no_places lowest_free_run zero_page after_exec_of zeros exec mkdir open_file pwrite write write_ignoring
returns c = refl

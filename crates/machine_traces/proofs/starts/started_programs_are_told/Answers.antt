use Rattle.std.proofs.Common.{refl}
use Rattle.posix_defs.specs.Files.Descriptors.{none_open}
use Rattle.posix_defs.specs.Memory.{no_memory, no_places, lowest_free_run, zero_page}
use Rattle.posix_defs.specs.Files.Closing.{after_end_of, after_exec_of}
use Rattle.posix_defs.specs.DiskContents.{zeros}
use Rattle.posix_defs.specs.DiskFormat.{entry_bytes}
use Rattle.posix_defs.specs.Calls.OnNames.{chdir, mkdir, stat}
use Rattle.posix_defs.specs.Calls.Starting.{exec}
use Rattle.posix_defs.specs.Calls.OnFiles.{lseek, open_file}
use Rattle.posix_defs.specs.Calls.Reading.{pread}
use Rattle.posix_defs.specs.Calls.Writing.{write, write_ignoring}
use Rattle.machine_traces.proofs.starts.started_programs_are_told.Goals as goal

pub returns : goal.returns
unfolding none_open no_memory no_places lowest_free_run zero_page after_end_of after_exec_of zeros entry_bytes chdir mkdir stat exec lseek open_file pread write write_ignoring
returns c = refl

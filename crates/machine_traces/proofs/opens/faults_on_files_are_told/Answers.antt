use Rattle.std.proofs.Common.{refl}
use Rattle.posix_defs.specs.Files.Descriptors.{none_open}
use Rattle.posix_defs.specs.Memory.{no_memory, no_places, lowest_free_run, zero_page}
use Rattle.posix_defs.specs.Files.Closing.{after_end_of}
use Rattle.posix_defs.specs.DiskContents.{zeros}
use Rattle.posix_defs.specs.DiskFormat.{entry_bytes}
use Rattle.posix_defs.specs.Calls.OnDescriptors.{dup, dup2, fcntl}
use Rattle.posix_defs.specs.Calls.OnFiles.{fstat, open_file}
use Rattle.posix_defs.specs.Calls.Reading.{pread, read}
use Rattle.posix_defs.specs.Calls.Writing.{pwrite, write, write_ignoring}
use Rattle.machine_traces.proofs.opens.faults_on_files_are_told.Goals as goal

pub returns : goal.returns
unfolding none_open no_memory no_places lowest_free_run zero_page after_end_of zeros entry_bytes dup dup2 fcntl fstat open_file pread read pwrite write write_ignoring
returns c = refl

use Rattle.std.proofs.Common.{refl}
use Rattle.posix_defs.specs.Files.Descriptors.{none_open}
use Rattle.posix_defs.specs.Memory.{no_memory, no_places, lowest_free_run, zero_page}
use Rattle.posix_defs.specs.Files.Closing.{after_end_of}
use Rattle.posix_defs.specs.DiskContents.{zeros}
use Rattle.posix_defs.specs.DiskFormat.{entry_bytes}
use Rattle.posix_defs.specs.Calls.OnDescriptors.{close}
use Rattle.posix_defs.specs.Calls.Starting.{exec}
use Rattle.posix_defs.specs.Calls.OnFiles.{fstat, ftruncate, lseek, open_file}
use Rattle.posix_defs.specs.Calls.OnNames.{mkfifo, stat, unlink}
use Rattle.machine_traces.proofs.fifos.faults_on_fifos_are_told.Goals as goal

pub returns : goal.returns
unfolding none_open no_memory no_places lowest_free_run zero_page after_end_of zeros entry_bytes close exec fstat ftruncate lseek mkfifo open_file stat unlink
returns c = refl

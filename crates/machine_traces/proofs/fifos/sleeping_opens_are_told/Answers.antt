use Rattle.std.proofs.Common.{refl}
use Rattle.posix_defs.specs.Files.Descriptors.{none_open}
use Rattle.posix_defs.specs.Memory.{no_memory, no_places, lowest_free_run, zero_page}
use Rattle.posix_defs.specs.Files.Closing.{after_end_of}
use Rattle.posix_defs.specs.DiskContents.{zeros}
use Rattle.posix_defs.specs.DiskFormat.{entry_bytes}
use Rattle.posix_defs.specs.Calls.OnDescriptors.{close}
use Rattle.posix_defs.specs.Calls.Reading.{read}
use Rattle.posix_defs.specs.Calls.OnFiles.{fstat, open_file}
use Rattle.posix_defs.specs.Calls.OnNames.{mkfifo, stat, unlink}
use Rattle.posix_defs.specs.Calls.Writing.{write, write_ignoring}
use Rattle.machine_traces.proofs.fifos.sleeping_opens_are_told.Goals as goal

pub returns : goal.returns
unfolding none_open no_memory no_places lowest_free_run zero_page after_end_of zeros entry_bytes close read fstat mkfifo open_file stat unlink write write_ignoring
returns c = refl

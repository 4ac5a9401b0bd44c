use Rattle.std.proofs.Common.{refl}
use Rattle.posix_defs.specs.Files.Descriptors.{none_open}
use Rattle.posix_defs.specs.Memory.{no_memory, no_places, lowest_free_run, zero_page}
use Rattle.posix_defs.specs.Files.Closing.{after_end_of}
use Rattle.posix_defs.specs.DiskContents.{zeros}
use Rattle.posix_defs.specs.DiskFormat.{entry_bytes}
use Rattle.posix_defs.specs.Calls.OnFiles.{fstat, lseek, open_file}
use Rattle.posix_defs.specs.Calls.OnNames.{mkdir}
use Rattle.posix_defs.specs.Calls.Reading.{read, readdir}
use Rattle.posix_defs.specs.Calls.Writing.{write, write_ignoring}
use Rattle.machine_traces.proofs.opens.places_in_files_are_told.Goals as goal

pub returns : goal.returns
unfolding none_open no_memory no_places lowest_free_run zero_page after_end_of zeros entry_bytes fstat lseek open_file mkdir read readdir write write_ignoring
returns c = refl

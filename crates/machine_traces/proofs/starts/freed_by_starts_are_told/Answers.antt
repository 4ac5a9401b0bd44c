use Rattle.std.proofs.Common.{refl}
use Rattle.posix_defs.specs.Files.Descriptors.{none_open}
use Rattle.posix_defs.specs.Memory.{no_memory, no_places, lowest_free_run, zero_page}
use Rattle.posix_defs.specs.Files.Closing.{after_end_of, after_exec_of}
use Rattle.posix_defs.specs.DiskContents.{zeros}
use Rattle.posix_defs.specs.Calls.Starting.{exec}
use Rattle.posix_defs.specs.Calls.OnFiles.{fstat, ftruncate, open_file}
use Rattle.posix_defs.specs.Calls.OnNames.{mkdir, rmdir, unlink}
use Rattle.posix_defs.specs.Calls.Writing.{write, write_ignoring}
use Rattle.machine_traces.proofs.starts.freed_by_starts_are_told.Goals as goal

pub returns : goal.returns
unfolding none_open no_memory no_places lowest_free_run zero_page after_end_of after_exec_of zeros exec fstat ftruncate open_file mkdir rmdir unlink write write_ignoring
returns c = refl

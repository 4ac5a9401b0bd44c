use Rattle.std.proofs.Common.{refl}
use Rattle.posix_defs.specs.Files.Descriptors.{none_open}
use Rattle.posix_defs.specs.Memory.{no_memory, no_places, lowest_free_run, zero_page}
use Rattle.posix_defs.specs.Files.Closing.{after_end_of}
use Rattle.posix_defs.specs.DiskContents.{zeros}
use Rattle.posix_defs.specs.DiskFormat.{entry_bytes}
use Rattle.posix_defs.specs.Calls.OnDescriptors.{close}
use Rattle.posix_defs.specs.Calls.OnFiles.{open_file}
use Rattle.posix_defs.specs.Calls.OnLocks.{circles, getlk, setlk, setlkw, waits_for}
use Rattle.posix_defs.specs.Calls.OnPipes.{pipe}
use Rattle.posix_defs.specs.Calls.Reading.{read}
use Rattle.posix_defs.specs.Calls.Writing.{write, write_ignoring}
use Rattle.machine_traces.proofs.locks.clerks_in_a_circle_are_told.Goals as goal

pub returns : goal.returns
unfolding none_open no_memory no_places lowest_free_run zero_page after_end_of zeros entry_bytes close open_file circles getlk setlk setlkw waits_for pipe read write write_ignoring
returns c = refl

use Rattle.std.proofs.Common.{refl}
use Rattle.posix_defs.specs.Files.Descriptors.{none_open}
use Rattle.posix_defs.specs.Memory.{no_memory, no_places, lowest_free_run, zero_page}
use Rattle.posix_defs.specs.Files.Closing.{after_end_of, after_exec_of}
use Rattle.posix_defs.specs.DiskContents.{zeros}
use Rattle.posix_defs.specs.Calls.OnSockets.{bind, socket}
use Rattle.posix_defs.specs.Calls.OnNames.{chdir, link, mkdir, rename, rmdir, stat, unlink}
use Rattle.posix_defs.specs.Calls.Starting.{exec}
use Rattle.posix_defs.specs.Calls.OnFiles.{ftruncate, open_file}
use Rattle.machine_traces.proofs.sockets.calls_on_sockets_are_told.Goals as goal

pub returns : goal.returns
unfolding none_open no_memory no_places lowest_free_run zero_page after_end_of after_exec_of zeros bind socket chdir link mkdir rename rmdir stat unlink exec ftruncate open_file
returns c = refl

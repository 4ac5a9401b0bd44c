use Rattle.std.proofs.Common.{refl}
use Rattle.posix_defs.specs.Files.Descriptors.{none_open}
use Rattle.posix_defs.specs.Memory.{no_memory, no_places, lowest_free_run, zero_page}
use Rattle.posix_defs.specs.Files.Closing.{after_end_of}
use Rattle.posix_defs.specs.DiskContents.{zeros}
use Rattle.posix_defs.specs.Calls.OnDescriptors.{close}
use Rattle.posix_defs.specs.Calls.OnFiles.{fstat, ftruncate, lseek, open_file}
use Rattle.posix_defs.specs.Calls.Writing.{pwrite, write, write_ignoring}
use Rattle.posix_defs.specs.Calls.OnNames.{unlink}
use Rattle.machine_traces.proofs.opens.full_disks_are_told.Goals as goal

pub returns : goal.returns
unfolding none_open no_memory no_places lowest_free_run zero_page after_end_of zeros close fstat ftruncate lseek open_file pwrite write write_ignoring unlink
returns c = refl

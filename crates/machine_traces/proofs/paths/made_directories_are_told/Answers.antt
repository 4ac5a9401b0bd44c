use Rattle.std.proofs.Common.{refl}
use Rattle.posix_defs.specs.Files.Descriptors.{none_open}
use Rattle.posix_defs.specs.Memory.{no_memory, no_places}
use Rattle.posix_defs.specs.Files.Closing.{after_end_of}
use Rattle.posix_defs.specs.Calls.OnNames.{mkdir, rmdir, stat}
use Rattle.posix_defs.specs.Calls.OnFiles.{open_file}
use Rattle.machine_traces.proofs.paths.made_directories_are_told.Goals as goal

pub returns : goal.returns
unfolding none_open no_memory no_places after_end_of mkdir rmdir stat open_file
returns c = refl

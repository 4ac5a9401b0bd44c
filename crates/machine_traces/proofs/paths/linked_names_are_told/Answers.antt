use Rattle.std.proofs.Common.{refl}
use Rattle.posix_defs.specs.Files.Descriptors.{none_open}
use Rattle.posix_defs.specs.Memory.{no_memory, no_places}
use Rattle.posix_defs.specs.Files.Closing.{after_end_of}
use Rattle.posix_defs.specs.Calls.OnFiles.{fstat, open_file}
use Rattle.posix_defs.specs.Calls.OnNames.{link, mkdir, stat, unlink}
use Rattle.machine_traces.proofs.paths.linked_names_are_told.Goals as goal

pub returns : goal.returns
unfolding none_open no_memory no_places after_end_of fstat open_file link mkdir stat unlink
returns c = refl

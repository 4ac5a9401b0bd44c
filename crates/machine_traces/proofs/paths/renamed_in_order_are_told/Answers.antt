use Rattle.std.proofs.Common.{refl}
use Rattle.posix_defs.specs.Files.Descriptors.{none_open}
use Rattle.posix_defs.specs.Memory.{no_memory, no_places}
use Rattle.posix_defs.specs.Calls.OnNames.{link, mkdir, rename, stat}
use Rattle.posix_defs.specs.Calls.OnFiles.{open_file}
use Rattle.machine_traces.proofs.paths.renamed_in_order_are_told.Goals as goal

pub returns : goal.returns
unfolding none_open no_memory no_places link mkdir rename stat open_file
returns c = refl

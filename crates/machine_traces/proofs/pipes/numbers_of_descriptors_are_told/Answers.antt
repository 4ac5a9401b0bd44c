use Rattle.std.proofs.Common.{refl}
use Rattle.posix_defs.specs.Files.Descriptors.{none_open}
use Rattle.posix_defs.specs.Memory.{no_memory, no_places}
use Rattle.posix_defs.specs.Calls.OnDescriptors.{close, dup, dup2, fcntl}
use Rattle.posix_defs.specs.Calls.OnPipes.{pipe}
use Rattle.machine_traces.proofs.pipes.numbers_of_descriptors_are_told.Goals as goal

pub returns : goal.returns
unfolding none_open no_memory no_places close dup dup2 fcntl pipe
returns c = refl

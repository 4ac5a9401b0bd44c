use Rattle.std.proofs.Common.{refl}
use Rattle.posix_defs.specs.Files.Descriptors.{none_open}
use Rattle.posix_defs.specs.Memory.{no_memory, no_places}
use Rattle.posix_defs.specs.Files.Closing.{after_end_of}
use Rattle.machine_traces.proofs.signals.dispositions_are_told.Goals as goal

pub returns : goal.returns
unfolding none_open no_memory no_places after_end_of
returns c = refl

use Rattle.std.proofs.Common.{refl}
use Rattle.posix_defs.specs.Files.Descriptors.{none_open}
use Rattle.posix_defs.specs.Memory.{no_memory, no_places}
use Rattle.posix_defs.specs.Calls.OnSockets.{accept, bind, connect, listen, socket}
use Rattle.posix_defs.specs.Calls.OnDescriptors.{dup, fcntl}
use Rattle.machine_traces.proofs.sockets.accepted_sockets_are_told.Goals as goal

pub returns : goal.returns
unfolding none_open no_memory no_places accept bind connect listen socket dup fcntl
returns c = refl

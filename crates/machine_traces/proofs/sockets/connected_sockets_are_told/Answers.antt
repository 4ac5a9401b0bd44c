use Rattle.std.proofs.Common.{refl}
use Rattle.posix_defs.specs.Files.Descriptors.{none_open}
use Rattle.posix_defs.specs.Memory.{no_memory, no_places}
use Rattle.posix_defs.specs.Files.Closing.{after_end_of}
use Rattle.posix_defs.specs.Calls.OnSockets.{bind, connect, listen, shutdown, socket, socketpair}
use Rattle.posix_defs.specs.Calls.OnDescriptors.{close}
use Rattle.posix_defs.specs.Calls.OnNames.{mkdir}
use Rattle.posix_defs.specs.Calls.OnFiles.{open_file}
use Rattle.machine_traces.proofs.sockets.connected_sockets_are_told.Goals as goal

pub returns : goal.returns
unfolding none_open no_memory no_places after_end_of bind connect listen shutdown socket socketpair close mkdir open_file
returns c = refl

use Rattle.machine_laws.proofs.Joining.{reached_joined}
use Rattle.machine_laws.proofs.sockets.each_socket_is_named_once_or_waits.Goals as goal

pub returns : goal.returns
returns c = reached_joined

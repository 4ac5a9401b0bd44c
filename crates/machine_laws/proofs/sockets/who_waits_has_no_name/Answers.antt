use Rattle.machine_laws.proofs.Unnamed.{reached_unnamed}
use Rattle.machine_laws.proofs.sockets.who_waits_has_no_name.Goals as goal

pub returns : goal.returns
returns c = reached_unnamed

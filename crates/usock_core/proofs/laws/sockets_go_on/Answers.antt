use Rattle.usock_core.proofs.StandingLemmas.{stands_same, stands_on, held_on}
use Rattle.usock_core.proofs.laws.sockets_go_on.Goals as goal

pub returns : goal.returns
returns c = record { same = stands_same; kept = stands_on; held = held_on }

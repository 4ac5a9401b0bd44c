use Rattle.open_laws.proofs.SocketLemmas.{closed_renamed, renamed_changed}
use Rattle.open_laws.proofs.PolledLemmas.{polled_renamed}
use Rattle.open_laws.proofs.opened.sockets_have_places.Goals as goal

pub returns : goal.returns
returns c = record { changed = renamed_changed; closed = closed_renamed; polled = polled_renamed }

use Rattle.socket_laws.proofs.SocketLaws.{waits_last, first_is_taken, ninth_is_refused, eighth_is_taken, closed_still_wait}
use Rattle.socket_laws.proofs.sockets.the_backlog_is_in_order.Goals as goal

pub returns : goal.returns
returns c = record { last = waits_last; first = first_is_taken; ninth = ninth_is_refused; eighth = eighth_is_taken; counted = closed_still_wait }

use Rattle.socket_laws.proofs.QueueOrder.{order_kept}
use Rattle.socket_laws.proofs.pipes.bytes_keep_their_order.Goals as goal

pub returns : goal.returns
returns c = order_kept

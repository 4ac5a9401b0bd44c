use Rattle.usock_core.proofs.OneTable.{empty_held}
use Rattle.usock_core.proofs.laws.a_new_heap_has_no_sockets.Goals as goal

pub returns : goal.returns
returns c = empty_held

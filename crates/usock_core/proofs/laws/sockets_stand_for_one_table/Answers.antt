use Rattle.usock_core.proofs.OneTable.{one_table}
use Rattle.usock_core.proofs.laws.sockets_stand_for_one_table.Goals as goal

pub returns : goal.returns
returns c = one_table

use Rattle.store_objects.proofs.Numbers.{moves_opened}
use Rattle.store_objects.proofs.Replying.{performs_opened}
use Rattle.store_objects.proofs.open_moves.a_call_changes_what_a_process_has_open.Goals as goal

pub returns-clause-moves : goal.returns-clause-moves
returns-clause-moves c = moves_opened

pub returns-clause-performs : goal.returns-clause-performs
returns-clause-performs c = performs_opened

use Rattle.machine_laws.proofs.Waiting.{tells_so, wakes_so}
use Rattle.machine_laws.proofs.fifos.an_open_wakes_where_the_other_side_was_opened.Goals as goal

pub returns-clause-blocks : goal.returns-clause-blocks
returns-clause-blocks c = wakes_so

pub returns-clause-told : goal.returns-clause-told
returns-clause-told c = tells_so

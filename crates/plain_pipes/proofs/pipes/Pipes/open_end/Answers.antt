use Rattle.std.proofs.Common.{sym}
use Rattle.plain_pipes.proofs.FifoLemmas.{found_has}
use Rattle.plain_pipes.proofs.pipes.Pipes.open_end.Goals as goal

pub open_more-requires-clause-there : goal.open_more-requires-clause-there
open_more-requires-clause-there c = found_has c.args.self.now c.args.number c.in-Some.place (sym c.in-Some.ensures)

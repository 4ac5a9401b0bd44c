use Rattle.std.proofs.Common.{sym}
use Rattle.plain_pipes.proofs.FifoLemmas.{found_has}
use Rattle.plain_pipes.proofs.pipes.Pipes.fifo_waits.Goals as goal

pub at-requires : goal.at-requires
at-requires c = found_has c.args.self.now c.args.number c.in-Some.place (sym c.in-Some.ensures)

use Rattle.proc_table.proofs.LeaveLemmas.{IsLeaving}
use Rattle.proc_table.proofs.tables.ProcTable.leave.Given as goal

abbrev pub invariant-loop-place : goal.invariant-loop-place
invariant-loop-place l =
    IsLeaving l.pid l.status l.initial.heap l.heap l.place-items l.fn.self.last l.place-index l.left.items

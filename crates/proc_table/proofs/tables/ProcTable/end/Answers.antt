use Rattle.std.proofs.Common.{sym, subst, ap, ◌∙◌}
use Rattle.proc_table.specs.Procs.{HasEnded}
use Rattle.proc_table.proofs.EndLemmas.{goes-procs, goes-table, has_ended, left-account, left-memory, left-moves, left-procs, left-table, stays-procs, stays-table}
use Rattle.proc_table.proofs.HoldLemmas.{memory_kept, memory_on, moves_on}
use Rattle.proc_table.proofs.tables.ProcTable.end.Goals as goal

pub reap-requires-clause-holds : goal.reap-requires-clause-holds
reap-requires-clause-holds c =
    let moves = left-moves c.args.heap.now c.clear_memory.new.heap c.leave.new.heap c.args.self.now c.clear_memory.new.self c.leave.new.self c.args.pid c.args.status c.requires.holds c.requires.closed
    c.clear_memory.ensures.moves c.clear_memory.ensures.same c.clear_memory.ensures.cleared c.clear_memory.ensures.memory c.clear_memory.ensures.table c.leave.ensures.procs c.leave.ensures.listed in
    moves.holds

pub reap-requires-clause-over : goal.reap-requires-clause-over
reap-requires-clause-over c =
    subst (λ procs. HasEnded procs c.args.pid)
    (sym (left-procs c.args.heap.now c.clear_memory.new.heap c.leave.new.heap c.args.self.now c.clear_memory.new.self c.leave.new.self c.args.pid c.args.status c.requires.holds c.requires.closed
    c.clear_memory.ensures.moves c.clear_memory.ensures.same c.clear_memory.ensures.cleared c.clear_memory.ensures.memory c.clear_memory.ensures.table c.leave.ensures.procs c.leave.ensures.listed))
    (has_ended _ c.args.pid c.args.status c.requires.alive.proc c.requires.alive.there)

pub returns-then-alone-clause-ended : goal.returns-then-alone-clause-ended
returns-then-alone-clause-ended c =
    goes-procs c.args.heap.now c.leave.new.heap c.reap.new.heap c.args.self.now c.leave.new.self c.reap.new.self c.args.pid c.args.status
    (sym (c.ends_alone-alone.ensures c.args.heap.now c.requires.holds.stored) ∙ c.if-alone.true)
    (left-procs c.args.heap.now c.clear_memory.new.heap c.leave.new.heap c.args.self.now c.clear_memory.new.self c.leave.new.self c.args.pid c.args.status c.requires.holds c.requires.closed
    c.clear_memory.ensures.moves c.clear_memory.ensures.same c.clear_memory.ensures.cleared c.clear_memory.ensures.memory c.clear_memory.ensures.table c.leave.ensures.procs c.leave.ensures.listed)
    (left-table c.args.heap.now c.clear_memory.new.heap c.leave.new.heap c.args.self.now c.clear_memory.new.self c.leave.new.self c.args.pid c.args.status c.requires.holds c.requires.closed
    c.clear_memory.ensures.moves c.clear_memory.ensures.same c.clear_memory.ensures.cleared c.clear_memory.ensures.memory c.clear_memory.ensures.table c.leave.ensures.procs c.leave.ensures.listed)
    c.reap.ensures.gone c.reap.ensures.kept c.reap.ensures.last

pub returns-then-alone-clause-memory : goal.returns-then-alone-clause-memory
returns-then-alone-clause-memory c =
    memory_on c.args.heap.now c.leave.new.heap c.reap.new.heap _
    (left-memory c.args.heap.now c.clear_memory.new.heap c.leave.new.heap c.args.self.now c.clear_memory.new.self c.leave.new.self c.args.pid c.args.status c.requires.holds c.requires.closed
    c.clear_memory.ensures.moves c.clear_memory.ensures.same c.clear_memory.ensures.cleared c.clear_memory.ensures.memory c.clear_memory.ensures.table c.leave.ensures.procs c.leave.ensures.listed)
    (memory_kept c.leave.new.heap c.reap.new.heap _ (ap (λ h. h.nodes) c.reap.ensures.kept) (ap (λ h. h.pages) c.reap.ensures.kept))

pub returns-then-alone-clause-table : goal.returns-then-alone-clause-table
returns-then-alone-clause-table c =
    goes-table c.args.heap.now c.leave.new.heap c.reap.new.heap c.args.self.now c.leave.new.self c.reap.new.self c.args.pid c.args.status
    (sym (c.ends_alone-alone.ensures c.args.heap.now c.requires.holds.stored) ∙ c.if-alone.true)
    (left-procs c.args.heap.now c.clear_memory.new.heap c.leave.new.heap c.args.self.now c.clear_memory.new.self c.leave.new.self c.args.pid c.args.status c.requires.holds c.requires.closed
    c.clear_memory.ensures.moves c.clear_memory.ensures.same c.clear_memory.ensures.cleared c.clear_memory.ensures.memory c.clear_memory.ensures.table c.leave.ensures.procs c.leave.ensures.listed)
    (left-table c.args.heap.now c.clear_memory.new.heap c.leave.new.heap c.args.self.now c.clear_memory.new.self c.leave.new.self c.args.pid c.args.status c.requires.holds c.requires.closed
    c.clear_memory.ensures.moves c.clear_memory.ensures.same c.clear_memory.ensures.cleared c.clear_memory.ensures.memory c.clear_memory.ensures.table c.leave.ensures.procs c.leave.ensures.listed)
    c.reap.ensures.gone c.reap.ensures.kept c.reap.ensures.last

pub returns-then-alone-clause-moves : goal.returns-then-alone-clause-moves
returns-then-alone-clause-moves c =
    moves_on c.args.heap.now c.leave.new.heap c.reap.new.heap c.args.self.now c.leave.new.self c.reap.new.self
    (left-moves c.args.heap.now c.clear_memory.new.heap c.leave.new.heap c.args.self.now c.clear_memory.new.self c.leave.new.self c.args.pid c.args.status c.requires.holds c.requires.closed
    c.clear_memory.ensures.moves c.clear_memory.ensures.same c.clear_memory.ensures.cleared c.clear_memory.ensures.memory c.clear_memory.ensures.table c.leave.ensures.procs c.leave.ensures.listed)
    c.reap.ensures.moves

pub returns-else-alone-clause-ended : goal.returns-else-alone-clause-ended
returns-else-alone-clause-ended c =
    stays-procs c.args.heap.now c.clear_memory.new.heap c.leave.new.heap c.args.self.now c.clear_memory.new.self c.leave.new.self c.args.pid c.args.status c.requires.holds c.requires.closed
    c.clear_memory.ensures.moves c.clear_memory.ensures.same c.clear_memory.ensures.cleared c.clear_memory.ensures.memory c.clear_memory.ensures.table c.leave.ensures.procs c.leave.ensures.listed
    (sym (c.ends_alone-alone.ensures c.args.heap.now c.requires.holds.stored) ∙ c.if-alone.false)

pub returns-else-alone-clause-memory : goal.returns-else-alone-clause-memory
returns-else-alone-clause-memory c =
    left-memory c.args.heap.now c.clear_memory.new.heap c.leave.new.heap c.args.self.now c.clear_memory.new.self c.leave.new.self c.args.pid c.args.status c.requires.holds c.requires.closed
    c.clear_memory.ensures.moves c.clear_memory.ensures.same c.clear_memory.ensures.cleared c.clear_memory.ensures.memory c.clear_memory.ensures.table c.leave.ensures.procs c.leave.ensures.listed

pub returns-else-alone-clause-table : goal.returns-else-alone-clause-table
returns-else-alone-clause-table c =
    stays-table c.args.heap.now c.clear_memory.new.heap c.leave.new.heap c.args.self.now c.clear_memory.new.self c.leave.new.self c.args.pid c.args.status c.requires.holds c.requires.closed
    c.clear_memory.ensures.moves c.clear_memory.ensures.same c.clear_memory.ensures.cleared c.clear_memory.ensures.memory c.clear_memory.ensures.table c.leave.ensures.procs c.leave.ensures.listed
    (sym (c.ends_alone-alone.ensures c.args.heap.now c.requires.holds.stored) ∙ c.if-alone.false)

pub returns-else-alone-clause-moves : goal.returns-else-alone-clause-moves
returns-else-alone-clause-moves c =
    left-moves c.args.heap.now c.clear_memory.new.heap c.leave.new.heap c.args.self.now c.clear_memory.new.self c.leave.new.self c.args.pid c.args.status c.requires.holds c.requires.closed
    c.clear_memory.ensures.moves c.clear_memory.ensures.same c.clear_memory.ensures.cleared c.clear_memory.ensures.memory c.clear_memory.ensures.table c.leave.ensures.procs c.leave.ensures.listed

pub returns-then-alone-clause-account : goal.returns-then-alone-clause-account
returns-then-alone-clause-account c = λ frames has.
    c.reap.ensures.account _
    (left-account c.args.heap.now c.clear_memory.new.heap c.leave.new.heap c.args.self.now c.clear_memory.new.self c.leave.new.self c.args.pid c.args.status c.requires.holds c.requires.closed
    c.clear_memory.ensures.moves c.clear_memory.ensures.same c.clear_memory.ensures.cleared c.clear_memory.ensures.memory c.clear_memory.ensures.table c.leave.ensures.procs c.leave.ensures.listed
    _ (c.clear_memory.ensures.account frames has))

pub returns-else-alone-clause-account : goal.returns-else-alone-clause-account
returns-else-alone-clause-account c = λ frames has.
    left-account c.args.heap.now c.clear_memory.new.heap c.leave.new.heap c.args.self.now c.clear_memory.new.self c.leave.new.self c.args.pid c.args.status c.requires.holds c.requires.closed
    c.clear_memory.ensures.moves c.clear_memory.ensures.same c.clear_memory.ensures.cleared c.clear_memory.ensures.memory c.clear_memory.ensures.table c.leave.ensures.procs c.leave.ensures.listed
    _ (c.clear_memory.ensures.account frames has)

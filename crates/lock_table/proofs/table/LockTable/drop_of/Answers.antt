use Rattle.lock_table.proofs.Tables.{has_locks, holds_none}
use Rattle.lock_table.proofs.table.LockTable.drop_of.Goals as goal

pub cut-requires : goal.cut-requires
cut-requires c = has_locks c.args.heap.now.locks c.args.self.now c.requires

pub returns-clause-holds : goal.returns-clause-holds
returns-clause-holds c = λ locks holds.
    holds_none c.args.heap.now.locks c.args.self.now locks holds c.cut.new.heap.locks c.cut.new.self c.args.pid c.args.node (c.cut.ensures.chain holds.held holds.chain)

use Rattle.std.proofs.Common.{sym, subst, ◌∙◌}
use Rattle.kabi_types.specs.declared.ranges.Range.{Range}
use Rattle.posix_defs.specs.Locks.{after_set}
use Rattle.lock_table.specs.Chain.{HoldsLocks}
use Rattle.lock_table.proofs.Tables.{has_locks, holds_held, holds_less}
use Rattle.lock_table.proofs.table.LockTable.set.Goals as goal

pub hold-requires-clause-chain : goal.hold-requires-clause-chain
hold-requires-clause-chain c = has_locks c.args.heap.now.locks c.args.self.now c.requires.table

pub let_go-requires-clause-chain : goal.let_go-requires-clause-chain
let_go-requires-clause-chain c = has_locks c.args.heap.now.locks c.args.self.now c.requires.table

pub returns-in-Some-clause-holds : goal.returns-in-Some-clause-holds
returns-in-Some-clause-holds c = λ locks holds.
    let asked : Range = record { kind = c.in-Some.kind; start = c.args.range.now.start; last = c.args.range.now.last } in
    subst (λ k. HoldsLocks c.hold.new.heap.locks c.hold.new.self (after_set locks c.args.pid c.args.node (record { kind = k; start = asked.start; last = asked.last }))) (sym c.in-Some.is ∙ c.kind.ensures)
    (holds_held c.args.heap.now.locks c.args.self.now locks holds c.hold.new.heap.locks c.hold.new.self c.args.pid c.args.node asked c.requires.asked.order c.requires.asked.places
    (c.hold.ensures.chain holds.held holds.chain))

pub returns-in-None-clause-holds : goal.returns-in-None-clause-holds
returns-in-None-clause-holds c = λ locks holds.
    subst (λ k. HoldsLocks c.let_go.new.heap.locks c.let_go.new.self (after_set locks c.args.pid c.args.node (record { kind = k; start = c.args.range.now.start; last = c.args.range.now.last }))) (sym c.in-None.is ∙ c.kind.ensures)
    (holds_less c.args.heap.now.locks c.args.self.now locks holds c.let_go.new.heap.locks c.let_go.new.self c.args.pid c.args.node c.args.range.now.start c.args.range.now.last c.requires.asked.order c.requires.asked.places
    (c.let_go.ensures.chain holds.held holds.chain))

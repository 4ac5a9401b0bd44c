use Rattle.std.proofs.Common.{◌∷◌, subst}
use Rattle.kheap_laws.proofs.PaidLemmas.{IsPaid-trans}
use Rattle.kabi_types.specs.declared.ranges.Range.{Range}
use Rattle.posix_defs.specs.Locks.{lock_of}
use Rattle.lock_table.specs.Chain.{IsLockChain}
use Rattle.lock_table.specs.Setting.{let_go}
use Rattle.lock_table.proofs.Tables.{kept_on, spent_on}
use Rattle.lock_table.proofs.table.LockTable.hold.Goals as goal

pub returns-clause-chain : goal.returns-clause-chain
returns-clause-chain c = λ locks chain.
    let wide = c.widened-wide.result in
    subst (λ (w : Range). IsLockChain c.add.new.heap.locks c.add.new.self (lock_of c.args.pid c.args.node w ∷ let_go c.args.pid c.args.node w.start w.last locks)) (c.widened-wide.ensures locks chain)
    (c.add.ensures.chain (let_go c.args.pid c.args.node wide.start wide.last locks) (c.let_go.ensures.chain locks chain))

pub returns-clause-kept : goal.returns-clause-kept
returns-clause-kept c = kept_on c.args.heap.now c.let_go.new.heap c.add.new.heap c.let_go.ensures.kept c.add.ensures.kept

pub returns-clause-paid : goal.returns-clause-paid
returns-clause-paid c =
    IsPaid-trans c.args.heap.now c.args.purse.now c.let_go.new.heap c.let_go.new.purse c.add.new.heap c.add.new.purse c.let_go.ensures.paid c.add.ensures.paid

pub returns-clause-spent : goal.returns-clause-spent
returns-clause-spent c = spent_on c.args.purse.now c.let_go.new.purse c.add.new.purse c.let_go.ensures.spent c.add.ensures.spent

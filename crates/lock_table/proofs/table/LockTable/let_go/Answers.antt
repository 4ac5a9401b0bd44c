use Rattle.std.proofs.Common.{[], refl, sym, subst, ◌∙◌}
use Rattle.kheap_laws.proofs.PaidLemmas.{IsPaid-nothing, IsPaid-trans}
use Rattle.lock_table.specs.Chain.{IsLockChain}
use Rattle.lock_table.specs.Setting.{cut, with_range}
use Rattle.lock_table.proofs.Tables.{kept_first, kept_high, still_pays}
use Rattle.lock_table.proofs.table.LockTable.let_go.Goals as goal

pub add-requires-clause-pays : goal.add-requires-clause-pays
add-requires-clause-pays c = still_pays c.args.heap.now c.cut.new.heap c.args.purse.now c.cut.ensures.takes c.requires.pays

pub returns-in-Some-clause-chain : goal.returns-in-Some-clause-chain
returns-in-Some-clause-chain c = λ locks chain.
    let stayed = cut c.args.pid c.args.node c.args.start c.args.last [] locks in
    subst (λ r. IsLockChain c.add.new.heap.locks c.add.new.self (with_range c.args.pid c.args.node c.args.start c.args.last r stayed)) (sym c.in-Some.is ∙ c.cut.ensures.over locks chain)
    (c.add.ensures.chain stayed (c.cut.ensures.chain locks chain))

pub returns-in-Some-clause-kept : goal.returns-in-Some-clause-kept
returns-in-Some-clause-kept c = kept_first c.args.heap.now c.cut.new.heap c.add.new.heap c.cut.ensures.kept c.add.ensures.kept

pub returns-in-Some-clause-paid : goal.returns-in-Some-clause-paid
returns-in-Some-clause-paid c =
    IsPaid-trans c.args.heap.now c.args.purse.now c.cut.new.heap c.args.purse.now c.add.new.heap c.add.new.purse
    (IsPaid-nothing c.args.heap.now c.cut.new.heap c.args.purse.now c.args.purse.now c.cut.ensures.takes refl refl) c.add.ensures.paid

pub returns-in_default-clause-chain : goal.returns-in_default-clause-chain
returns-in_default-clause-chain c = λ locks chain.
    let stayed = cut c.args.pid c.args.node c.args.start c.args.last [] locks in
    subst (λ r. IsLockChain c.cut.new.heap.locks c.cut.new.self (with_range c.args.pid c.args.node c.args.start c.args.last r stayed)) (sym c.in_default.is ∙ c.cut.ensures.over locks chain)
    (c.cut.ensures.chain locks chain)

pub returns-in_default-clause-kept : goal.returns-in_default-clause-kept
returns-in_default-clause-kept c = kept_high c.args.heap.now c.cut.new.heap c.cut.ensures.kept

pub returns-in_default-clause-paid : goal.returns-in_default-clause-paid
returns-in_default-clause-paid c = IsPaid-nothing c.args.heap.now c.cut.new.heap c.args.purse.now c.args.purse.now c.cut.ensures.takes refl refl

pub returns-in_default-clause-pays : goal.returns-in_default-clause-pays
returns-in_default-clause-pays c = still_pays c.args.heap.now c.cut.new.heap c.args.purse.now c.cut.ensures.takes c.requires.pays

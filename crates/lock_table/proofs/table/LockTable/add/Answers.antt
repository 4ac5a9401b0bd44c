use Rattle.std.proofs.Common.{◌≡◌, ◌∷◌, Some, sym, ap, subst}
use Rattle.kabi_types.specs.declared.classes.Class.TheVariants as class
use Rattle.kheap_laws.proofs.PaidLemmas.{CanPay-kept, IsPaid-spend}
use Rattle.kheap_slabs.specs.Heap.{Heap}
use Rattle.kheap_slabs.specs.Objects.{object}
use Rattle.kheap_slabs.specs.Paid.{IsPaid}
use Rattle.kheap_slabs.specs.Purse.{Purse}
use Rattle.posix_defs.specs.Locks.{Lock, lock_of}
use Rattle.lock_table.specs.Chain.{IsLockChain, held_of}
use Rattle.lock_table.proofs.Chaining.{chain_more}
use Rattle.lock_table.proofs.table.LockTable.add.Goals as goal

pub returns-clause-chain : goal.returns-clause-chain
returns-clause-chain c = λ locks chain.
    let lock : Lock = lock_of c.args.pid c.args.node c.args.range in
    let value = held_of lock c.self.inside.first in
    let key = c.insert_lock-key.result in
    let made = ap (λ (h : Heap). h.locks) c.insert_lock-key.ensures.kept in
    subst (λ os. IsLockChain os (Some key) (lock ∷ locks)) (sym made)
    (chain_more c.args.heap.now.locks c.self.inside.first locks key lock c.insert_lock-key.ensures.vacant
    (subst (λ os. object os key ≡ Some value) made c.insert_lock-key.ensures.stored)
    (subst (λ f. IsLockChain c.args.heap.now.locks f locks) (sym c.self.view_is) chain))

paid : (c : goal.After-self-1) → IsPaid c.args.heap.now c.args.purse.now c.insert_lock-key.new.self c.spend.new.self
paid c =
    IsPaid-spend class.Lock c.args.heap.now c.insert_lock-key.new.self c.args.purse.now c.spend.new.self c.insert_lock-key.ensures.makes c.requires.left
    (ap (λ (p : Purse). p.left) c.spend.ensures.kept) (ap (λ (p : Purse). p.need) c.spend.ensures.kept)

pub returns-clause-pays : goal.returns-clause-pays
returns-clause-pays c = CanPay-kept c.args.heap.now c.insert_lock-key.new.self c.args.purse.now c.spend.new.self (paid c) c.requires.pays

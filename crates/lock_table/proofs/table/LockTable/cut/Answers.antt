use Rattle.std.proofs.Common.{◌<◌, Some, None, refl, sym, ap, subst}
use Rattle.kheap_laws.proofs.PaidLemmas.{TakesNothing-refl, TakesNothing-trans}
use Rattle.kheap_slabs.specs.Heap.{Heap}
use Rattle.kheap_slabs.specs.Objects.{count}
use Rattle.lock_table.specs.Walking.{Cuts, chain_left, chained_again}
use Rattle.lock_table.proofs.WalkLemmas.{cut_less, cut_used, cut_whole, cuts_from, cuts_step, kept_through}
use Rattle.lock_table.proofs.table.LockTable.cut.Goals as goal

pub chain-init : goal.chain-init
chain-init c = record {
  cuts = λ locks chain.
      subst (λ at. Cuts c.args.heap.now.locks (count c.args.heap.now.locks) None at None c.args.pid c.args.node c.args.start c.args.last locks) (sym c.self.view_is)
      (cuts_from c.args.heap.now.locks c.args.self.now c.args.pid c.args.node c.args.start c.args.last locks chain);
  kept = refl;
  takes = TakesNothing-refl c.args.heap.now;
}

pub get_lock-requires : goal.get_lock-requires
get_lock-requires c =
    cut_used c.chain.heap.locks (count c.args.heap.now.locks) c.chain.first c.chain.over c.args.pid c.args.node c.args.start c.args.last c.requires.0 c.in-Some.key
    (subst (λ at. Cuts c.chain.heap.locks (count c.args.heap.now.locks) c.chain.first at c.chain.over c.args.pid c.args.node c.args.start c.args.last c.requires.0) c.in-Some.is (c.chain.invariant.cuts c.requires.0 c.requires.1))

pub chain-preserved : goal.chain-preserved
chain-preserved c = record {
  cuts = λ locks chain.
      cuts_step c.chain.heap.locks c.chain_again-first.new.heap.locks (count c.args.heap.now.locks) c.chain.first c.chain_again-first.result c.in-Some.key c.get_lock.result.now c.chain.over c.over_by-over.result
      c.kept_by-range.result c.args.pid c.args.node c.args.start c.args.last locks c.get_lock.ensures c.kept_by-range.ensures (ap (λ (h : Heap). h.locks) c.chain_again-first.ensures.kept) c.chain_again-first.ensures.first c.over_by-over.ensures
      (subst (λ at. Cuts c.chain.heap.locks (count c.args.heap.now.locks) c.chain.first at c.chain.over c.args.pid c.args.node c.args.start c.args.last locks) c.in-Some.is (c.chain.invariant.cuts locks chain));
  kept = kept_through c.args.heap.now c.chain.heap c.chain_again-first.new.heap (chained_again c.chain.heap.locks c.in-Some.key c.get_lock.result.now c.chain.first c.kept_by-range.result) c.chain.invariant.kept c.chain_again-first.ensures.kept;
  takes = TakesNothing-trans c.args.heap.now c.chain.heap c.chain_again-first.new.heap c.chain.invariant.takes c.chain_again-first.ensures.takes;
}

pub chain-smaller : goal.chain-smaller
chain-smaller c =
    let before = chain_left (count c.args.heap.now.locks) c.chain.heap.locks in
    subst (λ at. chain_left (count c.args.heap.now.locks) c.chain_again-first.new.heap.locks c.get_lock.result.now.next < before at) (sym c.in-Some.is)
    (subst (λ os. chain_left (count c.args.heap.now.locks) os c.get_lock.result.now.next < before (Some c.in-Some.key)) (sym (ap (λ (h : Heap). h.locks) c.chain_again-first.ensures.kept))
    (cut_less c.chain.heap.locks (count c.args.heap.now.locks) c.chain.first c.chain.over c.args.pid c.args.node c.args.start c.args.last c.requires.0 c.in-Some.key c.get_lock.result.now c.get_lock.ensures c.kept_by-range.result
    (subst (λ at. Cuts c.chain.heap.locks (count c.args.heap.now.locks) c.chain.first at c.chain.over c.args.pid c.args.node c.args.start c.args.last c.requires.0) c.in-Some.is (c.chain.invariant.cuts c.requires.0 c.requires.1))))

pub returns-clause-chain : goal.returns-clause-chain
returns-clause-chain c = λ locks chain.
    (cut_whole c.chain.heap.locks (count c.args.heap.now.locks) c.chain.first c.chain.over c.args.pid c.args.node c.args.start c.args.last locks
    (subst (λ at. Cuts c.chain.heap.locks (count c.args.heap.now.locks) c.chain.first at c.chain.over c.args.pid c.args.node c.args.start c.args.last locks) c.in_default.is (c.chain.invariant.cuts locks chain))).0

pub returns-clause-over : goal.returns-clause-over
returns-clause-over c = λ locks chain.
    (cut_whole c.chain.heap.locks (count c.args.heap.now.locks) c.chain.first c.chain.over c.args.pid c.args.node c.args.start c.args.last locks
    (subst (λ at. Cuts c.chain.heap.locks (count c.args.heap.now.locks) c.chain.first at c.chain.over c.args.pid c.args.node c.args.start c.args.last locks) c.in_default.is (c.chain.invariant.cuts locks chain))).1

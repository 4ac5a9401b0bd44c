use Rattle.std.proofs.Common.{◌≡◌, ◌<◌, refl, sym, ap, subst, ◌∙◌}
use Rattle.kheap_slabs.specs.Objects.{count}
use Rattle.posix_defs.specs.Locks.{Locks}
use Rattle.lock_table.specs.Setting.{widened}
use Rattle.lock_table.specs.Walking.{Walks, chain_left}
use Rattle.lock_table.proofs.WalkLemmas.{walk_less, walk_used, walked, walks_from, walks_on}
use Rattle.lock_table.proofs.table.LockTable.widened.Goals as goal

pub chain-init : goal.chain-init
chain-init c = λ locks chain.
    let P = λ (rest : Locks). widened c.args.pid c.args.node c.args.asked c.args.asked rest ≡ widened c.args.pid c.args.node c.args.asked c.args.asked locks in
    subst (λ at. Walks c.args.heap.now.locks at P) (sym c.self.view_is) (walks_from c.args.heap.now.locks c.args.self.now locks P chain refl)

pub get_lock-lock-requires : goal.get_lock-lock-requires
get_lock-lock-requires c =
    let P = λ (rest : Locks). widened c.args.pid c.args.node c.args.asked c.chain.wide rest ≡ widened c.args.pid c.args.node c.args.asked c.args.asked c.requires.0 in
    walk_used c.args.heap.now.locks c.in-Some.key P (subst (λ at. Walks c.args.heap.now.locks at P) c.in-Some.is (c.chain.invariant c.requires.0 c.requires.1))

pub chain-preserved : goal.chain-preserved
chain-preserved c = λ locks chain.
    let total = widened c.args.pid c.args.node c.args.asked c.args.asked locks in
    let P = λ (rest : Locks). widened c.args.pid c.args.node c.args.asked c.chain.wide rest ≡ total in
    walks_on c.args.heap.now.locks c.in-Some.key c.get_lock-lock.result.now c.get_lock-lock.ensures P
    (λ rest. widened c.args.pid c.args.node c.args.asked c.widened_by-wide.result rest ≡ total)
    (subst (λ at. Walks c.args.heap.now.locks at P) c.in-Some.is (c.chain.invariant locks chain))
    (λ rest so. ap (λ w. widened c.args.pid c.args.node c.args.asked w rest) c.widened_by-wide.ensures ∙ so)

pub chain-smaller : goal.chain-smaller
chain-smaller c =
    let P = λ (rest : Locks). widened c.args.pid c.args.node c.args.asked c.chain.wide rest ≡ widened c.args.pid c.args.node c.args.asked c.args.asked c.requires.0 in
    subst (λ at. chain_left (count c.args.heap.now.locks) c.args.heap.now.locks c.get_lock-lock.result.now.next < chain_left (count c.args.heap.now.locks) c.args.heap.now.locks at) (sym c.in-Some.is)
    (walk_less c.args.heap.now.locks c.in-Some.key c.get_lock-lock.result.now c.get_lock-lock.ensures P (subst (λ at. Walks c.args.heap.now.locks at P) c.in-Some.is (c.chain.invariant c.requires.0 c.requires.1)))

pub returns : goal.returns
returns c = λ locks chain.
    let P = λ (rest : Locks). widened c.args.pid c.args.node c.args.asked c.chain.wide rest ≡ widened c.args.pid c.args.node c.args.asked c.args.asked locks in
    walked c.args.heap.now.locks P (subst (λ at. Walks c.args.heap.now.locks at P) c.in_default.is (c.chain.invariant locks chain))

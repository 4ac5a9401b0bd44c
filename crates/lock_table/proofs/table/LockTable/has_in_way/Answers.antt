use Rattle.std.proofs.Common.{◌≡◌, ◌<◌, ◌||◌, refl, sym, ap, subst, ◌∙◌}
use Rattle.kheap_slabs.specs.Objects.{count}
use Rattle.posix_defs.specs.Locks.{Locks, stops}
use Rattle.lock_table.specs.Holding.{asked_by}
use Rattle.lock_table.specs.Walking.{Walks, chain_left}
use Rattle.lock_table.proofs.WalkLemmas.{walk_at, walk_less, walk_used, walked, walks_from, walks_on}
use Rattle.lock_table.proofs.table.LockTable.has_in_way.Goals as goal

pub chain-init : goal.chain-init
chain-init c = λ locks chain.
    let P = λ (rest : Locks). stops rest c.args.pid c.args.node (asked_by c.args.range.now) c.args.by ≡ stops locks c.args.pid c.args.node (asked_by c.args.range.now) c.args.by in
    subst (λ at. Walks c.args.heap.now.locks at P) (sym c.self.view_is) (walks_from c.args.heap.now.locks c.args.self.now locks P chain refl)

pub get_lock-lock-requires : goal.get_lock-lock-requires
get_lock-lock-requires c =
    let P = λ (rest : Locks). stops rest c.args.pid c.args.node (asked_by c.args.range.now) c.args.by ≡ stops c.requires.0 c.args.pid c.args.node (asked_by c.args.range.now) c.args.by in
    walk_used c.args.heap.now.locks c.in-Some.key P (subst (λ at. Walks c.args.heap.now.locks at P) c.in-Some.is (c.chain.invariant c.requires.0 c.requires.1))

pub returns-then-stands_in_way : goal.returns-then-stands_in_way
returns-then-stands_in_way c = λ locks chain.
    let total = stops locks c.args.pid c.args.node (asked_by c.args.range.now) c.args.by in
    let P = λ (rest : Locks). stops rest c.args.pid c.args.node (asked_by c.args.range.now) c.args.by ≡ total in
    let it = walk_at c.args.heap.now.locks c.in-Some.key c.get_lock-lock.result.now c.get_lock-lock.ensures P (subst (λ at. Walks c.args.heap.now.locks at P) c.in-Some.is (c.chain.invariant locks chain)) in
    sym (ap (λ b. b || stops it.0 c.args.pid c.args.node (asked_by c.args.range.now) c.args.by) (sym c.stands_in_way.ensures ∙ c.if-stands_in_way.true)) ∙ it.1

pub chain-preserved : goal.chain-preserved
chain-preserved c = λ locks chain.
    let total = stops locks c.args.pid c.args.node (asked_by c.args.range.now) c.args.by in
    let P = λ (rest : Locks). stops rest c.args.pid c.args.node (asked_by c.args.range.now) c.args.by ≡ total in
    walks_on c.args.heap.now.locks c.in-Some.key c.get_lock-lock.result.now c.get_lock-lock.ensures P P
    (subst (λ at. Walks c.args.heap.now.locks at P) c.in-Some.is (c.chain.invariant locks chain))
    (λ rest so. sym (ap (λ b. b || stops rest c.args.pid c.args.node (asked_by c.args.range.now) c.args.by) (sym c.stands_in_way.ensures ∙ c.if-stands_in_way.false)) ∙ so)

pub chain-smaller : goal.chain-smaller
chain-smaller c =
    let P = λ (rest : Locks). stops rest c.args.pid c.args.node (asked_by c.args.range.now) c.args.by ≡ stops c.requires.0 c.args.pid c.args.node (asked_by c.args.range.now) c.args.by in
    subst (λ at. chain_left (count c.args.heap.now.locks) c.args.heap.now.locks c.get_lock-lock.result.now.next < chain_left (count c.args.heap.now.locks) c.args.heap.now.locks at) (sym c.in-Some.is)
    (walk_less c.args.heap.now.locks c.in-Some.key c.get_lock-lock.result.now c.get_lock-lock.ensures P (subst (λ at. Walks c.args.heap.now.locks at P) c.in-Some.is (c.chain.invariant c.requires.0 c.requires.1)))

pub returns : goal.returns
returns c = λ locks chain.
    let P = λ (rest : Locks). stops rest c.args.pid c.args.node (asked_by c.args.range.now) c.args.by ≡ stops locks c.args.pid c.args.node (asked_by c.args.range.now) c.args.by in
    walked c.args.heap.now.locks P (subst (λ at. Walks c.args.heap.now.locks at P) c.in_default.is (c.chain.invariant locks chain))

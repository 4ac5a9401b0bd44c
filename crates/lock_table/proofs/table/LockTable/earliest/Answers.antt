use Rattle.std.proofs.Common.{◌≡◌, ◌<◌, None, refl, sym, ap, subst, ◌∙◌}
use Rattle.std.specs.Option.{option_map}
use Rattle.kheap_slabs.specs.Objects.{count}
use Rattle.posix_defs.specs.Locks.{Locks}
use Rattle.lock_table.specs.Chain.{plain_of}
use Rattle.lock_table.specs.Holding.{asked_by, earliest}
use Rattle.lock_table.specs.Walking.{Walks, chain_left}
use Rattle.lock_table.proofs.WalkLemmas.{walk_less, walk_used, walked, walks_from, walks_on}
use Rattle.lock_table.proofs.table.LockTable.earliest.Goals as goal

pub chain-init : goal.chain-init
chain-init c = λ locks chain.
    subst (λ at. Walks c.args.heap.now.locks at (λ rest. earliest c.args.pid c.args.node (asked_by c.args.range.now) None rest ≡ earliest c.args.pid c.args.node (asked_by c.args.range.now) None locks))
    (sym c.self.view_is)
    (walks_from c.args.heap.now.locks c.args.self.now locks (λ rest. earliest c.args.pid c.args.node (asked_by c.args.range.now) None rest ≡ earliest c.args.pid c.args.node (asked_by c.args.range.now) None locks) chain refl)

pub get_lock-lock-requires : goal.get_lock-lock-requires
get_lock-lock-requires c =
    let P = λ (rest : Locks). earliest c.args.pid c.args.node (asked_by c.args.range.now) (option_map plain_of c.chain.first) rest ≡ earliest c.args.pid c.args.node (asked_by c.args.range.now) None c.requires.0 in
    walk_used c.args.heap.now.locks c.in-Some.key P (subst (λ at. Walks c.args.heap.now.locks at P) c.in-Some.is (c.chain.invariant c.requires.0 c.requires.1))

pub chain-preserved : goal.chain-preserved
chain-preserved c = λ locks chain.
    let total = earliest c.args.pid c.args.node (asked_by c.args.range.now) None locks in
    let P = λ (rest : Locks). earliest c.args.pid c.args.node (asked_by c.args.range.now) (option_map plain_of c.chain.first) rest ≡ total in
    walks_on c.args.heap.now.locks c.in-Some.key c.get_lock-lock.result.now c.get_lock-lock.ensures P
    (λ rest. earliest c.args.pid c.args.node (asked_by c.args.range.now) (option_map plain_of c.earlier-first.result) rest ≡ total)
    (subst (λ at. Walks c.args.heap.now.locks at P) c.in-Some.is (c.chain.invariant locks chain))
    (λ rest so. ap (λ f. earliest c.args.pid c.args.node (asked_by c.args.range.now) f rest) c.earlier-first.ensures ∙ so)

pub chain-smaller : goal.chain-smaller
chain-smaller c =
    let P = λ (rest : Locks). earliest c.args.pid c.args.node (asked_by c.args.range.now) (option_map plain_of c.chain.first) rest ≡ earliest c.args.pid c.args.node (asked_by c.args.range.now) None c.requires.0 in
    subst (λ at. chain_left (count c.args.heap.now.locks) c.args.heap.now.locks c.get_lock-lock.result.now.next < chain_left (count c.args.heap.now.locks) c.args.heap.now.locks at) (sym c.in-Some.is)
    (walk_less c.args.heap.now.locks c.in-Some.key c.get_lock-lock.result.now c.get_lock-lock.ensures P (subst (λ at. Walks c.args.heap.now.locks at P) c.in-Some.is (c.chain.invariant c.requires.0 c.requires.1)))

pub returns : goal.returns
returns c = λ locks chain.
    let P = λ (rest : Locks). earliest c.args.pid c.args.node (asked_by c.args.range.now) (option_map plain_of c.chain.first) rest ≡ earliest c.args.pid c.args.node (asked_by c.args.range.now) None locks in
    walked c.args.heap.now.locks P (subst (λ at. Walks c.args.heap.now.locks at P) c.in_default.is (c.chain.invariant locks chain))

use Rattle.std.proofs.Common.{◌≡◌, ◌<◌, Option, Some, None, IsSome, refl, sym, subst}
use Rattle.kheap_slabs.specs.Objects.{count}
use Rattle.kheap_laws.proofs.OnceLemmas.{IsOnce-right}
use Rattle.pipe_ends.specs.Links.{Link, link_at}
use Rattle.fifo_nodes.specs.Walking.{Walks, chain_left}
use Rattle.fifo_nodes.proofs.WalkLemmas.{here_used, walked_past, walked_to, walks_from, walks_less, walks_on}
use Rattle.fifo_nodes.proofs.table.FifoTable.before.Goals as goal

its : (o : Option Link) → IsSome o → (link : Link) × (o ≡ Some link)
its None some = absurd (cc)
its (Some link) some = (link, refl)

pub chain-init : goal.chain-init
chain-init c =
    let link = its (link_at c.args.heap.now c.args.key) c.requires.there in
    subst (Walks c.args.heap.now c.args.self.now c.args.key None) (sym c.self.view_is) (walks_from c.args.heap.now c.args.self.now c.args.key link.0 c.requires.chain link.1)

pub returns-then-here-key : goal.returns-then-here-key
returns-then-here-key c =
    let so = subst (Walks c.args.heap.now c.args.self.now c.args.key c.chain.before) c.in-Some.is c.chain.invariant in
    walked_to c.args.heap.now c.args.self.now c.args.key c.chain.before (subst (λ k. Walks c.args.heap.now c.args.self.now c.args.key c.chain.before (Some k)) c.if-here-key.true so)

pub get_pipe-requires : goal.get_pipe-requires
get_pipe-requires c =
    let so = subst (Walks c.args.heap.now c.args.self.now c.args.key c.chain.before) c.in-Some.is c.chain.invariant in
    here_used c.args.heap.now c.in-Some.here so.rest so.behind

pub chain-preserved : goal.chain-preserved
chain-preserved c =
    let so = subst (Walks c.args.heap.now c.args.self.now c.args.key c.chain.before) c.in-Some.is c.chain.invariant in
    walks_on c.args.heap.now c.args.self.now c.args.key c.in-Some.here c.chain.before c.get_pipe.result.now so c.get_pipe.ensures c.if-here-key.false

pub chain-smaller : goal.chain-smaller
chain-smaller c =
    let so = subst (Walks c.args.heap.now c.args.self.now c.args.key c.chain.before) c.in-Some.is c.chain.invariant in
    subst (λ at. chain_left (count c.args.heap.now.pipes) c.args.heap.now c.get_pipe.result.now.next < chain_left (count c.args.heap.now.pipes) c.args.heap.now at) (sym c.in-Some.is)
    (walks_less c.args.heap.now c.in-Some.here so.rest c.get_pipe.result.now so.behind (IsOnce-right so.front so.rest so.once) c.get_pipe.ensures)

pub returns : goal.returns
returns c =
    absurd (walked_past c.args.heap.now c.args.self.now c.args.key c.chain.before (subst (Walks c.args.heap.now c.args.self.now c.args.key c.chain.before) c.in_default.is c.chain.invariant))

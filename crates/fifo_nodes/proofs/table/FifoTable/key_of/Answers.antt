use Rattle.std.proofs.Common.{◌<◌, sym, subst}
use Rattle.kheap_slabs.specs.Objects.{count}
use Rattle.fifo_nodes.specs.Walking.{Seeks, chain_left}
use Rattle.fifo_nodes.proofs.WalkLemmas.{found_here, found_none, here_used, seeks_from, seeks_on, walks_less}
use Rattle.fifo_nodes.proofs.table.FifoTable.key_of.Goals as goal

pub chain-init : goal.chain-init
chain-init c = subst (Seeks c.args.heap.now c.args.node) (sym c.self.view_is) (seeks_from c.args.heap.now c.args.self.now c.args.node c.requires)

pub get_pipe-pipe-requires : goal.get_pipe-pipe-requires
get_pipe-pipe-requires c =
    let so = subst (Seeks c.args.heap.now c.args.node) c.in-Some.is c.chain.invariant in
    here_used c.args.heap.now c.in-Some.key so.rest so.behind

pub chain-preserved : goal.chain-preserved
chain-preserved c =
    let so = subst (Seeks c.args.heap.now c.args.node) c.in-Some.is c.chain.invariant in
    seeks_on c.args.heap.now c.args.node c.in-Some.key c.get_pipe-pipe.result.now so c.get_pipe-pipe.ensures c.if-pipe-node.false

pub chain-smaller : goal.chain-smaller
chain-smaller c =
    let so = subst (Seeks c.args.heap.now c.args.node) c.in-Some.is c.chain.invariant in
    subst (λ at. chain_left (count c.args.heap.now.pipes) c.args.heap.now c.get_pipe-pipe.result.now.next < chain_left (count c.args.heap.now.pipes) c.args.heap.now at) (sym c.in-Some.is)
    (walks_less c.args.heap.now c.in-Some.key so.rest c.get_pipe-pipe.result.now so.behind so.once c.get_pipe-pipe.ensures)

pub returns-then-pipe-node-clause-some : goal.returns-then-pipe-node-clause-some
returns-then-pipe-node-clause-some c =
    let so = subst (Seeks c.args.heap.now c.args.node) c.in-Some.is c.chain.invariant in
    found_here c.args.heap.now c.args.node c.in-Some.key c.get_pipe-pipe.result.now so c.get_pipe-pipe.ensures c.if-pipe-node.true

pub returns-clause-none : goal.returns-clause-none
returns-clause-none c = λ none. found_none c.args.heap.now c.args.node (subst (Seeks c.args.heap.now c.args.node) c.in_default.is c.chain.invariant)

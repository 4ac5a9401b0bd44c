use Rattle.std.proofs.Common.{◌≡◌, IsSome, Some, refl, sym, ap, subst, ◌∙◌, inl, inr}
use Rattle.kheap_slabs.specs.Objects.{object, put}
use Rattle.pipe_ends.proofs.RelinkLemmas.{before_next}
use Rattle.fifo_nodes.specs.Walking.{IsChainBut}
use Rattle.fifo_nodes.proofs.CloseLemmas.{behind_used, but_behind, but_first, link_stays_but}
use Rattle.fifo_nodes.proofs.table.FifoTable.unchain.Goals as goal
use Rattle.fifo_nodes.proofs.table.FifoTable.unchain.Goals.{After-set_pipe}

pub before-requires : goal.before-requires
before-requires c = record { chain = c.requires.chain; there = subst IsSome (sym c.requires.there.1) refl }

pub get_pipe-pipe-requires : goal.get_pipe-pipe-requires
get_pipe-pipe-requires c =
    behind_used c.args.heap.now c.args.self.now c.args.key c.in-Some.before c.in-Some.ensures

-- the pipe before stands before the next one
stored : (c : After-set_pipe) → object c.set_pipe.new.self.pipes c.in-Some.before ≡ Some (before_next c.get_pipe-pipe.result.now c.requires.there.0.next)
stored c = c.set_pipe.ensures.stored ∙ ap (λ n. Some (before_next c.get_pipe-pipe.result.now n)) (sym c.requires.there.2)

kept : (c : After-set_pipe) → c.set_pipe.new.self ≡ record c.args.heap.now { pipes = put c.args.heap.now.pipes c.in-Some.before (before_next c.get_pipe-pipe.result.now c.requires.there.0.next) }
kept c = c.set_pipe.ensures.kept ∙ ap (λ n. record c.args.heap.now { pipes = put c.args.heap.now.pipes c.in-Some.before (before_next c.get_pipe-pipe.result.now n) }) (sym c.requires.there.2)

pub returns-in-Some-clause-relinked : goal.returns-in-Some-clause-relinked
returns-in-Some-clause-relinked c = inr (record { key = c.in-Some.before; pipe = c.get_pipe-pipe.result.now; next = c.args.next; there = c.get_pipe-pipe.ensures; now = c.set_pipe.ensures.kept })

pub returns-in-Some-clause-link : goal.returns-in-Some-clause-link
returns-in-Some-clause-link c =
    link_stays_but c.args.heap.now c.set_pipe.new.self c.args.self.now c.args.key c.in-Some.before c.requires.there.0 c.get_pipe-pipe.result.now c.requires.chain c.requires.there.1
    c.in-Some.ensures c.get_pipe-pipe.ensures (stored c) (kept c)

pub returns-in-Some-clause-chain : goal.returns-in-Some-clause-chain
returns-in-Some-clause-chain c =
    but_behind c.args.heap.now c.set_pipe.new.self c.args.self.now c.args.key c.in-Some.before c.requires.there.0 c.get_pipe-pipe.result.now c.requires.chain c.requires.there.1
    c.in-Some.ensures c.get_pipe-pipe.ensures (stored c) (kept c)

pub returns-in-None-clause-relinked : goal.returns-in-None-clause-relinked
returns-in-None-clause-relinked c = inl refl

pub returns-in-None-clause-chain : goal.returns-in-None-clause-chain
returns-in-None-clause-chain c =
    subst (λ n. IsChainBut c.args.heap.now n c.args.key) c.requires.there.2
    (but_first c.args.heap.now c.args.self.now c.args.key c.requires.there.0 c.requires.chain c.requires.there.1
    c.in-None.ensures)

use Rattle.std.proofs.Common.{◌≡◌, ℕ, sym, subst, ◌∙◌}
use Rattle.kheap_laws.proofs.PaidLemmas.{TakesNothing-trans}
use Rattle.pipe_ends.specs.Standing.{HasEndAt}
use Rattle.pipe_ends.proofs.RelinkLemmas.{relinked_stands}
use Rattle.fifo_nodes.specs.Chain.{ClosesEndOf}
use Rattle.fifo_nodes.proofs.ChainLemmas.{one_pipe}
use Rattle.fifo_nodes.proofs.table.FifoTable.close_end.Goals as goal

pub unreachable-requires : goal.unreachable-requires
unreachable-requires c = let end = c.requires.end in c.key_of.ensures.none c.in_default.is end.0 end.3

pub leave_end-requires-clause-end : goal.leave_end-requires-clause-end
leave_end-requires-clause-end c =
    let end = c.requires.end in
    let same = one_pipe c.args.heap.now c.args.self.now c.args.node end.0 c.in-Some.key c.requires.chain end.3 c.in-Some.ensures.some in
    subst (λ k. HasEndAt c.args.heap.now k c.args.writing) same (end.1, end.2, end.4, end.5)

pub close_end-requires : goal.close_end-requires
close_end-requires c =
    let end = c.requires.end in
    let same = one_pipe c.args.heap.now c.args.self.now c.args.node end.0 c.in-Some.key c.requires.chain end.3 c.in-Some.ensures.some in record {
      owned = c.leave_end.ensures.owned;
      end = subst (λ k. HasEndAt c.leave_end.new.heap k c.args.writing) same
          (end.1, end.2, relinked_stands c.args.heap.now c.leave_end.new.heap end.0 end.1 end.2 c.leave_end.ensures.relinked end.4, end.5);
    }

pub returns-clause-closes : goal.returns-clause-closes
returns-clause-closes c = λ key is.
    subst (λ k. ClosesEndOf c.args.heap.now c.close_end.new.heap k c.args.writing) (one_pipe c.args.heap.now c.args.self.now c.args.node c.in-Some.key key c.requires.chain c.in-Some.ensures.some is) (record {
      mid = c.leave_end.new.heap;
      relinked = c.leave_end.ensures.relinked;
      gone = λ pipe at stands. c.close_end.ensures.gone pipe at (relinked_stands c.args.heap.now c.leave_end.new.heap c.in-Some.key pipe at c.leave_end.ensures.relinked stands);
      stands = λ pipe at left stands. c.close_end.ensures.stands pipe at left (relinked_stands c.args.heap.now c.leave_end.new.heap c.in-Some.key pipe at c.leave_end.ensures.relinked stands);
      others = c.close_end.ensures.others;
    })

pub returns-clause-chain : goal.returns-clause-chain
returns-clause-chain c = c.leave_end.ensures.chain c.close_end.new.heap c.close_end.ensures.link

pub returns-clause-takes : goal.returns-clause-takes
returns-clause-takes c = TakesNothing-trans c.args.heap.now c.leave_end.new.heap c.close_end.new.heap c.leave_end.ensures.takes c.close_end.ensures.takes

use Rattle.std.proofs.Common.{◌<◌, refl, sym, ap, subst, inl, ◌∙◌}
use Rattle.pipe_ends.specs.Links.{link_closed}
use Rattle.pipe_ends.proofs.RelinkLemmas.{relinked_owns}
use Rattle.fifo_nodes.proofs.CloseLemmas.{closes_last, closes_less, last_closed}
use Rattle.fifo_nodes.proofs.OpenLemmas.{ends_as}
use Rattle.fifo_nodes.proofs.table.FifoTable.leave_end.Goals as goal

pub unchain-requires : goal.unchain-requires
unchain-requires c =
    let closed = last_closed c.args.heap.now c.args.key c.get_pipe.result.now c.args.writing c.get_pipe.ensures (sym c.is_last.ensures ∙ c.if-is_last.true) in record {
      owned = c.requires.owned;
      chain = c.requires.chain;
      there = (_, closed.0, refl);
    }

pub returns-then-is_last-clause-chain : goal.returns-then-is_last-clause-chain
returns-then-is_last-clause-chain c = λ closed closes.
    let last = last_closed c.args.heap.now c.args.key c.get_pipe.result.now c.args.writing c.get_pipe.ensures (sym c.is_last.ensures ∙ c.if-is_last.true) in
    closes_last c.unchain.new.heap closed c.unchain.new.self c.args.key c.args.writing c.unchain.ensures.chain (ap (link_closed c.args.writing) c.unchain.ensures.link ∙ last.1) closes

pub returns-then-is_last-clause-owned : goal.returns-then-is_last-clause-owned
returns-then-is_last-clause-owned c = relinked_owns c.args.heap.now c.unchain.new.heap c.unchain.ensures.relinked c.requires.owned

pub returns-else-is_last-clause-relinked : goal.returns-else-is_last-clause-relinked
returns-else-is_last-clause-relinked c = inl refl

pub returns-else-is_last-clause-chain : goal.returns-else-is_last-clause-chain
returns-else-is_last-clause-chain c = λ closed closes.
    let end = c.requires.end in
    closes_less c.args.heap.now closed c.args.self.now c.args.key c.args.writing c.get_pipe.result.now c.requires.chain c.get_pipe.ensures
    (subst (λ n. 0 < n) (sym (ends_as c.args.heap.now c.args.key c.get_pipe.result.now end.0 end.1 c.args.writing c.get_pipe.ensures end.2)) end.3)
    (sym c.is_last.ensures ∙ c.if-is_last.false) closes

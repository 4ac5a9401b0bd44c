use Rattle.std.proofs.Common.{Some, ap, ◌∙◌}
use Rattle.kheap_slabs.specs.Objects.{put}
use Rattle.fifo_nodes.specs.Held.{OpensAt}
use Rattle.fifo_nodes.proofs.OpenLemmas.{has_room, opens_owns}
use Rattle.fifo_nodes.proofs.table.add_end.Goals as goal

pub with_end-requires : goal.with_end-requires
with_end-requires c =
    let there = c.requires.there in
    has_room c.args.heap.now c.args.key c.get_pipe-pipe.result.now there.0 there.1 c.args.writing c.get_pipe-pipe.ensures there.2 (c.requires.few there.0 there.1 there.2)

opens : (c : goal.After-set_pipe) → OpensAt c.args.heap.now c.set_pipe.new.self c.args.key c.args.writing
opens c = record {
  pipe = c.get_pipe-pipe.result.now;
  there = c.get_pipe-pipe.ensures;
  stored = c.set_pipe.ensures.stored ∙ ap Some c.with_end.ensures;
  kept = c.set_pipe.ensures.kept ∙ ap (λ p. record c.args.heap.now { pipes = put c.args.heap.now.pipes c.args.key p }) c.with_end.ensures;
}

pub returns-clause-opens : goal.returns-clause-opens
returns-clause-opens c = opens c

pub returns-clause-owned : goal.returns-clause-owned
returns-clause-owned c = opens_owns c.args.heap.now c.set_pipe.new.self c.args.key c.args.writing (opens c) c.requires.owned

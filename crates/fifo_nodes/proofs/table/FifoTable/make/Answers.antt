use Rattle.std.proofs.Common.{◌≡◌, Some, ap, sym, subst, ◌∙◌}
use Rattle.kheap_laws.proofs.TableLemmas.{OwnsItsObjects-pipe_comes}
use Rattle.kheap_slabs.specs.Objects.{object, put}
use Rattle.fifo_nodes.specs.Held.{HasRoom, held_unopened, held_with_end}
use Rattle.fifo_nodes.proofs.OpenLemmas.{made_chain, made_end, made_queue, made_room}
use Rattle.fifo_nodes.proofs.table.FifoTable.make.Goals as goal

pub with_end-requires : goal.with_end-requires
with_end-requires c = subst (λ p. HasRoom p c.args.writing) (sym c.unopened.ensures) (made_room c.args.node c.self.inside.first c.args.writing)

-- what was made
made : (c : goal.After-self-1) → c.with_end.result ≡ held_with_end (held_unopened c.args.node c.args.self.now) c.args.writing
made c = c.with_end.ensures ∙ ap (λ p. held_with_end p c.args.writing) (c.unopened.ensures ∙ ap (held_unopened c.args.node) c.self.view_is)

stored : (c : goal.After-self-1) → object c.insert_pipe-key.new.self.pipes c.insert_pipe-key.result ≡ Some (held_with_end (held_unopened c.args.node c.args.self.now) c.args.writing)
stored c = c.insert_pipe-key.ensures.stored ∙ ap Some (made c)

kept : (c : goal.After-self-1) → c.insert_pipe-key.new.self
    ≡ record c.args.heap.now { pipes = put c.args.heap.now.pipes c.insert_pipe-key.result (held_with_end (held_unopened c.args.node c.args.self.now) c.args.writing); high = c.insert_pipe-key.new.self.high }
kept c = c.insert_pipe-key.ensures.kept ∙ ap (λ p. record c.args.heap.now { pipes = put c.args.heap.now.pipes c.insert_pipe-key.result p; high = c.insert_pipe-key.new.self.high }) (made c)

pub returns-clause-opens : goal.returns-clause-opens
returns-clause-opens c =
    made_end c.args.heap.now c.insert_pipe-key.new.self c.args.self.now c.args.node c.insert_pipe-key.result c.args.writing c.insert_pipe-key.new.self.high c.requires.chain c.requires.node c.requires.none c.insert_pipe-key.ensures.vacant (stored c) (kept c)

pub returns-clause-chain : goal.returns-clause-chain
returns-clause-chain c =
    made_chain c.args.heap.now c.insert_pipe-key.new.self c.args.self.now c.args.node c.insert_pipe-key.result c.args.writing c.insert_pipe-key.new.self.high c.requires.chain c.requires.node c.requires.none c.insert_pipe-key.ensures.vacant (stored c) (kept c)

pub returns-clause-owned : goal.returns-clause-owned
returns-clause-owned c =
    OwnsItsObjects-pipe_comes c.args.heap.now c.insert_pipe-key.new.self c.insert_pipe-key.result _ c.insert_pipe-key.ensures.vacant (stored c) (made_queue c.args.node c.args.self.now c.args.writing) (kept c) c.requires.owned

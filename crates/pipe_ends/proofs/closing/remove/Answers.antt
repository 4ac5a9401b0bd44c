use Rattle.std.proofs.Common.{List, [], ap, ◌∙◌, arith}
use Rattle.kabi_types.specs.declared.classes.Class.TheVariants as class
use Rattle.kheap_laws.proofs.PaidLemmas.{TakesNothing-trans, TakesNothing-freed}
use Rattle.posix_defs.specs.QueuePlace.{QueuePlace}
use Rattle.chunk_queue.specs.Chained.{place_of}
use Rattle.chunk_queue.specs.Held.{PipeGoes}
use Rattle.chunk_queue.proofs.HeldLemmas.{pipe_queue_in, pipe_goes}
use Rattle.chunk_queue.proofs.StepLemmas.{taken_all}
use Rattle.pipe_ends.proofs.StandingLemmas.{others_gone}
use Rattle.pipe_ends.proofs.closing.remove.Goals as goal

pub clear-requires : goal.clear-requires
clear-requires c = rw c.of-unread.ensures (pipe_queue_in c.args.heap.now c.args.key c.args.pipe c.requires.there c.requires.owned)

-- the pipe is gone, and no other was touched
goes : (c : goal.After-free_pipe-gone) → PipeGoes c.args.heap.now c.free_pipe-gone.new.self c.args.key c.args.pipe.queue
goes c =
    let turns = rw c.of-unread.ensures at c.clear.ensures.bytes in
    let none = ap (λ (q : QueuePlace). q.len) (c.clear.ensures.place ∙ taken_all (place_of c.of-unread.result) c.of-unread.result.len (omega arith)) in
    pipe_goes c.args.heap.now c.clear.new.heap c.free_pipe-gone.new.self c.args.key c.args.pipe c.clear.new.self (λ (old : List _). []) c.requires.owned c.requires.there c.clear.ensures.others turns none c.free_pipe-gone.ensures.kept

pub returns-clause-owned : goal.returns-clause-owned
returns-clause-owned c = (goes c).owns

pub returns-clause-others : goal.returns-clause-others
returns-clause-others c = others_gone c.args.heap.now c.clear.new.heap c.free_pipe-gone.new.self c.args.key c.args.pipe c.requires.there c.clear.ensures.others c.free_pipe-gone.ensures.kept (goes c)

pub returns-clause-takes : goal.returns-clause-takes
returns-clause-takes c = TakesNothing-trans c.args.heap.now c.clear.new.heap c.free_pipe-gone.new.self c.clear.ensures.takes (TakesNothing-freed class.Pipe c.clear.new.heap c.free_pipe-gone.new.self c.free_pipe-gone.ensures.frees)

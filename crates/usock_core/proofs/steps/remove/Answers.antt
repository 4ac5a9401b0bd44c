use Rattle.std.proofs.Common.{List, [], ap, ◌∙◌}
use Rattle.kabi_types.specs.declared.classes.Class.TheVariants as class
use Rattle.kheap_laws.proofs.PaidLemmas.{TakesNothing-trans, TakesNothing-freed}
use Rattle.posix_defs.specs.QueuePlace.{QueuePlace}
use Rattle.chunk_queue.proofs.HeldLemmas.{sock_queue_in}
use Rattle.usock_core.proofs.StepLemmas.{goes_by, all_taken}
use Rattle.usock_core.proofs.steps.remove.Goals as goal

pub clear-requires : goal.clear-requires
clear-requires c = rw c.of-queue.ensures (sock_queue_in c.args.heap.now c.args.key c.args.sock c.requires.there c.requires.owned)

pub returns-clause-goes : goal.returns-clause-goes
returns-clause-goes c =
    let turns = rw c.of-queue.ensures at c.clear.ensures.bytes in
    let none = ap (λ (q : QueuePlace). q.len) (c.clear.ensures.place ∙ all_taken c.of-queue.result) in
    goes_by c.args.heap.now c.clear.new.heap c.free_sock-gone.new.self c.args.key c.args.sock c.clear.new.self (λ (had : List _). []) c.requires.owned c.requires.there c.clear.ensures.others turns none c.free_sock-gone.ensures.gone c.free_sock-gone.ensures.kept

pub returns-clause-takes : goal.returns-clause-takes
returns-clause-takes c =
    TakesNothing-trans c.args.heap.now c.clear.new.heap c.free_sock-gone.new.self c.clear.ensures.takes (TakesNothing-freed class.Sock c.clear.new.heap c.free_sock-gone.new.self c.free_sock-gone.ensures.frees)

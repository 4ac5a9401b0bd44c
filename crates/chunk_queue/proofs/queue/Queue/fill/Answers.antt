use Rattle.std.proofs.Common.{◌≡◌, length, take, min, ap, sym, ◌∙◌, arith}
use Rattle.std.proofs.lemmas.List.{length-take}
use Rattle.kheap_slabs.specs.declared.objects.QueueParts.{QueueParts}
use Rattle.posix_defs.specs.QueuePlace.{chunks_of}
use Rattle.chunk_queue.proofs.StepLemmas.{owns, empty_without_last, chunks_filled}
use Rattle.chunk_queue.proofs.queue.Queue.fill.Goals as goal

pub overflow_add-behind : goal.overflow_add-behind
overflow_add-behind c =
    let mine = owns c.args.heap.now c.requires.owned.0 c.args.self.now c.requires.owned.1 c.requires.owned.2 in
    let len = ap (λ (q : QueueParts). q.len) c.self.view_is in
    let place = ap (λ (q : QueueParts). q.place) c.self.view_is in
    omega (arith, mine.place, c.requires.room)

pub returns-in-Some-clause-chunks : goal.returns-in-Some-clause-chunks
returns-in-Some-clause-chunks c =
    let mine = owns c.args.heap.now c.requires.owned.0 c.args.self.now c.requires.owned.1 c.requires.owned.2 in
    let len = ap (λ (q : QueueParts). q.len) c.self.view_is in
    let place = ap (λ (q : QueueParts). q.place) c.self.view_is in
    let short : length (take c.min-count.result c.args.bytes.now) ≡ min c.min-count.result (length c.args.bytes.now) = length-take c.min-count.result c.args.bytes.now in
    ap chunks_of c.fill_last.ensures.place ∙ chunks_filled c.args.self.now.place c.args.self.now.len (length (take c.min-count.result c.args.bytes.now)) mine.empty (omega arith) (omega (arith, short))

pub returns-in_default-2-clause-full : goal.returns-in_default-2-clause-full
returns-in_default-2-clause-full c some =
    let none = empty_without_last c.args.heap.now c.requires.owned.0 c.args.self.now c.requires.owned.1 (ap (λ (q : QueueParts). q.last) (sym c.self.view_is) ∙ c.in_default.is) c.requires.owned.2 in
    omega (arith, none)

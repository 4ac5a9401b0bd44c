use Rattle.std.proofs.Common.{rules, ◌≡◌, ap, arith}
use Rattle.kheap_slabs.specs.declared.objects.QueueParts.{QueueParts}
use Rattle.kheap_slabs.specs.Heap.{Heap}
use Rattle.chunk_queue.proofs.StepLemmas.{passes_some, passes_all, passes_chunk, first_used}
use Rattle.chunk_queue.proofs.queue.Queue.skip.Goals as goal

pub free_chunk-requires : goal.free_chunk-requires
free_chunk-requires c = first_used c.args.heap.now c.requires.owned.0 c.args.self.now c.requires.owned.1 c.args.first c.requires.first c.requires.owned.2

pub free_chunk-requires-then-self-eq-CHUNK : goal.free_chunk-requires-then-self-eq-CHUNK
free_chunk-requires-then-self-eq-CHUNK c = first_used c.args.heap.now c.requires.owned.0 c.args.self.now c.requires.owned.1 c.args.first c.requires.first c.requires.owned.2

pub returns-then-count-self-clause-bytes : goal.returns-then-count-self-clause-bytes
returns-then-count-self-clause-bytes c keys owners is =
    let kept = c.free_chunk.ensures.kept in
    let len = ap (λ (q : QueueParts). q.len) c.self.view_is in
    let all : c.args.count ≡ c.args.self.now.len = omega arith in
    rw all (passes_all c.args.heap.now c.free_chunk.new.self keys c.args.self.now owners c.args.first c.requires.first (omega (arith, all)) c.requires.some (ap (λ (h : Heap). h.chunks) kept) (ap (λ (h : Heap). h.nodes) kept) (ap (λ (h : Heap). h.pages) kept) is)

pub returns-then-self-eq-CHUNK-clause-bytes : goal.returns-then-self-eq-CHUNK-clause-bytes
returns-then-self-eq-CHUNK-clause-bytes c keys owners is =
    let kept = c.free_chunk-then-self-eq-CHUNK.ensures.kept in
    let len = ap (λ (q : QueueParts). q.len) c.self.view_is in
    let place = ap (λ (q : QueueParts). q.place) c.self.view_is in
    rw c.self.view_is (passes_chunk c.args.heap.now c.free_chunk-then-self-eq-CHUNK.new.self keys c.args.self.now owners c.args.first c.free_chunk-then-self-eq-CHUNK.result c.args.count (search rules) c.requires.first c.free_chunk-then-self-eq-CHUNK.ensures.value (omega arith) (omega arith) (ap (λ (h : Heap). h.chunks) kept) (ap (λ (h : Heap). h.nodes) kept) (ap (λ (h : Heap). h.pages) kept) is)

pub returns-else-self-eq-CHUNK-clause-bytes : goal.returns-else-self-eq-CHUNK-clause-bytes
returns-else-self-eq-CHUNK-clause-bytes c keys owners is =
    let len = ap (λ (q : QueueParts). q.len) c.self.view_is in
    let place = ap (λ (q : QueueParts). q.place) c.self.view_is in
    rw c.self.view_is (passes_some c.args.heap.now keys c.args.self.now owners c.args.count (omega arith) (omega arith) is)

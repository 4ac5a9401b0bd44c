use Rattle.std.proofs.Common.{◌≡◌, ◌+◌, ◌-◌, ◌%◌, ℕ, List, length, ap, ◌∙◌, arith, refl}
use Rattle.std.proofs.lemmas.Slice.{put_mid-paste}
use Rattle.std.proofs.lemmas.List.Edits.{paste_all}
use borrow.Rule.Slice.PartMut.{put_mid}
use Rattle.kheap_slabs.specs.Objects.{put}
use Rattle.kheap_slabs.specs.declared.objects.Chunk.{Chunk}
use Rattle.kheap_slabs.specs.declared.objects.QueueParts.{QueueParts}
use Rattle.kheap_slabs.specs.Heap.{Heap}
use Rattle.chunk_queue.proofs.StepLemmas.{owns, last_used, fills_last, with_bytes}
use Rattle.chunk_queue.proofs.queue.Queue.fill_last.Goals as goal

pub overflow_add-at : goal.overflow_add-at
overflow_add-at c =
    let mine = owns c.args.heap.now c.requires.owned.0 c.args.self.now c.requires.owned.1 c.requires.owned.2 in
    let len = ap (λ (q : QueueParts). q.len) c.self.view_is in
    let place = ap (λ (q : QueueParts). q.place) c.self.view_is in
    omega (arith, mine.place, c.requires.room)

pub get_chunk-requires : goal.get_chunk-requires
get_chunk-requires c = last_used c.args.heap.now c.requires.owned.0 c.args.self.now c.requires.owned.1 c.args.last c.requires.last c.requires.owned.2

-- the bytes that were written over others
written : (chunk : Chunk) (at : ℕ) (copied bytes : List ℕ) → copied ≡ bytes → (record chunk { bytes = put_mid at (at + length bytes - at) chunk.bytes copied }) ≡ with_bytes chunk at bytes
written chunk at copied bytes same =
    ap (λ list. record chunk { bytes = list }) (put_mid-paste at (at + length bytes - at) chunk.bytes copied bytes (length bytes) same (omega arith) refl ∙ paste_all chunk.bytes at bytes (length bytes) refl)

pub returns-clause-bytes : goal.returns-clause-bytes
returns-clause-bytes c keys owners is =
    let kept = c.set_chunk.ensures.kept in
    let at = (c.self.inside.parts.place + c.self.inside.parts.len) % 512 in
    let chunks = ap (λ (h : Heap). h.chunks) kept ∙ ap (put c.args.heap.now.chunks c.args.last) (written c.get_chunk.result.now at c.copy_from_slice.new.self c.args.bytes.now c.copy_from_slice.ensures.after) in
    rw c.self.view_is (fills_last c.args.heap.now c.set_chunk.new.self keys c.args.self.now owners c.args.last ((c.args.self.now.place + c.args.self.now.len) % 512) c.get_chunk.result.now c.args.bytes.now c.heap-limit.ensures.well_formed c.requires.last c.get_chunk.ensures refl c.requires.begun c.requires.within (rw (← c.self.view_is) chunks) (ap (λ (h : Heap). h.nodes) kept) (ap (λ (h : Heap). h.pages) kept) is)

-- How many chunks a queue has, and the bytes that they take of the heap.
use Rattle.std.proofs.Common.{◌≡◌, ◌≢◌, ◌⊎◌, inl, inr, ℕ, suc, ◌+◌, ◌*◌, ◌/◌, List, [], ◌∷◌, ◌++◌, Option, None, Some, length, map, sum_by, refl, sym, ap, ◌∙◌, arith, Contains, length-append}
use Rattle.std.proofs.lemmas.Bool.{cases_eq}
use Rattle.std.proofs.lemmas.List.Elements.{Contains-append_right}
use Rattle.std.proofs.lemmas.List.Sums.{sum_by-cons}
use Rattle.kheap_slabs.specs.Objects.{InUse, count, without}
use Rattle.kheap_slabs.specs.declared.objects.Chunk.{Chunk}
use Rattle.kheap_slabs.specs.declared.objects.QueueParts.{QueueParts}
use Rattle.kheap_slabs.specs.Heap.{Heap, live_bytes}
use Rattle.kheap_slabs.specs.Keys.{AreKeysOf}
use Rattle.kheap_slabs.specs.Owners.{Owners, with_queue, chunk_keys, IsOwned, OwnsItsObjects, pipe_queues, sock_queues}
use Rattle.kheap_slabs.specs.Queues.{OwnedQueue, OwnsChunks}
use Rattle.kheap_slabs.proofs.ObjectLemmas.{object-without_other, count-without}
use Rattle.kheap_laws.proofs.OnceLemmas.{IsOnce-head, IsOnce-tail}
use Rattle.posix_defs.specs.QueuePlace.{chunks_of}
use Rattle.chunk_queue.specs.Chained.{owned, OnlyChunks, place_of}
use Rattle.chunk_queue.proofs.JoinedLemmas.{Contains-cons, Contains-cons_cases}
use Rattle.chunk_queue.proofs.StepLemmas.{owns, gone_is_free, chunks_some}

module _ {X : Type 0} where
  count-unused : (objects : List (Option X)) → ((key : ℕ) → InUse objects key → ⊥) → count objects ≡ 0
  count-unused [] none = refl
  count-unused (None ∷ rest) none = count-unused rest (λ key used. none (suc key) used)
  count-unused (Some x ∷ rest) none = absurd (none 0 refl)

  -- a list of all keys in use has as many as there are objects
  pub count-keys : (objects : List (Option X)) (keys : List ℕ) → AreKeysOf objects keys → count objects ≡ length keys
  count-keys objects [] all = count-unused objects (λ key used. omega (arith, (all.listed key used).1))
  count-keys objects (key ∷ rest) all =
      let used = all.used key (0, omega arith, refl) in
      let fewer = count-keys (without objects key) rest (record {
        used = λ other there. rw (object-without_other objects key other (λ same. IsOnce-head key rest all.once (rw same at there))) (all.used other (Contains-cons key other rest there));
        listed = λ other there. listed_still used other there (cases_eq other key);
        once = IsOnce-tail key rest all.once;
      }) in
      omega (arith, fewer, count-without objects key used)
    where
      behind : (other : ℕ) → other ≢ key → (key ≡ other) ⊎ Contains rest other → Contains rest other
      behind other differs (inl same) = absurd (differs (sym same))
      behind other differs (inr there) = there

      listed_still : InUse objects key → (other : ℕ) → InUse (without objects key) other → (other ≡ key) ⊎ (other ≢ key) → Contains rest other
      listed_still used other there (inl same) = absurd (gone_is_free objects key used (rw same at there))
      listed_still used other there (inr differs) = behind other differs (Contains-cons_cases key other rest (all.listed other (rw (object-without_other objects key other differs) at there)))

-- a queue has as many chunks as its place and its bytes ask for
chunks_are_of : (chunks : List (Option Chunk)) (queue : OwnedQueue) → OwnsChunks chunks queue → length queue.chunks ≡ chunks_of (place_of queue.parts)
chunks_are_of chunks queue mine = by_len (cases_eq queue.parts.len 0)
  where
    by_len : (queue.parts.len ≡ 0) ⊎ (queue.parts.len ≢ 0) → length queue.chunks ≡ chunks_of (place_of queue.parts)
    by_len (inl none) = let front = mine.empty none in rw none (omega (arith, front, none, mine.needed, mine.enough))
    by_len (inr some) =
        let whole : (queue.parts.place + queue.parts.len + 511) / 512 ≡ length queue.chunks = omega (arith, mine.enough, mine.needed) in
        sym (chunks_some queue.parts.place queue.parts.len (omega arith) ∙ whole)

pub chunks_are : (h : Heap) (keys : List ℕ) (parts : QueueParts) (owners : Owners) → IsOwned h (with_queue (owned parts keys) owners) → length keys ≡ chunks_of (place_of parts)
chunks_are h keys parts owners is = chunks_are_of h.chunks (owned parts keys) (owns h keys parts owners is)

-- and so all queues together
chunks_of_all : (chunks : List (Option Chunk)) (queues : List OwnedQueue) → ((queue : OwnedQueue) → Contains queues queue → OwnsChunks chunks queue) → length (chunk_keys queues) ≡ sum_by (λ parts. chunks_of (place_of parts)) (map (λ (queue : OwnedQueue). queue.parts) queues)
chunks_of_all chunks [] each = refl
chunks_of_all chunks (queue ∷ rest) each =
    let here = chunks_are_of chunks queue (each queue (0, omega arith, refl)) in
    let behind = chunks_of_all chunks rest (λ other there. each other (Contains-append_right (queue ∷ []) rest other there)) in
    let whole = length-append queue.chunks (chunk_keys rest) in
    let sum = sum_by-cons (λ (parts : QueueParts). chunks_of (place_of parts)) queue.parts (map (λ (q : OwnedQueue). q.parts) rest) in
    omega (arith, here, behind, whole, sum)

-- the chunks of the heap are those that the queues of its pipes and sockets ask for
pub chunks_of_heap : (h : Heap) → OwnsItsObjects h → count h.chunks ≡ sum_by (λ parts. chunks_of (place_of parts)) (pipe_queues h.pipes ++ sock_queues h.socks)
chunks_of_heap h owned =
    count-keys h.chunks (chunk_keys owned.0.queues) owned.2.chunks
    ∙ chunks_of_all h.chunks owned.0.queues owned.2.queues
    ∙ ap (λ parts. sum_by (λ (queue : QueueParts). chunks_of (place_of queue)) parts) owned.1.queues

-- where one queue is another one now, live differs by their chunks
pub live_of_queue : (old new : Heap) (keys now_keys : List ℕ) (queue now : QueueParts) (owners : Owners) → IsOwned old (with_queue (owned queue keys) owners) → IsOwned new (with_queue (owned now now_keys) owners) → OnlyChunks old new → live_bytes new + 576 * chunks_of (place_of queue) ≡ live_bytes old + 576 * chunks_of (place_of now)
live_of_queue old new keys now_keys queue now owners before after only =
    let was = count-keys old.chunks (chunk_keys (with_queue (owned queue keys) owners).queues) before.chunks ∙ length-append keys (chunk_keys owners.queues) in
    let is = count-keys new.chunks (chunk_keys (with_queue (owned now now_keys) owners).queues) after.chunks ∙ length-append now_keys (chunk_keys owners.queues) in
    let had = chunks_are old keys queue owners before in
    let has = chunks_are new now_keys now owners after in
    let live = ap live_bytes only in
    omega (arith, was, is, had, has, live)

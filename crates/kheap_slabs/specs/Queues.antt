-- The chunks of a queue.
use Rattle.std.specs.Prelude.{◌≡◌, ℕ, ◌+◌, ◌*◌, ◌<◌, ◌≤◌, List, [], ◌∷◌, Option, None, Some, length}
use Rattle.kheap_slabs.specs.Objects.{object}
use Rattle.kheap_slabs.specs.declared.objects.Chunk.{Chunk}
use Rattle.kheap_slabs.specs.declared.objects.QueueParts.{QueueParts}
use Rattle.kheap_slabs.specs.Keys.{IsOnce}
use Rattle.kheap_slabs.specs.Outside.{KeepsOutside}

-- a queue with the keys of its chunks, the first one first
pub record OwnedQueue : Type 0 where
  pub parts : QueueParts
  pub chunks : List ℕ

-- the queue without bytes
abbrev pub empty_queue : QueueParts
empty_queue = record { first = None; last = None; place = 0; len = 0 }

-- the same with its chunks, which are none
abbrev pub fresh_queue : OwnedQueue
fresh_queue = record { parts = empty_queue; chunks = [] }

-- these chunks follow one another from the first on, and the last has no next
abbrev pub IsChain : List (Option Chunk) → Option ℕ → List ℕ → Type 0
IsChain chunks first [] = first ≡ None
IsChain chunks first (key ∷ rest) =
    (first ≡ Some key) × (chunk : Chunk) × (object chunks key ≡ Some chunk) × IsChain chunks chunk.next rest

-- the key of the last chunk
abbrev pub last_of : List ℕ → Option ℕ
last_of [] = None
last_of (key ∷ []) = Some key
last_of (key ∷ other ∷ rest) = last_of (other ∷ rest)

-- the queue has just these chunks, each once, and no more than its place and its bytes need; a queue without
-- bytes has none
pub record OwnsChunks (chunks : List (Option Chunk)) (queue : OwnedQueue) : Type 0 where
  pub chain : IsChain chunks queue.parts.first queue.chunks
  pub last : queue.parts.last ≡ last_of queue.chunks
  pub once : IsOnce queue.chunks
  pub place : queue.parts.place < 512
  pub enough : queue.parts.place + queue.parts.len ≤ 512 * length queue.chunks
  pub needed : 512 * length queue.chunks < queue.parts.place + queue.parts.len + 512
  pub empty : queue.parts.len ≡ 0 → queue.parts.place ≡ 0

-- a queue gets its first chunk
pub record QueueBegins (new : List (Option Chunk)) (queue : QueueParts) (key : ℕ) : Type 0 where
  pub added : Chunk
  pub stored : object new key ≡ Some added
  pub no_next : added.next ≡ None
  pub first : queue.first ≡ Some key
  pub last : queue.last ≡ Some key
  pub place : queue.place ≡ 0
  pub some : 0 < queue.len
  pub most : queue.len ≤ 512

-- a queue whose chunks are full gets one more: its last chunk is linked to one under a key that was free
pub record QueueGrows (old new : List (Option Chunk)) (queue : OwnedQueue) (grown : QueueParts) (key : ℕ) : Type 0 where
  pub end : ℕ
  pub linked : Chunk
  pub added : Chunk
  pub end_is : queue.parts.last ≡ Some end
  pub linked_is : object new end ≡ Some linked
  pub link : linked.next ≡ Some key
  pub vacant : object old key ≡ None
  pub added_is : object new key ≡ Some added
  pub no_next : added.next ≡ None
  pub outside : KeepsOutside (end ∷ key ∷ []) old new
  pub first : grown.first ≡ queue.parts.first
  pub last : grown.last ≡ Some key
  pub place : grown.place ≡ queue.parts.place
  pub longer : queue.parts.len ≤ grown.len
  pub above : 512 * length queue.chunks < grown.place + grown.len
  pub within : grown.place + grown.len ≤ 512 * (length queue.chunks + 1)

-- a queue gives its first chunk back and has the others left
pub record QueueShrinks (old new : List (Option Chunk)) (shorter : QueueParts) (key : ℕ) (rest : List ℕ) : Type 0 where
  pub chunk : Chunk
  pub is : object old key ≡ Some chunk
  pub outside : KeepsOutside (key ∷ []) old new
  pub first : shorter.first ≡ chunk.next
  pub last : shorter.last ≡ last_of rest
  pub place : shorter.place < 512
  pub enough : shorter.place + shorter.len ≤ 512 * length rest
  pub needed : 512 * length rest < shorter.place + shorter.len + 512
  pub empty : shorter.len ≡ 0 → shorter.place ≡ 0

-- The bytes of a queue as they stand in its chunks.
use Rattle.std.specs.Prelude.{◌≡◌, ℕ, ◌-◌, List, [], ◌∷◌, ◌++◌, Option, None, Some, take, drop}
use Rattle.kabi_types.specs.declared.classes.Class.TheVariants as class
use Rattle.kabi_types.specs.Counts.{with_count}
use Rattle.kheap_slabs.specs.Objects.{object}
use Rattle.kheap_slabs.specs.Purse.{Purse}
use Rattle.kheap_slabs.specs.declared.objects.Chunk.{Chunk}
use Rattle.kheap_slabs.specs.declared.objects.QueueParts.{QueueParts}
use Rattle.kheap_slabs.specs.Heap.{Heap}
use Rattle.kheap_slabs.specs.Keys.{ChangesKeys}
use Rattle.kheap_slabs.specs.Owners.{Owners, with_queue, IsOwned}
use Rattle.kheap_slabs.specs.Queues.{OwnedQueue}
use Rattle.posix_defs.specs.QueuePlace.{QueuePlace}

-- the bytes of a chunk
abbrev pub bytes_of : Option Chunk → List ℕ
bytes_of None = []
bytes_of (Some chunk) = chunk.bytes

-- the bytes of chunks, one after another
abbrev pub joined : List (Option Chunk) → List ℕ → List ℕ
joined chunks [] = []
joined chunks (key ∷ rest) = bytes_of (object chunks key) ++ joined chunks rest

-- a queue with the keys of its chunks
abbrev pub owned : QueueParts → List ℕ → OwnedQueue
owned parts keys = record { parts = parts; chunks = keys }

-- the unread bytes of a queue, the first one first
abbrev pub unread : List (Option Chunk) → OwnedQueue → List ℕ
unread chunks queue = take queue.parts.len (drop queue.parts.place (joined chunks queue.chunks))

-- the place and the length of a queue
abbrev pub place_of : QueueParts → QueuePlace
place_of parts = record { place = parts.place; len = parts.len }

-- the queue is one of those that own the heap's chunks
abbrev pub IsQueueIn : Heap → QueueParts → Type 0
IsQueueIn h parts = (keys : List ℕ) × (owners : Owners) × IsOwned h (with_queue (owned parts keys) owners)

-- a queue among others is changed: all own what they owned, and it has these bytes
pub record Becomes (old new : Heap) (keys : List ℕ) (now : QueueParts) (owners : Owners) (bytes : List ℕ) : Type 0 where
  pub now_keys : List ℕ
  pub is_owned : IsOwned new (with_queue (owned now now_keys) owners)
  pub has : unread new.chunks (owned now now_keys) ≡ bytes
  pub changes : ChangesKeys old.chunks new.chunks keys now_keys

-- whatever its chunks are and whoever the others, the queue then has the bytes that are made of those that it had
abbrev pub Turns : Heap → Heap → QueueParts → QueueParts → (List ℕ → List ℕ) → Type 0
Turns old new queue now next =
    (keys : List ℕ) (owners : Owners) → IsOwned old (with_queue (owned queue keys) owners)
    → Becomes old new keys now owners (next (unread old.chunks (owned queue keys)))

-- of the heap's objects only chunks are others, and of these only the queue's
abbrev pub OnlyChunks : Heap → Heap → Type 0
OnlyChunks old new = new ≡ record old { chunks = new.chunks; high = new.high }

-- of what a purse had left only chunks are spent
abbrev pub PaysChunks : Purse → Purse → Type 0
PaysChunks before after = after ≡ record before { left = with_count before.left class.Chunk after.left.chunk }

-- the first unread bytes stand in a buffer from a place on, up to another, and all others are as before
abbrev pub TakesOut : Heap → QueueParts → List ℕ → List ℕ → ℕ → ℕ → Type 0
TakesOut h queue before after from to =
    (keys : List ℕ) (owners : Owners) → IsOwned h (with_queue (owned queue keys) owners)
    → after ≡ take from before ++ (take (to - from) (unread h.chunks (owned queue keys)) ++ drop to before)

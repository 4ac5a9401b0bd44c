-- Who owns which objects: address spaces their nodes, queues their chunks, and page entries the pages that they name.
use Rattle.std.specs.Prelude.{◌≡◌, ℕ, ◌<◌, List, [], ◌∷◌, ◌++◌, Option, None, Some, map}
use Rattle.std.specs.List.{Contains, concat}
use Rattle.kheap_slabs.specs.Objects.{object}
use Rattle.kheap_slabs.specs.declared.objects.Node.{Node}
use Rattle.kheap_slabs.specs.declared.objects.Pipe.{Pipe}
use Rattle.kheap_slabs.specs.declared.objects.Proc.{Proc}
use Rattle.kheap_slabs.specs.declared.objects.QueueParts.{QueueParts}
use Rattle.kheap_slabs.specs.declared.objects.Sock.{Sock}
use Rattle.kheap_slabs.specs.Heap.{Heap}
use Rattle.kheap_slabs.specs.Keys.{AreKeysOf, ChangesKeys}
use Rattle.kheap_slabs.specs.Queues.{OwnedQueue, OwnsChunks}
use Rattle.kheap_slabs.specs.Spaces.{mapped_count, keys_in, OwnsNodes, IsCounted}

-- those that own objects: address spaces by the keys of their nodes, and queues
pub record Owners : Type 0 where
  pub spaces : List (List (Option ℕ))
  pub queues : List OwnedQueue

-- the same owners and one space more
abbrev pub with_space : List (Option ℕ) → Owners → Owners
with_space space owners = record owners { spaces = space ∷ owners.spaces }

-- the same owners and one queue more
abbrev pub with_queue : OwnedQueue → Owners → Owners
with_queue queue owners = record owners { queues = queue ∷ owners.queues }

-- the nodes that the spaces name
abbrev pub node_keys : List (List (Option ℕ)) → List ℕ
node_keys spaces = concat (map keys_in spaces)

-- the chunks of the queues
abbrev pub chunk_keys : List OwnedQueue → List ℕ
chunk_keys queues = concat (map (λ queue. queue.chunks) queues)

-- the owners own all nodes and chunks of the heap, each node and each chunk having one owner alone, every node has
-- a mapped page, and the pages are counted
pub record IsOwned (h : Heap) (owners : Owners) : Type 0 where
  pub nodes : AreKeysOf h.nodes (node_keys owners.spaces)
  pub mapped : (key : ℕ) (node : Node) → object h.nodes key ≡ Some node → 0 < mapped_count node
  pub pages : IsCounted h.nodes h.pages
  pub chunks : AreKeysOf h.chunks (chunk_keys owners.queues)
  pub queues : (queue : OwnedQueue) → Contains owners.queues queue → OwnsChunks h.chunks queue

-- what these owners own in a heap the others own, and the other way round
pub record SameOwners (one other : Owners) : Type 0 where
  pub there : (h : Heap) → IsOwned h one → IsOwned h other
  pub back : (h : Heap) → IsOwned h other → IsOwned h one

-- one space has other nodes now, or has changed them, and the pages are counted
pub record SpaceChanges (old new : Heap) (space now : List (Option ℕ)) : Type 0 where
  pub nodes : ChangesKeys old.nodes new.nodes (keys_in space) (keys_in now)
  pub owns : OwnsNodes new.nodes now
  pub pages : IsCounted new.nodes new.pages
  pub chunks : new.chunks ≡ old.chunks

-- one queue has other chunks now, or has changed them
pub record QueueChanges (old new : Heap) (queue now : OwnedQueue) : Type 0 where
  pub chunks : ChangesKeys old.chunks new.chunks queue.chunks now.chunks
  pub owns : OwnsChunks new.chunks now
  pub nodes : new.nodes ≡ old.nodes
  pub pages : new.pages ≡ old.pages

-- what each object has, in the order of their keys
abbrev pub each_of : {X Y : Type 0} → (X → Y) → List (Option X) → List Y
each_of f [] = []
each_of f (None ∷ rest) = each_of f rest
each_of f (Some x ∷ rest) = f x ∷ each_of f rest

-- the nodes of each process
abbrev pub spaces_of : List (Option Proc) → List (List (Option ℕ))
spaces_of = each_of (λ process. process.nodes)

-- the queue of each pipe
abbrev pub pipe_queues : List (Option Pipe) → List QueueParts
pipe_queues = each_of (λ pipe. pipe.queue)

-- the queue of each socket
abbrev pub sock_queues : List (Option Sock) → List QueueParts
sock_queues = each_of (λ sock. sock.queue)

-- these are the spaces of the heap's processes and the queues of its pipes and sockets
pub record AreOwnersOf (h : Heap) (owners : Owners) : Type 0 where
  pub spaces : owners.spaces ≡ spaces_of h.procs
  pub queues : map (λ queue. queue.parts) owners.queues ≡ pipe_queues h.pipes ++ sock_queues h.socks

-- owners of a heap, a space in hand and the owners of the heap without that space's process
pub record HasSpaceOut (h without_it : Heap) (owners : Owners) (space : List (Option ℕ)) (rest : Owners) : Type 0 where
  pub owners_are : AreOwnersOf h owners
  pub rest_are : AreOwnersOf without_it rest
  pub same : SameOwners owners (with_space space rest)

-- owners of a heap, a queue in hand and the owners of the heap without the pipe or socket of that queue
pub record HasQueueOut (h without_it : Heap) (owners : Owners) (queue : OwnedQueue) (rest : Owners) : Type 0 where
  pub owners_are : AreOwnersOf h owners
  pub rest_are : AreOwnersOf without_it rest
  pub same : SameOwners owners (with_queue queue rest)

-- the processes, pipes and sockets of the heap own its nodes and chunks
abbrev pub OwnsItsObjects : Heap → Type 0
OwnsItsObjects h = (owners : Owners) × AreOwnersOf h owners × IsOwned h owners

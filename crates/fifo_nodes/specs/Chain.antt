-- The pipes of FIFOs as a chain of the heap.
use Rattle.std.specs.Prelude.{◌≡◌, ◌≢◌, ◌-◌, ◌<◌, ◌≤◌, ◌==◌, ℕ, Bool, List, [], ◌∷◌, Option, None, Some}
use Rattle.std.specs.List.{Contains}
use Rattle.kheap_slabs.specs.Objects.{object}
use Rattle.kheap_slabs.specs.Heap.{Heap}
use Rattle.kheap_slabs.specs.Keys.{IsOnce}
use Rattle.posix_defs.specs.Pipe.{Pipe, after_close, ends_of, opens_of, unopened, with_end}
use Rattle.pipe_ends.specs.Links.{Link, link_at, AreRelinked}
use Rattle.pipe_ends.specs.Standing.{StandsFor, LeavesOthers, place_with}

-- from the first one these keys, each before the next, lead to that one
abbrev pub Leads : Heap → Option ℕ → List ℕ → Option ℕ → Type 0
Leads h first [] at = first ≡ at
Leads h None (key ∷ keys) at = ⊥
Leads h (Some first) (key ∷ keys) at = (first ≡ key) × (link : Link) × (link_at h key ≡ Some link) × Leads h link.next keys at

-- a FIFO's pipe has no more ends of a side than that side was opened
pub record HasFewEnds (link : Link) : Type 0 where
  pub readers : link.readers ≤ link.read_opens
  pub writers : link.writers ≤ link.write_opens

-- Every FIFO's pipe stands in the chain that begins so, and no FIFO has two.
pub record IsChain (h : Heap) (first : Option ℕ) : Type 0 where
  pub keys : List ℕ
  pub chained : Leads h first keys None
  pub once : IsOnce keys
  pub all : (key : ℕ) (link : Link) → link_at h key ≡ Some link → Contains keys key
  pub alone : (key other : ℕ) (link another : Link) → link_at h key ≡ Some link → link_at h other ≡ Some another → link.node ≡ another.node → key ≡ other
  pub few : (key : ℕ) (link : Link) → link_at h key ≡ Some link → HasFewEnds link

-- the key is that of the pipe of this FIFO's node
pub record IsFifoAt (h : Heap) (node key : ℕ) : Type 0 where
  pub link : Link
  pub there : link_at h key ≡ Some link
  pub same : link.node ≡ node

-- the FIFO of this node has no pipe
abbrev pub HasNoPipe : Heap → ℕ → Type 0
HasNoPipe h node = (key : ℕ) → IsFifoAt h node key → ⊥

-- the pipe of the FIFO stands for a plain one, and one side of it has an end
abbrev pub HasEndOf : Heap → ℕ → Bool → Type 0
HasEndOf h node writing = (key : ℕ) × (pipe : Pipe) × (at : ℕ) × IsFifoAt h node key × StandsFor h key pipe at × (0 < ends_of pipe writing)

-- A number that is told of a FIFO is that of its pipe, and 0 where it has none.
pub record TellsOf (h : Heap) (node : ℕ) (number : Pipe → ℕ) (told : ℕ) : Type 0 where
  pub had : (key : ℕ) (pipe : Pipe) (at : ℕ) → IsFifoAt h node key → StandsFor h key pipe at → told ≡ number pipe
  pub none : HasNoPipe h node → told ≡ 0

-- The pipe of a FIFO, which it had or has from now on, has one end more of a side that was opened once more.
pub record OpensEnd (old new : Heap) (node : ℕ) (writing : Bool) (key : ℕ) : Type 0 where
  pub is_its : IsFifoAt new node key
  pub had : (pipe : Pipe) (at : ℕ) → StandsFor old key pipe at → IsFifoAt old node key → StandsFor new key (with_end pipe writing) at
  pub made : HasNoPipe old node → (object old.pipes key ≡ None) × StandsFor new key (with_end (unopened node) writing) 0
  pub others : LeavesOthers old new key

-- An end of a FIFO's pipe is closed, and with the last one the pipe, once it stands in the chain no more.
pub record ClosesEndOf (old new : Heap) (key : ℕ) (writing : Bool) : Type 0 where
  pub mid : Heap
  pub relinked : AreRelinked old mid
  pub gone : (pipe : Pipe) (at : ℕ) → StandsFor old key pipe at → after_close pipe writing ≡ None → object new.pipes key ≡ None
  pub stands : (pipe : Pipe) (at : ℕ) (left : Pipe) → StandsFor old key pipe at → after_close pipe writing ≡ Some left
      → StandsFor new key left (place_with left.bytes at)
  pub others : LeavesOthers mid new key

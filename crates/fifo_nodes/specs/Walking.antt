-- The chain of FIFOs' pipes while it is walked, and while one leaves it.
use Rattle.std.specs.Prelude.{◌≡◌, ◌≢◌, ℕ, zero, suc, List, [], ◌∷◌, ◌++◌, Option, None, Some}
use Rattle.std.specs.List.{Contains}
use Rattle.kheap_slabs.specs.Heap.{Heap}
use Rattle.kheap_slabs.specs.Keys.{IsOnce}
use Rattle.pipe_ends.specs.Links.{Link, link_at}
use Rattle.fifo_nodes.specs.Chain.{HasFewEnds, IsFifoAt, Leads}

-- the key of the next one
abbrev pub next_of : Option Link → Option ℕ
next_of None = None
next_of (Some link) = link.next

-- how many stand in the chain from this one on, of at most so many
unfoldable pub chain_left : ℕ → Heap → Option ℕ → ℕ
chain_left zero h at = 0
chain_left (suc n) h None = 0
chain_left (suc n) h (Some key) = suc (chain_left n h (next_of (link_at h key)))

-- if the FIFO has a pipe, it stands here or behind
pub record Seeks (h : Heap) (node : ℕ) (at : Option ℕ) : Type 0 where
  pub rest : List ℕ
  pub behind : Leads h at rest None
  pub once : IsOnce rest
  pub mine : (key : ℕ) → IsFifoAt h node key → Contains rest key

-- these keys end with that one, or are none
abbrev pub EndsWith : List ℕ → Option ℕ → Type 0
EndsWith keys None = keys ≡ []
EndsWith keys (Some key) = (ahead : List ℕ) × (keys ≡ ahead ++ key ∷ [])

-- those that were passed, the last of them, and those that stand here and behind, among them the one that is looked for
pub record Walks (h : Heap) (first : Option ℕ) (key : ℕ) (before at : Option ℕ) : Type 0 where
  pub front : List ℕ
  pub rest : List ℕ
  pub lead : Leads h first front at
  pub behind : Leads h at rest None
  pub once : IsOnce (front ++ rest)
  pub all : (other : ℕ) (link : Link) → link_at h other ≡ Some link → Contains (front ++ rest) other
  pub there : Contains rest key
  pub last : EndsWith front before

-- where a key stands in the chain: behind that one, or as the first
pub record StandsBehind (h : Heap) (first : Option ℕ) (key : ℕ) (before : Option ℕ) : Type 0 where
  pub front : List ℕ
  pub rest : List ℕ
  pub lead : Leads h first front (Some key)
  pub link : Link
  pub is : link_at h key ≡ Some link
  pub behind : Leads h link.next rest None
  pub once : IsOnce (front ++ key ∷ rest)
  pub all : (other : ℕ) (link : Link) → link_at h other ≡ Some link → Contains (front ++ key ∷ rest) other
  pub last : EndsWith front before

-- Every FIFO's pipe but one stands in the chain that begins so, and no FIFO has two.
pub record IsChainBut (h : Heap) (first : Option ℕ) (key : ℕ) : Type 0 where
  pub keys : List ℕ
  pub chained : Leads h first keys None
  pub once : IsOnce keys
  pub absent : Contains keys key → ⊥
  pub all : (other : ℕ) (link : Link) → other ≢ key → link_at h other ≡ Some link → Contains keys other
  pub alone : (one other : ℕ) (link another : Link) → link_at h one ≡ Some link → link_at h other ≡ Some another → link.node ≡ another.node → one ≡ other
  pub few : (other : ℕ) (link : Link) → link_at h other ≡ Some link → HasFewEnds link

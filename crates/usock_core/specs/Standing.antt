-- When the sockets of a heap stand for plain ones, and what calls on them leave as it was. A socket's place is its key.
use Rattle.std.specs.Prelude.{◌≡◌, ◌≢◌, ℕ, zero, suc, ◌<◌, List, [], ◌∷◌, Option, None, Some, length}
use Rattle.kheap_slabs.specs.Objects.{object, InUse}
use Rattle.kheap_slabs.specs.declared.objects.Sock.{Sock}
use Rattle.kheap_slabs.specs.declared.objects.SockState.{SockState}
use Rattle.kheap_slabs.specs.declared.objects.SockState.TheVariants as state
use Rattle.kheap_slabs.specs.Heap.{Heap}
use Rattle.posix_defs.specs.QueuePlace.{QueuePlace, at_front}
use Rattle.posix_defs.specs.Socket.{Stage, Idle, Listening, Connected, Socket, peer_of, waiting_of, connect_fault}
use Rattle.posix_defs.specs.Sockets.{Sockets, sock_at, stage_at}
use Rattle.posix_defs.specs.SocketLinks.{AreHeld, AreLinked, AreLoose, WaitsNowhere}
use Rattle.chunk_queue.specs.Chained.{place_of}
use Rattle.chunk_queue.specs.Held.{HasBytes, PipeKeepsBytes}

-- how far a socket has come, without its peer and those that wait
abbrev pub state_of : Stage → SockState
state_of Idle = state.Idle
state_of (Listening waiting) = state.Listening
state_of (Connected peer shut_read shut_write) = state.Connected shut_read shut_write

-- so many places with those that wait, the first one first, and none behind them
abbrev pub in_row : ℕ → List ℕ → List (Option ℕ)
in_row zero waiting = []
in_row (suc n) [] = None ∷ in_row n []
in_row (suc n) (first ∷ rest) = Some first ∷ in_row n rest

-- a socket of the heap is kept as the plain one, but for its bytes
pub record IsShape (sock : Sock) (socket : Socket) : Type 0 where
  pub state : sock.state ≡ state_of socket.stage
  pub peer : sock.peer ≡ peer_of socket.stage
  pub waiting : sock.waiting ≡ in_row 8 (waiting_of socket.stage)
  pub node : sock.node ≡ socket.node

-- a socket of the heap stands for a plain one
pub record IsKept (h : Heap) (sock : Sock) (socket : Socket) : Type 0 where
  pub shape : IsShape sock socket
  pub bytes : HasBytes h sock.queue socket.bytes
  pub len : sock.queue.len ≡ length socket.bytes

-- what a key names stands for what is at the place
abbrev pub StandsAt : Heap → Option Sock → Option Socket → Type 0
StandsAt h None None = Unit {0}
StandsAt h None (Some socket) = ⊥
StandsAt h (Some sock) None = ⊥
StandsAt h (Some sock) (Some socket) = IsKept h sock socket

-- there is a place for each key, and each key's socket stands for the one at its place
pub record IsTable (h : Heap) (sockets : Sockets) : Type 0 where
  pub places : length sockets ≡ length h.socks
  pub each : (key : ℕ) → StandsAt h (object h.socks key) (sock_at sockets key)

-- the sockets of the heap stand for these, and a socket's peer has that socket as its peer
pub record StandsFor (h : Heap) (sockets : Sockets) : Type 0 where
  pub table : IsTable h sockets
  pub linked : AreLinked sockets

-- the sockets of the heap stand for some
abbrev pub HasSockets : Heap → Type 0
HasSockets h = (sockets : Sockets) × StandsFor h sockets

-- and the key is one's
pub record IsSocketIn (h : Heap) (key : ℕ) : Type 0 where
  pub sockets : Sockets
  pub stands : StandsFor h sockets
  pub used : InUse h.socks key

-- and that one can be connected
pub record IsIdleIn (h : Heap) (key : ℕ) : Type 0 where
  pub sockets : Sockets
  pub stands : StandsFor h sockets
  pub used : InUse h.socks key
  pub idle : connect_fault (stage_at sockets key) ≡ None

-- and that one listens
pub record IsListeningIn (h : Heap) (key : ℕ) : Type 0 where
  pub sockets : Sockets
  pub stands : StandsFor h sockets
  pub waiting : List ℕ
  pub listens : stage_at sockets key ≡ Listening waiting

-- and that one waits in no backlog
pub record IsClosableIn (h : Heap) (key : ℕ) : Type 0 where
  pub sockets : Sockets
  pub stands : StandsFor h sockets
  pub used : InUse h.socks key
  pub nowhere : WaitsNowhere sockets key

-- these are connected, each once, and wait in no backlog
pub record AreLooseIn (h : Heap) (keys : List ℕ) : Type 0 where
  pub sockets : Sockets
  pub stands : StandsFor h sockets
  pub loose : AreLoose sockets keys

-- the sockets of the heap are those that descriptions name, which are these, and those that wait to be accepted
pub record IsHeldIn (h : Heap) (named : List ℕ) : Type 0 where
  pub sockets : Sockets
  pub stands : StandsFor h sockets
  pub held : AreHeld sockets named

-- where the bytes stand that a socket is to read, and how many they are
abbrev pub queue_in : Option Sock → QueuePlace
queue_in None = at_front
queue_in (Some sock) = place_of sock.queue

abbrev pub queue_at : Heap → ℕ → QueuePlace
queue_at h key = queue_in (object h.socks key)

-- every socket that has bytes to read has them where they stood
abbrev pub QueuesStay : Heap → Heap → Type 0
QueuesStay old new = (key : ℕ) → 0 < (queue_at new key).len → queue_at new key ≡ queue_at old key

-- and every socket but this one
abbrev pub OtherQueuesStay : Heap → Heap → ℕ → Type 0
OtherQueuesStay old new key = (other : ℕ) → other ≢ key → queue_at new other ≡ queue_at old other

-- of the heap's objects only sockets and chunks are others, and every pipe has the bytes that it had
pub record LeavesOthers (old new : Heap) : Type 0 where
  pub kept : new ≡ record old { chunks = new.chunks; socks = new.socks; high = new.high }
  pub pipes : (key : ℕ) → PipeKeepsBytes old new key

-- What all sockets that are reached keep: who is whose peer, who waits where, and who owns them.
use Rattle.std.specs.Prelude.{◌≡◌, ◌≢◌, ◌⊎◌, ℕ, ◌≤◌, true, false, List, [], ◌∷◌, length, Some, IsSome}
use Rattle.std.specs.List.{Contains}
use Rattle.posix_defs.specs.Pipe.{capacity}
use Rattle.posix_defs.specs.Socket.{Stage, Idle, Listening, Connected, peer_of, waiting_of, is_connected}
use Rattle.posix_defs.specs.Sockets.{Sockets, sock_at, socket_at, stage_at, backlog}

-- no place stands twice
abbrev pub NoneTwice : List ℕ → Type 0
NoneTwice [] = Unit {0}
NoneTwice (first ∷ rest) = (Contains rest first → ⊥) × NoneTwice rest

-- how many bytes a socket may have to read: none unless it is connected and reads
abbrev pub room_of : Stage → ℕ
room_of Idle = 0
room_of (Listening waiting) = 0
room_of (Connected peer true shut_write) = 0
room_of (Connected peer false shut_write) = capacity

-- a place waits for a listening socket
abbrev pub WaitsFor : Sockets → ℕ → ℕ → Type 0
WaitsFor sockets listener place = Contains (waiting_of (stage_at sockets listener)) place

-- a place waits for nobody
abbrev pub WaitsNowhere : Sockets → ℕ → Type 0
WaitsNowhere sockets place = (listener : ℕ) → WaitsFor sockets listener place → ⊥

-- a socket's peer has that socket as its peer, and is another one; those that wait are connected, each waits once, and at
-- most 8 for one listener; and no more bytes are to be read than have room
pub record AreLinked (sockets : Sockets) : Type 0 where
  pub paired : (place peer : ℕ) → peer_of (stage_at sockets place) ≡ Some peer → peer_of (stage_at sockets peer) ≡ Some place
  pub apart : (place : ℕ) → peer_of (stage_at sockets place) ≡ Some place → ⊥
  pub waiting : (listener place : ℕ) → WaitsFor sockets listener place → is_connected (stage_at sockets place) ≡ true
  pub once : (listener : ℕ) → NoneTwice (waiting_of (stage_at sockets listener))
  pub one_place : (one other place : ℕ) → WaitsFor sockets one place → WaitsFor sockets other place → one ≡ other
  pub backlog : (place : ℕ) → length (waiting_of (stage_at sockets place)) ≤ backlog
  pub room : (place : ℕ) → length (socket_at sockets place).bytes ≤ room_of (stage_at sockets place)

-- a node names at most one socket
pub record AreNamedOnce (sockets : Sockets) : Type 0 where
  pub one_socket : (one other number : ℕ) → (socket_at sockets one).node ≡ Some number → (socket_at sockets other).node ≡ Some number → one ≡ other

-- no socket is bound to the node
abbrev pub NamesNone : Sockets → ℕ → Type 0
NamesNone sockets number = (place : ℕ) → (socket_at sockets place).node ≢ Some number

-- sockets that are connected, each once, and wait nowhere
pub record AreLoose (sockets : Sockets) (places : List ℕ) : Type 0 where
  pub once : NoneTwice places
  pub connected : (place : ℕ) → Contains places place → is_connected (stage_at sockets place) ≡ true
  pub nowhere : (place : ℕ) → Contains places place → WaitsNowhere sockets place

-- every socket that is there is named by a description or waits, and none does both
pub record AreHeld (sockets : Sockets) (named : List ℕ) : Type 0 where
  pub held : (place : ℕ) → IsSome (sock_at sockets place) → Contains named place ⊎ ((listener : ℕ) × WaitsFor sockets listener place)
  pub there : (place : ℕ) → Contains named place → IsSome (sock_at sockets place)
  pub apart : (place : ℕ) → Contains named place → WaitsNowhere sockets place

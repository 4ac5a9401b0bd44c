-- The sockets of the heap, by the places that the machine has them at. Those of the heap name their peers and those that wait
-- by keys.
use Rattle.std.specs.Prelude.{◌≡◌, ℕ, map}
use Rattle.std.specs.Option.{option_map}
use Rattle.kheap_slabs.specs.Objects.{object}
use Rattle.kheap_slabs.specs.Heap.{Heap}
use Rattle.posix_defs.specs.Socket.{Stage, Idle, Listening, Connected, Socket}
use Rattle.posix_defs.specs.Sockets.{Sockets}
use Rattle.usock_core.specs.Standing.{StandsFor}
use Rattle.open_laws.specs.Placed.{Numbers, ArePlaced}

-- the same stage, where each key has a place as its number
abbrev pub stage_by : (ℕ → ℕ) → Stage → Stage
stage_by number Idle = Idle
stage_by number (Listening waiting) = Listening (map number waiting)
stage_by number (Connected peer shut_read shut_write) = Connected (option_map number peer) shut_read shut_write

-- the same socket, with its peer and those that wait by their places
abbrev pub socket_by : (ℕ → ℕ) → Socket → Socket
socket_by number socket = record socket { stage = stage_by number socket.stage }

-- a table of sockets by key is the same as one by place
abbrev pub AreRenamed : (ℕ → ℕ) → Sockets → Sockets → Type 0
AreRenamed number keyed sockets = ArePlaced (λ key socket placed. placed ≡ socket_by number socket) number keyed (object sockets)

-- the sockets of the heap stand for these
pub record AreSocketed (numbers : Numbers) (h : Heap) (sockets : Sockets) : Type 0 where
  -- the same by key
  pub keyed : Sockets
  pub stands : StandsFor h keyed
  pub renamed : AreRenamed numbers.socks keyed sockets

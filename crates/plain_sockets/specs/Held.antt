-- A socket with the front of its queue, and what all sockets ever made are to the definitions: the sockets, and a list of fronts.
use Rattle.std.specs.Prelude.{◌≡◌, ℕ, Bool, false, List, [], ◌∷◌, length, map, Option, None, Some, IsSome, if◌then◌else◌}
use Rattle.std.specs.Option.{option_map}
use Rattle.posix_defs.specs.Socket.{Socket, Stage}
use Rattle.posix_defs.specs.Sockets.{Sockets, sock_at}
use Rattle.kept_places.specs.declared.search.Kept.{Kept}
use Rattle.posix_defs.specs.Files.SocketNames.{listens_at}
use Rattle.posix_defs.specs.Files.State.{is_number}
use Rattle.posix_defs.specs.Account.{front_after, fronts_after, unread_in_socket}
use Rattle.plain_bytes.specs.Unread.{Unread}
use Rattle.plain_bytes.specs.Many.{AreQueues, Fade, fronts, queues_of}

pub record Held : Type 0 where
  pub socket : Socket
  pub front : ℕ

abbrev pub socket_of : Held → Socket
socket_of held = held.socket

abbrev pub queue_of : Held → Unread
queue_of held = record { bytes = held.socket.bytes; front = held.front }

-- it has other bytes from now on, and its front is where the account of lengths has it
abbrev pub with_unread : Held → List ℕ → Held
with_unread held bytes = record {
  socket = record held.socket { bytes = bytes };
  front = front_after (length held.socket.bytes) (length bytes) held.front;
}

-- it is in another stage, or has another name; its bytes stay
abbrev pub in_stage : Held → Stage → Held
in_stage held stage = record { socket = record held.socket { stage = stage }; front = held.front }

abbrev pub named : Held → Option ℕ → Held
named held node = record { socket = record held.socket { node = node }; front = held.front }

-- ---- all sockets ever made

-- every socket by its place, as the machine has it; none once it has gone
abbrev pub sockets_in : List (Option Held) → Sockets
sockets_in held = map (option_map socket_of) held

-- the front of each, as the account has it
abbrev pub fronts_in : List (Option Held) → List ℕ
fronts_in held = fronts (queues_of queue_of held)

-- how many bytes each has still to read, as the account counts them
abbrev pub lengths_in : List (Option Held) → List ℕ
lengths_in held = map unread_in_socket (sockets_in held)

-- the socket of a place is there
abbrev pub HasSocket : List (Option Held) → ℕ → Type 0
HasSocket held place = IsSome (sock_at (sockets_in held) place)

-- the fronts are those that the account has after the sockets have changed so
abbrev pub FrontsFollow : List (Option Held) → List (Option Held) → Type 0
FrontsFollow old new = fronts_in new ≡ fronts_after (lengths_in old) (lengths_in new) (fronts_in old)

-- all were queues, and none has other bytes than before, though some may have lost all
pub record OnlyFades (old new : List (Option Held)) : Type 0 where
  pub queues : AreQueues (queues_of queue_of old)
  pub fade : Fade (queues_of queue_of old) (queues_of queue_of new)

-- a socket is there, and it is bound to this node
abbrev pub is_bound_to : ℕ → Option Socket → Bool
is_bound_to number None = false
is_bound_to number (Some socket) = is_number number socket.node

-- of those that are there, each with its place, the first that listens under the name of a node, and the first that is bound to it
abbrev pub first_listening : ℕ → List (Kept Held) → Option ℕ
first_listening number [] = None
first_listening number (kept ∷ rest) = if listens_at number (Some kept.what.socket) then Some kept.place else first_listening number rest

abbrev pub first_bound : ℕ → List (Kept Held) → Option ℕ
first_bound number [] = None
first_bound number (kept ∷ rest) = if is_number number kept.what.socket.node then Some kept.place else first_bound number rest

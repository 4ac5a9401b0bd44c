-- Which socket has which name of the tree.
use Rattle.std.specs.Prelude.{ℕ, ◌&&◌, Bool, true, false, if◌then◌else◌, Option, None, Some, map}
use Rattle.std.specs.List.{position_from}
use Rattle.std.specs.Option.{option_map}
use Rattle.posix_defs.specs.Socket.{Stage, Idle, Listening, Connected, Socket}
use Rattle.posix_defs.specs.Sockets.{Sockets}
use Rattle.posix_defs.specs.Files.State.{is_number}

-- a socket in this stage listens
abbrev pub listens : Stage → Bool
listens Idle = false
listens (Listening waiting) = true
listens (Connected peer shut_read shut_write) = false

-- the socket is there, is bound to this node, and listens
abbrev pub listens_at : ℕ → Option Socket → Bool
listens_at number None = false
listens_at number (Some socket) = is_number number socket.node && listens socket.stage

-- the place of the socket that listens under the name of this node
abbrev pub listener_at : Sockets → ℕ → Option ℕ
listener_at sockets number = position_from (listens_at number) 0 sockets

-- a socket that is bound to this node keeps no name
abbrev pub unnamed : ℕ → Socket → Socket
unnamed number socket = if is_number number socket.node then record socket { node = None } else socket

-- whoever is bound to this node keeps no name
abbrev pub none_bound_to : Sockets → ℕ → Sockets
none_bound_to sockets number = map (option_map (unnamed number)) sockets

-- a name of a socket has gone: the socket that was bound to its node keeps no name
abbrev pub after_freeing : Sockets → Option ℕ → Sockets
after_freeing sockets None = sockets
after_freeing sockets (Some number) = none_bound_to sockets number

-- One Unix stream socket: how far it has come, and what it refuses by itself.
use Rattle.std.specs.Prelude.{ℕ, ℤ, pos, negsuc, ◌==◌, ◌||◌, Bool, true, false, List, [], ◌∷◌, Option, None, Some, is_some, is_none, if◌then◌else◌}
use Rattle.kabi_types.specs.declared.errnos.Errno.{Errno}
use Rattle.kabi_types.specs.declared.errnos.Errno.TheVariants as errno

-- How far a socket has come.
pub data Stage : Type 0 where
  -- neither listening nor connected
  Idle : Stage
  -- the places of those that wait to be accepted, the first one first
  Listening : List ℕ → Stage
  -- the place of its peer while that one is there, and whether it was shut for reading and for writing
  Connected : Option ℕ → Bool → Bool → Stage

-- how far it has come, the bytes that it is to read, the first one first, and the node that it is bound to
pub record Socket : Type 0 where
  pub stage : Stage
  pub bytes : List ℕ
  pub node : Option ℕ

-- a new socket (POSIX socket)
abbrev pub new_socket : Socket
new_socket = record { stage = Idle; bytes = []; node = None }

-- a new socket that is connected (POSIX socketpair)
abbrev pub connected_to : ℕ → Socket
connected_to peer = record { stage = Connected (Some peer) false false; bytes = []; node = None }

-- it is connected, also where its peer has closed
abbrev pub is_connected : Stage → Bool
is_connected Idle = false
is_connected (Listening waiting) = false
is_connected (Connected peer shut_read shut_write) = true

-- the peer of one that is connected, while it is there
abbrev pub peer_of : Stage → Option ℕ
peer_of Idle = None
peer_of (Listening waiting) = None
peer_of (Connected peer shut_read shut_write) = peer

-- those that wait for a listening one
abbrev pub waiting_of : Stage → List ℕ
waiting_of Idle = []
waiting_of (Listening waiting) = waiting
waiting_of (Connected peer shut_read shut_write) = []

-- it was shut for reading
abbrev pub is_shut_read : Stage → Bool
is_shut_read Idle = false
is_shut_read (Listening waiting) = false
is_shut_read (Connected peer shut_read shut_write) = shut_read

-- it was shut for writing
abbrev pub is_shut_write : Stage → Bool
is_shut_write Idle = false
is_shut_write (Listening waiting) = false
is_shut_write (Connected peer shut_read shut_write) = shut_write

-- bind's own faults: it has a name already, or it is connected (POSIX bind)
abbrev pub bind_fault : Socket → Option Errno
bind_fault socket =
    if is_some socket.node then Some errno.EINVAL else (if is_connected socket.stage then Some errno.EISCONN else None)

-- what listen answers: one that is connected can't, nor one without a name (POSIX listen)
abbrev pub listen_fault : Socket → Option Errno
listen_fault socket =
    if is_connected socket.stage then Some errno.EINVAL
    else (if is_none socket.node then Some errno.EDESTADDRREQ else None)

-- an idle one listens from now on; one that listens already goes on
abbrev pub listening : Stage → Stage
listening Idle = Listening []
listening (Listening waiting) = Listening waiting
listening (Connected peer shut_read shut_write) = Connected peer shut_read shut_write

-- connect's own faults (POSIX connect)
abbrev pub connect_fault : Stage → Option Errno
connect_fault Idle = None
connect_fault (Listening waiting) = Some errno.EOPNOTSUPP
connect_fault (Connected peer shut_read shut_write) = Some errno.EISCONN

-- what accept answers: it takes one that waits, would block, or is refused
pub data Accepting : Type 0 where
  Takes : ℕ → Accepting
  Waits : Accepting
  Refuses : Errno → Accepting

-- the first of those that wait
abbrev pub first_waiting : List ℕ → Bool → Accepting
first_waiting [] nonblock = if nonblock then Refuses errno.EAGAIN else Waits
first_waiting (first ∷ rest) nonblock = Takes first

-- accept, where there is room for one descriptor more or none (POSIX accept)
abbrev pub accept : Stage → Bool → Bool → Accepting
accept Idle room nonblock = Refuses errno.EINVAL
accept (Listening waiting) room nonblock = if room then first_waiting waiting nonblock else Refuses errno.EMFILE
accept (Connected peer shut_read shut_write) room nonblock = Refuses errno.EINVAL

-- all but the first
abbrev pub behind_first : List ℕ → List ℕ
behind_first [] = []
behind_first (first ∷ rest) = rest

-- without the first that waits
abbrev pub without_first : Stage → Stage
without_first Idle = Idle
without_first (Listening waiting) = Listening (behind_first waiting)
without_first (Connected peer shut_read shut_write) = Connected peer shut_read shut_write

-- its peer has closed: it stays connected
abbrev pub without_peer : Stage → Stage
without_peer Idle = Idle
without_peer (Listening waiting) = Listening waiting
without_peer (Connected peer shut_read shut_write) = Connected None shut_read shut_write

-- SHUT_RD 0 and SHUT_RDWR 2 shut reading
abbrev pub shuts_reading : ℤ → Bool
shuts_reading (pos how) = how == 0 || how == 2
shuts_reading (negsuc _) = false

-- SHUT_WR 1 and SHUT_RDWR 2 shut writing
abbrev pub shuts_writing : ℤ → Bool
shuts_writing (pos how) = how == 1 || how == 2
shuts_writing (negsuc _) = false

-- what was shut stays shut, and this comes to it; only one that is connected can be shut
abbrev pub shut_further : Bool → Bool → Stage → Stage
shut_further reading writing Idle = Idle
shut_further reading writing (Listening waiting) = Listening waiting
shut_further reading writing (Connected peer shut_read shut_write) = Connected peer (shut_read || reading) (shut_write || writing)

-- only one that is connected is shut (POSIX shutdown)
abbrev pub shutdown_fault : Stage → Option Errno
shutdown_fault stage = if is_connected stage then None else Some errno.ENOTCONN

-- the socket after it was shut: one that reads no more drops the bytes that are there
abbrev pub after_shutdown : Socket → ℤ → Socket
after_shutdown socket how = record socket {
  stage = shut_further (shuts_reading how) (shuts_writing how) socket.stage;
  bytes = if shuts_reading how then [] else socket.bytes;
}

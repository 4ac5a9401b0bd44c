-- All sockets, and what their calls answer and leave.
use Rattle.std.specs.Prelude.{ℕ, zero, suc, ℤ, ◌+◌, ◌-◌, ◌==◌, ◌&&◌, ◌||◌, nat_le, nat_lt, min, Bool, true, false, List, [], ◌∷◌, ◌++◌, length, take, drop, Option, None, Some, unwrap_or, slice_index_or, if◌then◌else◌}
use Rattle.kabi_types.specs.declared.errnos.Errno.TheVariants as errno
use Rattle.posix_defs.specs.Pipe.{Moving, Moves, Fails, capacity, not_now, is_asked}
use Rattle.posix_defs.specs.Socket.{Stage, Idle, Listening, Connected, Socket, new_socket, connected_to, peer_of, waiting_of, is_shut_read, is_shut_write, listening, without_first, without_peer, after_shutdown}

-- every socket that was made, by its place; none from its end on
abbrev pub Sockets : Type 0
Sockets = List (Option Socket)

-- the socket of a place; None where it has gone, and where none was made
abbrev pub sock_at : Sockets → ℕ → Option Socket
sock_at sockets place = slice_index_or sockets place None

-- the socket of a place where one is
abbrev pub socket_at : Sockets → ℕ → Socket
socket_at sockets place = unwrap_or (sock_at sockets place) new_socket

-- how far the socket of a place has come
abbrev pub stage_at : Sockets → ℕ → Stage
stage_at sockets place = (socket_at sockets place).stage

-- the same sockets with another one, or none, at a place, or at the next place that is free
abbrev pub with_socket : Sockets → ℕ → Option Socket → Sockets
with_socket [] place socket = socket ∷ []
with_socket (other ∷ rest) zero socket = socket ∷ rest
with_socket (other ∷ rest) (suc place) socket = other ∷ with_socket rest place socket

-- the same sockets, the one at a place in another stage
abbrev pub with_stage : Sockets → ℕ → Stage → Sockets
with_stage sockets place stage = with_socket sockets place (Some (record (socket_at sockets place) { stage = stage }))

-- the same sockets, the one at a place with other bytes to read
abbrev pub with_bytes : Sockets → ℕ → List ℕ → Sockets
with_bytes sockets place bytes = with_socket sockets place (Some (record (socket_at sockets place) { bytes = bytes }))

-- after bind, and after its name was taken away
abbrev pub with_name : Sockets → ℕ → Option ℕ → Sockets
with_name sockets place node = with_socket sockets place (Some (record (socket_at sockets place) { node = node }))

-- a socket is made at a place
abbrev pub with_new : Sockets → ℕ → Sockets
with_new sockets made = with_socket sockets made (Some new_socket)

-- two that are connected to each other are made
abbrev pub with_pair : Sockets → ℕ → ℕ → Sockets
with_pair sockets one other = with_socket (with_socket sockets one (Some (connected_to other))) other (Some (connected_to one))

-- after listen
abbrev pub after_listen : Sockets → ℕ → Sockets
after_listen sockets place = with_stage sockets place (listening (stage_at sockets place))

-- how many may wait for a listening socket
abbrev pub backlog : ℕ
backlog = 8

-- a connection is refused where nobody listens, and where as many wait as may, those whose client has closed among them
abbrev pub is_refused : Sockets → Option ℕ → Bool
is_refused sockets None = true
is_refused sockets (Some listener) = nat_le backlog (length (waiting_of (stage_at sockets listener)))

-- a client's peer is made, and waits behind the others to be accepted (POSIX connect)
abbrev pub after_connect : Sockets → ℕ → ℕ → ℕ → Sockets
after_connect sockets client listener made =
    with_stage (with_stage (with_socket sockets made (Some (connected_to client))) client (Connected (Some made) false false)) listener (Listening (waiting_of (stage_at sockets listener) ++ made ∷ []))

-- after accept: the first waits no more
abbrev pub after_accept : Sockets → ℕ → Sockets
after_accept sockets listener = with_stage sockets listener (without_first (stage_at sockets listener))

-- nothing more comes from a peer that has closed or was shut for writing
abbrev pub writes_no_more : Sockets → Option ℕ → Bool
writes_no_more sockets None = true
writes_no_more sockets (Some peer) = is_shut_write (stage_at sockets peer)

-- a peer that has closed or was shut for reading takes nothing more
abbrev pub reads_no_more : Sockets → Option ℕ → Bool
reads_no_more sockets None = true
reads_no_more sockets (Some peer) = is_shut_read (stage_at sockets peer)

-- a read of at most n bytes from one that is connected: nothing where it was shut, else those that are there; the end of
-- the file where there are none and none can come
abbrev pub read_connected : Sockets → List ℕ → Option ℕ → Bool → Bool → ℕ → Moving
read_connected sockets bytes peer shut_read nonblock n =
    if shut_read then Moves 0
    else (if nat_lt 0 (length bytes) then Moves (min n (length bytes))
    else (if writes_no_more sockets peer then Moves 0 else not_now nonblock))

-- a read of at most n bytes; ENOTCONN of one that isn't connected
abbrev pub read_in_stage : Sockets → Stage → List ℕ → Bool → ℕ → Moving
read_in_stage sockets Idle bytes nonblock n = Fails errno.ENOTCONN
read_in_stage sockets (Listening waiting) bytes nonblock n = Fails errno.ENOTCONN
read_in_stage sockets (Connected peer shut_read shut_write) bytes nonblock n = read_connected sockets bytes peer shut_read nonblock n

-- a read of at most n bytes (POSIX read)
abbrev pub sock_read : Sockets → ℕ → Bool → ℕ → Moving
sock_read sockets place nonblock n = read_in_stage sockets (stage_at sockets place) (socket_at sockets place).bytes nonblock n

-- after its first k bytes were read
abbrev pub after_read : Sockets → ℕ → ℕ → Sockets
after_read sockets place k = with_bytes sockets place (drop k (socket_at sockets place).bytes)

-- how many bytes more the peer takes
abbrev pub free_at : Sockets → ℕ → ℕ
free_at sockets place = capacity - length (socket_at sockets place).bytes

-- a write of m bytes to a peer that takes so many: as many as there is room for
abbrev pub write_within : ℕ → Bool → ℕ → Moving
write_within free nonblock m =
    if nat_le m free then Moves m else (if free == 0 then not_now nonblock else Moves free)

-- a write of m bytes to a peer: EPIPE where it has closed or was shut for reading, else by the room that it has
abbrev pub write_to : Sockets → Option ℕ → Bool → ℕ → Moving
write_to sockets None nonblock m = Fails errno.EPIPE
write_to sockets (Some peer) nonblock m =
    if is_shut_read (stage_at sockets peer) then Fails errno.EPIPE else write_within (free_at sockets peer) nonblock m

-- a write of m bytes: ENOTCONN of one that isn't connected, then EPIPE where it was shut for writing, before its peer is asked
abbrev pub write_in_stage : Sockets → Stage → Bool → ℕ → Moving
write_in_stage sockets Idle nonblock m = Fails errno.ENOTCONN
write_in_stage sockets (Listening waiting) nonblock m = Fails errno.ENOTCONN
write_in_stage sockets (Connected peer shut_read shut_write) nonblock m =
    if shut_write then Fails errno.EPIPE else write_to sockets peer nonblock m

-- a write of which m bytes are left (POSIX write)
abbrev pub sock_write : Sockets → ℕ → Bool → ℕ → Moving
sock_write sockets place nonblock m = write_in_stage sockets (stage_at sockets place) nonblock m

-- these bytes come behind those that the peer is to read; without a peer nothing changes
abbrev pub sent_to : Sockets → Option ℕ → List ℕ → Sockets
sent_to sockets None bytes = sockets
sent_to sockets (Some peer) bytes = with_bytes sockets peer ((socket_at sockets peer).bytes ++ bytes)

-- after the first k of these bytes were written: the peer is to read them behind the others
abbrev pub after_write : Sockets → ℕ → List ℕ → ℕ → Sockets
after_write sockets place bytes k = sent_to sockets (peer_of (stage_at sockets place)) (take k bytes)

-- after shutdown
abbrev pub after_shut : Sockets → ℕ → ℤ → Sockets
after_shut sockets place how = with_socket sockets place (Some (after_shutdown (socket_at sockets place) how))

-- the peer of one that has gone stays connected, to nobody
abbrev pub left_alone : Sockets → Option ℕ → Sockets
left_alone sockets None = sockets
left_alone sockets (Some peer) = with_stage sockets peer (without_peer (stage_at sockets peer))

-- a socket goes, with the bytes that it was to read
abbrev pub gone : Sockets → ℕ → Sockets
gone sockets place = left_alone (with_socket sockets place None) (peer_of (stage_at sockets place))

-- these sockets go, one after another
abbrev pub all_gone : Sockets → List ℕ → Sockets
all_gone sockets [] = sockets
all_gone sockets (place ∷ rest) = all_gone (gone sockets place) rest

-- after close of the last descriptor: those that wait for it go too (POSIX close)
abbrev pub after_close : Sockets → ℕ → Sockets
after_close sockets place = all_gone (gone sockets place) (waiting_of (stage_at sockets place))

-- of a connected one: POLLIN if asked, where bytes are there, or the peer has closed or was shut for writing; POLLHUP where it
-- has closed, else POLLOUT if asked, where it takes a byte; that it was shut for reading itself gives no POLLIN
abbrev pub polled_connected : Sockets → List ℕ → Option ℕ → ℤ → ℕ
polled_connected sockets bytes None events = (if is_asked events 1 then 1 else 0) + 16
polled_connected sockets bytes (Some peer) events =
    (if is_asked events 1 && (nat_lt 0 (length bytes) || is_shut_write (stage_at sockets peer)) then 1 else 0)
    + (if is_asked events 4 && nat_lt 0 (free_at sockets peer) then 4 else 0)

-- POLLHUP of one that is neither listening nor connected, asked or not; of a listening one POLLIN if asked, where one waits
abbrev pub polled_in_stage : Sockets → Stage → List ℕ → ℤ → ℕ
polled_in_stage sockets Idle bytes events = 16
polled_in_stage sockets (Listening waiting) bytes events = if is_asked events 1 && nat_lt 0 (length waiting) then 1 else 0
polled_in_stage sockets (Connected peer shut_read shut_write) bytes events = polled_connected sockets bytes peer events

-- what poll tells (POSIX poll): POLLIN of a listening one where one waits, of a connected one where bytes are there or none
-- can come; POLLHUP where it is neither or its peer has closed; else POLLOUT where the peer takes a byte
abbrev pub sock_polled : Sockets → ℕ → ℤ → ℕ
sock_polled sockets place events = polled_in_stage sockets (stage_at sockets place) (socket_at sockets place).bytes events

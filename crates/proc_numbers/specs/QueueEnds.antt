-- The ends of queues: an end of a pipe, and a socket. What is said of reading and writing one is said of both.
use Rattle.std.specs.Prelude.{ℕ, ◌≡◌, ◌==◌, [], Bool, true, List, Option, None, Some}
use Rattle.std.specs.List.{Contains}
use Rattle.kheap_slabs.specs.declared.objects.Target.{Target}
use Rattle.kheap_slabs.specs.declared.objects.Target.TheVariants as target
use Rattle.kheap_slabs.specs.Heap.{Heap}
use Rattle.kheap_slabs.specs.Owners.{OwnsItsObjects}
use Rattle.kheap_slabs.specs.Purse.{Purse}
use Rattle.open_laws.specs.Owned.{socks_named}
use Rattle.pipe_ends.specs.Standing.{IsPipeAt, LeavesOthers, StandsFor as PipeStandsFor, account}
use Rattle.posix_defs.specs.Calls.Writing.{is_unread_in}
use Rattle.posix_defs.specs.Pipe.{Moving, Pipe, after_read, after_write, pipe_read, pipe_write}
use Rattle.posix_defs.specs.QueuePlace.{after_take}
use Rattle.posix_defs.specs.Socket.{is_connected}
use Rattle.posix_defs.specs.Sockets.{Sockets, after_read as socket_after_read, sock_read, sock_write, socket_at, stage_at}
use Rattle.usock_core.specs.Standing.{IsSocketIn, OtherQueuesStay, StandsFor as SocketsStandFor, queue_at}
use Rattle.proc_numbers.specs.Owning.{SocketsChange}
use Rattle.proc_numbers.specs.PipeMoving.{ReadsPipe}
use Rattle.proc_numbers.specs.SocketMoving.{ReadsSocket, WritesSocket}
use Rattle.proc_numbers.specs.declared.ends.QueueEnd.{QueueEnd}
use Rattle.proc_numbers.specs.declared.ends.QueueEnd.TheVariants as queue

-- the end that a target is; a node is none
abbrev pub end_of : Target → Option QueueEnd
end_of (target.Inode number) = None
end_of (target.Pipe key) = Some (queue.Pipe key)
end_of (target.Sock key) = Some (queue.Sock key)

-- its pipe, or its socket, is in the heap
abbrev pub IsEndIn : Heap → QueueEnd → Type 0
IsEndIn h (queue.Pipe key) = IsPipeAt h key
IsEndIn h (queue.Sock key) = IsSocketIn h key

-- a description is open on it
abbrev pub IsOpenEnd : Heap → QueueEnd → Type 0
IsOpenEnd h (queue.Pipe key) = IsPipeAt h key
IsOpenEnd h (queue.Sock key) = Contains (socks_named h.descs) key

-- ---- what an end stands for

-- behind an end of a pipe is a plain one, with the place of its first byte; behind a socket are all sockets, by their keys
abbrev pub Behind : QueueEnd → Type 0
Behind (queue.Pipe key) = Pipe × ℕ
Behind (queue.Sock key) = Sockets

abbrev pub StandsBehind : Heap → (on : QueueEnd) → Behind on → Type 0
StandsBehind h (queue.Pipe key) behind = PipeStandsFor h key behind.0 behind.1
StandsBehind h (queue.Sock key) behind = SocketsStandFor h behind

-- the bytes that are there to be read
abbrev pub unread : (on : QueueEnd) → Behind on → List ℕ
unread (queue.Pipe key) behind = behind.0.bytes
unread (queue.Sock key) behind = (socket_at behind key).bytes

-- what a read of at most n bytes comes to
abbrev pub read_of : (on : QueueEnd) → Behind on → Bool → ℕ → Moving
read_of (queue.Pipe key) behind nonblock n = pipe_read behind.0 nonblock n
read_of (queue.Sock key) behind nonblock n = sock_read behind key nonblock n

-- what a write of n bytes comes to, of which so many are left
abbrev pub write_of : (on : QueueEnd) → Behind on → Bool → ℕ → ℕ → Moving
write_of (queue.Pipe key) behind nonblock n left = pipe_write behind.0 nonblock n left
write_of (queue.Sock key) behind nonblock n left = sock_write behind key nonblock left

-- a write finds somebody at the other end: a pipe has one from the beginning, a socket once it is connected
abbrev pub is_linked : (on : QueueEnd) → Behind on → Bool
is_linked (queue.Pipe key) behind = true
is_linked (queue.Sock key) behind = is_connected (stage_at behind key)

-- nobody can read what is put in
abbrev pub is_unread_behind : (on : QueueEnd) → Behind on → Bool
is_unread_behind (queue.Pipe key) behind = behind.0.readers == 0
is_unread_behind (queue.Sock key) behind = is_unread_in behind (stage_at behind key)

-- ---- what a read and a write leave

-- nothing but queues is other, each that isn't this end's has the bytes that it had, and all objects have their owners
abbrev pub LeavesBut : Heap → Heap → QueueEnd → Type 0
LeavesBut old new (queue.Pipe key) = LeavesOthers old new key × OwnsItsObjects new
LeavesBut old new (queue.Sock key) = SocketsChange old new []

-- the first k bytes were taken out
abbrev pub TakesOut : Heap → Heap → (on : QueueEnd) → Behind on → ℕ → Type 0
TakesOut old new (queue.Pipe key) behind k = PipeStandsFor new key (after_read behind.0 k) (after_take (account behind.0 behind.1) k).place
TakesOut old new (queue.Sock key) behind k =
    SocketsStandFor new (socket_after_read behind key k) × (queue_at new key ≡ after_take (queue_at old key) k) × OtherQueuesStay old new key

-- they were taken out, and then put in memory
abbrev pub ReadsEnd : Heap → Purse → Heap → Purse → List (Option ℕ) → (on : QueueEnd) → ℕ → Behind on → ℕ → Type 0
ReadsEnd old before new after space (queue.Pipe key) start behind k = ReadsPipe old before new after space key start behind.0 behind.1 k
ReadsEnd old before new after space (queue.Sock key) start behind k = ReadsSocket old before new after space key start behind k

-- the first k of these bytes went in
abbrev pub PutsIn : Heap → Heap → (on : QueueEnd) → Behind on → List ℕ → ℕ → Type 0
PutsIn old new (queue.Pipe key) behind bytes k = PipeStandsFor new key (after_write behind.0 bytes k) behind.1
PutsIn old new (queue.Sock key) behind bytes k = WritesSocket old new key behind bytes k

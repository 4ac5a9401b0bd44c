-- A pipe, and what its calls answer and leave.
use Rattle.std.specs.Prelude.{ℕ, ℤ, ◌+◌, ◌-◌, ◌/◌, ◌%◌, ◌==◌, ◌&&◌, nat_le, nat_lt, min, Bool, false, List, [], ◌++◌, length, take, drop, Option, None, Some, if◌then◌else◌}
use Rattle.std.specs.Int.{cast_unsigned, w64}
use Rattle.kabi_types.specs.declared.errnos.Errno.{Errno}
use Rattle.kabi_types.specs.declared.errnos.Errno.TheVariants as errno

-- the bytes that are unread, the first one first, and how many descriptions have each of its ends; which FIFO's it is, if it is one's
pub record Pipe : Type 0 where
  pub bytes : List ℕ
  pub readers : ℕ
  pub writers : ℕ
  -- the number of the FIFO's node; 0 of a pipe that `pipe` made
  pub node : ℕ
  -- how often each side of the FIFO was opened so far; 0 of a pipe that `pipe` made
  pub read_opens : ℕ
  pub write_opens : ℕ

-- a new pipe has both ends
abbrev pub new_pipe : Pipe
new_pipe = record { bytes = []; readers = 1; writers = 1; node = 0; read_opens = 0; write_opens = 0 }

-- the pipe of a FIFO that nobody has open: it has no end, and was never opened
abbrev pub unopened : ℕ → Pipe
unopened number = record { bytes = []; readers = 0; writers = 0; node = number; read_opens = 0; write_opens = 0 }

-- how many descriptions have an end of one side
abbrev pub ends_of : Pipe → Bool → ℕ
ends_of pipe writing = if writing then pipe.writers else pipe.readers

-- how often that side of a FIFO was opened
abbrev pub opens_of : Pipe → Bool → ℕ
opens_of pipe writing = if writing then pipe.write_opens else pipe.read_opens

-- that side was opened once more, and has one end more
abbrev pub with_end : Pipe → Bool → Pipe
with_end pipe writing =
    if writing then record pipe { writers = pipe.writers + 1; write_opens = pipe.write_opens + 1 }
    else record pipe { readers = pipe.readers + 1; read_opens = pipe.read_opens + 1 }

-- the node of a FIFO whose pipe it is
abbrev pub fifo_of : Pipe → Option ℕ
fifo_of pipe = if pipe.node == 0 then None else Some pipe.node

-- a pipe is there, and it is that of this FIFO's node
abbrev pub is_of_fifo : ℕ → Option Pipe → Bool
is_of_fifo number None = false
is_of_fifo number (Some pipe) = pipe.node == number

-- how many bytes a pipe holds at most
abbrev pub capacity : ℕ
capacity = 4096

-- how many bytes a write may have to go whole or not at all (PIPE_BUF)
abbrev pub whole : ℕ
whole = 512

-- how many bytes more a pipe takes
abbrev pub free_in : Pipe → ℕ
free_in pipe = capacity - length pipe.bytes

-- what a read or a write of a queue answers: so many bytes move, it would block, or it is refused
pub data Moving : Type 0 where
  Moves : ℕ → Moving
  Blocks : Moving
  Fails : Errno → Moving

-- a call that can't go on yet
abbrev pub not_now : Bool → Moving
not_now nonblock = if nonblock then Fails errno.EAGAIN else Blocks

-- a read of at most n bytes: those that are there; the end of the file where there are none and nobody can write
-- (POSIX read)
abbrev pub pipe_read : Pipe → Bool → ℕ → Moving
pipe_read pipe nonblock n =
    if nat_lt 0 (length pipe.bytes) then Moves (min n (length pipe.bytes))
    else (if pipe.writers == 0 then Moves 0 else not_now nonblock)

-- a write of n bytes of which m are left: up to 512 go whole or not at all, of more as many as there is room for
-- (POSIX write)
abbrev pub pipe_write : Pipe → Bool → ℕ → ℕ → Moving
pipe_write pipe nonblock n m =
    if pipe.readers == 0 then Fails errno.EPIPE
    else (if nat_le n whole then (if nat_le n (free_in pipe) then Moves m else not_now nonblock)
    else (if nat_le m (free_in pipe) then Moves m
    else (if free_in pipe == 0 then not_now nonblock else Moves (free_in pipe))))

-- the pipe after its first k bytes were read
abbrev pub after_read : Pipe → ℕ → Pipe
after_read pipe k = record pipe { bytes = drop k pipe.bytes }

-- the pipe after the first k of these bytes were written
abbrev pub after_write : Pipe → List ℕ → ℕ → Pipe
after_write pipe bytes k = record pipe { bytes = pipe.bytes ++ take k bytes }

-- one read end less; the bytes that nobody can read any more are dropped
abbrev pub without_reader : Pipe → Pipe
without_reader pipe = record pipe {
  bytes = if pipe.readers == 1 then [] else pipe.bytes;
  readers = pipe.readers - 1;
}

-- one write end less
abbrev pub without_writer : Pipe → Pipe
without_writer pipe = record pipe { writers = pipe.writers - 1 }

-- a pipe is there while it has an end
abbrev pub while_open : Pipe → Option Pipe
while_open pipe = if (pipe.readers == 0) && (pipe.writers == 0) then None else Some pipe

-- the pipe after one of its ends is closed; none after the last
abbrev pub after_close : Pipe → Bool → Option Pipe
after_close pipe writing = while_open (if writing then without_writer pipe else without_reader pipe)

-- whether `poll` is asked for an event, which is a power of 2
abbrev pub is_asked : ℤ → ℕ → Bool
is_asked events event = cast_unsigned w64 events / event % 2 == 1

-- what poll tells of the read end: POLLIN, and POLLHUP where nobody can write
abbrev pub polled_to_read : Pipe → ℤ → ℕ
polled_to_read pipe events =
    (if is_asked events 1 && nat_lt 0 (length pipe.bytes) then 1 else 0) + (if pipe.writers == 0 then 16 else 0)

-- what poll tells of the write end: POLLERR where nobody can read, else POLLOUT
abbrev pub polled_to_write : Pipe → ℤ → ℕ
polled_to_write pipe events =
    if pipe.readers == 0 then 8 else (if is_asked events 4 && nat_le whole (free_in pipe) then 4 else 0)

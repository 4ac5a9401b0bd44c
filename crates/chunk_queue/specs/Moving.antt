-- What reading and writing answer, as the plain machine says it.
use Rattle.std.specs.Prelude.{ℕ, Bool, true, false}
use Rattle.posix_defs.specs.Pipe.{Moving, Moves, Blocks, Fails}
use Rattle.chunk_queue.specs.declared.moved.Moved.{Moved}
use Rattle.chunk_queue.specs.declared.moved.Moved.TheVariants as moved

-- the plain answer that an answer stands for
abbrev pub moving_of : Moved → Moving
moving_of (moved.Bytes count) = Moves count
moving_of moved.Blocked = Blocks
moving_of (moved.Fault errno) = Fails errno

-- how many bytes went
abbrev pub moved_by : Moved → ℕ
moved_by (moved.Bytes count) = count
moved_by moved.Blocked = 0
moved_by (moved.Fault errno) = 0

-- this holds unless bytes went: the call would have to wait, or was refused
abbrev pub UnlessMoved : Moved → Type 0 → Type 0
UnlessMoved (moved.Bytes count) Holds = Unit {0}
UnlessMoved moved.Blocked Holds = Holds
UnlessMoved (moved.Fault errno) Holds = Holds

-- whether a call that is answered so would have to wait
abbrev pub would_wait : Moving → Bool
would_wait (Moves count) = false
would_wait Blocks = true
would_wait (Fails errno) = false

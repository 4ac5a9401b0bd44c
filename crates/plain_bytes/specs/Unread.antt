-- The unread bytes of a queue, and where in its chunk of 512 bytes the first of them stands.
use Rattle.std.specs.Prelude.{◌≡◌, ℕ, ◌<◌, ◌≤◌, List, [], length}
use Rattle.posix_defs.specs.Pipe.{capacity}
use Rattle.posix_defs.specs.QueuePlace.{chunks_of}
use Rattle.posix_defs.specs.Account.{front_after}

-- the bytes, the first one first, and the place of that one in its chunk
pub record Unread : Type 0 where
  pub bytes : List ℕ
  pub front : ℕ

-- no byte is unread
abbrev pub nothing : Unread
nothing = record { bytes = []; front = 0 }

-- the queue has these bytes from now on, and its front is where the account of lengths has it
abbrev pub becomes : Unread → List ℕ → Unread
becomes queue bytes = record { bytes = bytes; front = front_after (length queue.bytes) (length bytes) queue.front }

-- a front is one of a chunk, and at 0 where no byte is unread; and there are at most as many bytes as a pipe or a socket holds
pub record IsQueue (queue : Unread) : Type 0 where
  pub front : queue.front < 512
  pub empty : length queue.bytes ≡ 0 → queue.front ≡ 0
  pub room : length queue.bytes ≤ capacity

-- how many chunks the bytes take
abbrev pub taken_by : Unread → ℕ
taken_by queue = chunks_of (record { place = queue.front; len = length queue.bytes })

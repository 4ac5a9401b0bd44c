-- The account of a queue of bytes: where in its chunks of 512 bytes the unread ones stand, and how many chunks they take.
use Rattle.std.specs.Prelude.{ℕ, ◌+◌, ◌-◌, ◌/◌, ◌%◌, ◌<◌, ◌≡◌, ◌==◌, nat_le, if◌then◌else◌}

-- the place of the first unread byte in its chunk, and how many bytes are unread
pub record QueuePlace : Type 0 where
  pub place : ℕ
  pub len : ℕ

-- a place is one of a chunk, and a queue without bytes begins at its chunk's front
pub record IsPlace (queue : QueuePlace) : Type 0 where
  pub within : queue.place < 512
  pub empty : queue.len ≡ 0 → queue.place ≡ 0

-- the queue without bytes
abbrev pub at_front : QueuePlace
at_front = record { place = 0; len = 0 }

-- how many chunks the unread bytes take
abbrev pub chunks_of : QueuePlace → ℕ
chunks_of queue = if queue.len == 0 then 0 else (queue.place + queue.len + 511) / 512

-- so many bytes are put behind the others
abbrev pub after_put : QueuePlace → ℕ → QueuePlace
after_put queue n = record queue { len = queue.len + n }

-- so many bytes are taken, or all where there are fewer
abbrev pub after_take : QueuePlace → ℕ → QueuePlace
after_take queue n =
    if nat_le queue.len n then at_front else record { place = (queue.place + n) % 512; len = queue.len - n }

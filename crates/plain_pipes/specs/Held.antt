-- A pipe with the front of its queue, and what all pipes ever made are to the definitions: a list of pipes, and one of fronts.
use Rattle.std.specs.Prelude.{◌≡◌, ℕ, ◌+◌, ◌≤◌, ◌==◌, Bool, List, [], ◌∷◌, ◌++◌, length, map, Option, None, Some, IsSome, slice_index_or, slice_set, unwrap_or, if◌then◌else◌}
use Rattle.std.specs.List.{position_from}
use Rattle.std.specs.Option.{option_map}
use Rattle.posix_defs.specs.Pipe.{Pipe, is_of_fifo, new_pipe, unopened, with_end}
use Rattle.posix_defs.specs.Account.{front_after, fronts_after, unread_in_pipe}
use Rattle.kept_places.specs.declared.search.Kept.{Kept}
use Rattle.plain_bytes.specs.Unread.{IsQueue, Unread}
use Rattle.plain_bytes.specs.Many.{fronts, queues_of}

pub record Held : Type 0 where
  pub pipe : Pipe
  pub front : ℕ

abbrev pub pipe_of : Held → Pipe
pipe_of held = held.pipe

abbrev pub queue_of : Held → Unread
queue_of held = record { bytes = held.pipe.bytes; front = held.front }

-- the pipe is another one from now on, and its front is where the account of lengths has it
abbrev pub becomes : Held → Pipe → Held
becomes held pipe = record { pipe = pipe; front = front_after (length held.pipe.bytes) (length pipe.bytes) held.front }

-- its queue is one, and each side has at most one end more than it was opened
pub record IsHeld (held : Held) : Type 0 where
  pub queue : IsQueue (queue_of held)
  pub readers : held.pipe.readers ≤ held.pipe.read_opens + 1
  pub writers : held.pipe.writers ≤ held.pipe.write_opens + 1

-- ---- all pipes ever made

-- every pipe by its place, as the machine has it; none once it has gone
abbrev pub pipes_in : List (Option Held) → List (Option Pipe)
pipes_in held = map (option_map pipe_of) held

-- the front of each, as the account has it
abbrev pub fronts_in : List (Option Held) → List ℕ
fronts_in held = fronts (queues_of queue_of held)

-- how many bytes are unread in each, as the account counts them
abbrev pub lengths_in : List (Option Held) → List ℕ
lengths_in held = map unread_in_pipe (pipes_in held)

-- the pipe of a place is there
abbrev pub HasPipe : List (Option Held) → ℕ → Type 0
HasPipe held place = IsSome (slice_index_or (pipes_in held) place None)

-- the pipe of a place where one is, as files with these pipes have it
abbrev pub pipe_in : List (Option Held) → ℕ → Pipe
pipe_in held place = unwrap_or (slice_index_or (pipes_in held) place None) new_pipe

-- the pipe of a FIFO that nobody has open, or that of its place
abbrev pub fifo_there_in : List (Option Held) → ℕ → Option ℕ → Pipe
fifo_there_in held number None = unopened number
fifo_there_in held number (Some place) = pipe_in held place

-- the pipe of a FIFO, as files with these pipes have it
abbrev pub fifo_in : List (Option Held) → ℕ → Pipe
fifo_in held number = fifo_there_in held number (position_from (is_of_fifo number) 0 (pipes_in held))

-- where the pipe of a FIFO stands, or gets its place
abbrev pub place_in : List (Option Held) → Option ℕ → ℕ
place_in held None = length (pipes_in held)
place_in held (Some place) = place

-- the place of the pipe of a FIFO; None where nobody has it open
abbrev pub fifo_at_in : List (Option Held) → ℕ → Option ℕ
fifo_at_in held number = position_from (is_of_fifo number) 0 (pipes_in held)

-- the pipes after one side of a FIFO was opened once more, by its place
abbrev pub opened_in : List (Option Held) → ℕ → Bool → Option ℕ → List (Option Pipe)
opened_in held number writing None = pipes_in held ++ Some (with_end (unopened number) writing) ∷ []
opened_in held number writing (Some place) = slice_set (pipes_in held) place (Some (with_end (pipe_in held place) writing))

-- of those that are there, each with its place, the first whose node has this number
abbrev pub first_of_fifo : ℕ → List (Kept Held) → Option ℕ
first_of_fifo number [] = None
first_of_fifo number (kept ∷ rest) = if kept.what.pipe.node == number then Some kept.place else first_of_fifo number rest

-- the fronts are those that the account has after the pipes have changed so
abbrev pub FrontsFollow : List (Option Held) → List (Option Held) → Type 0
FrontsFollow old new = fronts_in new ≡ fronts_after (lengths_in old) (lengths_in new) (fronts_in old)

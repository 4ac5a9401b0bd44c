-- Of pipes and the descriptions of their ends, what every machine that is reached keeps.
use Rattle.std.specs.Prelude.{ℕ, ◌+◌, ◌<◌, ◌≤◌, ◌≡◌, ◌≢◌, true, List, [], length, Option, None, Some, is_some, slice_index_or}
use Rattle.std.specs.List.{count_by}
use Rattle.posix_defs.specs.Pipe.{Pipe, capacity}
use Rattle.posix_defs.specs.Files.Descriptions.{Target, OnNode, OnPipe, OnSocket, Access, ReadWrite, Description, Descriptions, description_at}
use Rattle.posix_defs.specs.Files.Whole.{is_read_end, is_write_end}

-- the pipe of a place among these, if it is there
abbrev pub pipe_in : List (Option Pipe) → ℕ → Option Pipe
pipe_in pipes place = slice_index_or pipes place None

-- What a description is open on, where that is a pipe, is there, and the description is one of its ends.
abbrev pub IsEnd : List (Option Pipe) → Access → Target → Type 0
IsEnd pipes access (OnNode number) = Unit {0}
IsEnd pipes access (OnPipe place) = (is_some (pipe_in pipes place) ≡ true) × (access ≢ ReadWrite)
IsEnd pipes access (OnSocket place) = Unit {0}

-- A pipe has as many readers and writers as descriptions are open on its ends, no more bytes than it holds, and none that
-- nobody can read.
pub record IsCounted (descriptions : Descriptions) (place : ℕ) (pipe : Pipe) : Type 0 where
  pub readers : pipe.readers ≡ count_by (is_read_end place) descriptions
  pub writers : pipe.writers ≡ count_by (is_write_end place) descriptions
  pub room : length pipe.bytes ≤ capacity
  pub unread : pipe.readers ≡ 0 → pipe.bytes ≡ []

-- Each description of a pipe is one of its ends, and each pipe that is there counts its ends and has some.
pub record ArePiped (descriptions : Descriptions) (pipes : List (Option Pipe)) : Type 0 where
  pub ends : (place : ℕ) (description : Description) → description_at descriptions place ≡ Some description
      → IsEnd pipes description.access description.target
  pub counted : (place : ℕ) (pipe : Pipe) → pipe_in pipes place ≡ Some pipe → IsCounted descriptions place pipe
  pub some_end : (place : ℕ) (pipe : Pipe) → pipe_in pipes place ≡ Some pipe → 0 < pipe.readers + pipe.writers

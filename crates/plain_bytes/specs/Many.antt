-- Many queues by their places, some of which have gone: their lengths, their fronts, and the chunks that they take.
use Rattle.std.specs.Prelude.{◌≡◌, ◌⊎◌, ℕ, ◌<◌, ◌≤◌, ◌^◌, List, length, map, Option, None, Some, slice_index_or}
use Rattle.std.specs.List.{sum_by}
use Rattle.std.specs.Option.{option_map}
use Rattle.posix_defs.specs.Account.{fronts_after}
use Rattle.plain_bytes.specs.Unread.{Unread, IsQueue, taken_by}

-- of a queue that may have gone: how many bytes are unread, where the first one stands, how many chunks it takes
abbrev pub length_in : Option Unread → ℕ
length_in None = 0
length_in (Some queue) = length queue.bytes

abbrev pub front_in : Option Unread → ℕ
front_in None = 0
front_in (Some queue) = queue.front

abbrev pub taken_in : Option Unread → ℕ
taken_in None = 0
taken_in (Some queue) = taken_by queue

-- of all
abbrev pub lengths : List (Option Unread) → List ℕ
lengths queues = map length_in queues

abbrev pub fronts : List (Option Unread) → List ℕ
fronts queues = map front_in queues

abbrev pub all_taken : List (Option Unread) → ℕ
all_taken queues = sum_by taken_in queues

-- the queue of a place; none behind the last place
abbrev pub queue_at : List (Option Unread) → ℕ → Option Unread
queue_at queues place = slice_index_or queues place None

-- what is there is a queue
abbrev pub AreQueues : List (Option Unread) → Type 0
AreQueues queues = (place : ℕ) (queue : Unread) → queue_at queues place ≡ Some queue → IsQueue queue

-- the fronts are those that the account has after the lengths have changed so
abbrev pub Follow : List (Option Unread) → List (Option Unread) → Type 0
Follow old new = fronts new ≡ fronts_after (lengths old) (lengths new) (fronts old)

-- no place is lost, and what is unread at each is what was, or has no byte any more
pub record Fade (old new : List (Option Unread)) : Type 0 where
  pub longer : length old ≤ length new
  pub each : (place : ℕ) → (queue_at new place ≡ queue_at old place) ⊎ ((length_in (queue_at new place) ≡ 0) × (front_in (queue_at new place) ≡ 0))

-- ---- objects that have a queue each

module _ {X : Type 0} (queue : X → Unread) where
  -- their queues, by their places
  abbrev pub queues_of : List (Option X) → List (Option Unread)
  queues_of there = map (option_map queue) there

  -- their queues are queues, this is the sum of the chunks, and they are few enough to have places
  pub record AreKept (there : List (Option X)) (chunks : ℕ) : Type 0 where
    pub queues : AreQueues (queues_of there)
    pub sum : chunks ≡ all_taken (queues_of there)
    pub few : length there < 2 ^ 32

-- What a process has by itself, and what stays of it while others call.
use Rattle.std.specs.Prelude.{ℕ, ◌≡◌, ◌≢◌, ℤ, pos, false, Some}
use Rattle.kabi_types.specs.declared.calls.Call.{Call}
use Rattle.kabi_types.specs.declared.calls.Call.TheVariants.{Kill}
use Rattle.kabi_types.specs.declared.replies.Reply.TheVariants.{Val}
use Rattle.posix_defs.specs.Answer.{Answer, Done}
use Rattle.posix_defs.specs.Plain.{Plain, control_of}
use Rattle.posix_defs.specs.Process.{directory_of, ignores_of, is_alive, memory_of}
use Rattle.posix_defs.specs.Files.State.{Files, descriptors_of, opening_at}
use Rattle.posix_defs.specs.Calls.Opened.{Opened, opened_at}

-- It is the same description still, open on the same and for the same. Its offset and its flags are no part of this: who shares
-- it may change them.
pub record IsStill (was now : Opened) : Type 0 where
  pub place : now.place ≡ was.place
  pub target : now.is.target ≡ was.is.target
  pub access : now.is.access ≡ was.is.access

-- A process has the same in memory, works in the same directory, ignores the same signals, stands at the same place of its program with the same
-- registers, waits for the other side of the same FIFO, if it waits for one, has the same numbers open, with FD_CLOEXEC or without,
-- and each names the description that it named.
pub record KeepsOwn (who : ℕ) (old new : Plain) : Type 0 where
  pub memory : memory_of new.table who ≡ memory_of old.table who
  pub directory : directory_of new.table who ≡ directory_of old.table who
  pub ignores : ignores_of new.table who ≡ ignores_of old.table who
  pub control : control_of new who ≡ control_of old who
  pub numbers : descriptors_of new.files who ≡ descriptors_of old.files who
  pub waits : opening_at new.files who ≡ opening_at old.files who
  pub names : (fd : ℤ) (was : Opened) → opened_at old.files who fd ≡ Some was
      → (now : Opened) × (opened_at new.files who fd ≡ Some now) × IsStill was now

-- no number of a process names the description of this place
abbrev pub HasNone : Files → ℕ → ℕ → Type 0
HasNone files pid place = (fd : ℤ) (opened : Opened) → opened_at files pid fd ≡ Some opened → opened.place ≢ place

-- Of a description of which another process has no number nothing changes, its offset and its flags neither.
abbrev pub KeepsUnshared : ℕ → ℕ → Files → Files → Type 0
KeepsUnshared pid who old new = (fd : ℤ) (opened : Opened) → opened_at old who fd ≡ Some opened → HasNone old pid opened.place
    → opened_at new who fd ≡ Some opened

-- While another process calls, a process keeps its own, and of what that one has no number of it keeps all.
pub record IsLeftAlone (pid who : ℕ) (old new : Plain) : Type 0 where
  pub own : KeepsOwn who old new
  pub unshared : KeepsUnshared pid who old.files new.files

-- What another one's call ends a process by: it is a `kill` of that process, or it ends the first process, and all others with it.
pub data IsEndedBy (pid who : ℕ) (call : Call) : Type 0 where
  struck : (signal : ℤ) → call ≡ Kill (pos who) signal → IsEndedBy pid who call
  with_first : pid ≡ 1 → IsEndedBy pid who call

-- A child that is told wasn't alive before, has in memory, as its working directory and under its numbers what its parent has, and
-- ignores the signals that that one ignores.
pub record Inherits (parent child : ℕ) (old new : Plain) : Type 0 where
  pub new_one : is_alive old.table child ≡ false
  pub memory : memory_of new.table child ≡ memory_of old.table parent
  pub directory : directory_of new.table child ≡ directory_of old.table parent
  pub ignores : ignores_of new.table child ≡ ignores_of old.table parent
  pub numbers : descriptors_of new.files child ≡ descriptors_of old.files parent

abbrev pub InheritsWhere : Plain → ℕ → Answer → Type 0
InheritsWhere plain pid (Done (Val (pos child)) next) = Inherits pid child plain next
InheritsWhere plain pid _ = Unit {0}

-- What becomes of a pipe's bytes in one call of the whole machine.
use Rattle.std.specs.Prelude.{ℕ, ◌-◌, ◌<◌, ◌≡◌, ◌⊎◌, ◌++◌, ℤ, pos, true, List, take, drop, Some, is_some}
use Rattle.kabi_types.specs.Arguments.{count_of}
use Rattle.kabi_types.specs.declared.calls.Call.{Call}
use Rattle.kabi_types.specs.declared.calls.Call.TheVariants.{Read, Write}
use Rattle.kabi_types.specs.declared.replies.Reply.TheVariants.{Val}
use Rattle.posix_defs.specs.Answer.{Answer, Done, Part}
use Rattle.posix_defs.specs.Memory.{stored}
use Rattle.posix_defs.specs.Pipe.{Pipe}
use Rattle.posix_defs.specs.Plain.{Plain}
use Rattle.posix_defs.specs.Process.{memory_of, with_memory}
use Rattle.posix_defs.specs.Files.Descriptions.{OnPipe, Description, description_at}
use Rattle.posix_defs.specs.Files.State.{Files, pipe_there}
use Rattle.posix_defs.specs.Calls.Opened.{Opened, opened_at}

-- a pipe with other bytes
abbrev pub with_bytes : Pipe → List ℕ → Pipe
with_bytes pipe bytes = record pipe { bytes = bytes }

-- Of these bytes, which a write has left, it puts as many behind those of the pipe as it tells: in a part that number, at
-- its end that number beside what was done before.
abbrev pub PutsBehind : ℕ → Pipe → ℕ → List ℕ → Answer → Type 0
PutsBehind place pipe done left (Part moved next) = pipe_there next.files place ≡ Some (with_bytes pipe (pipe.bytes ++ take moved left))
PutsBehind place pipe done left (Done (Val (pos told)) next) = pipe_there next.files place ≡ Some (with_bytes pipe (pipe.bytes ++ take (told - done) left))
PutsBehind place pipe done left _ = Unit {0}

-- A read takes as many bytes from the front as it tells, and puts them in its caller's memory.
abbrev pub TakesFirst : Plain → ℕ → ℤ → ℕ → Pipe → Answer → Type 0
TakesFirst plain pid addr place pipe (Done (Val (pos told)) next) =
    (pipe_there next.files place ≡ Some (with_bytes pipe (drop told pipe.bytes)))
    × (0 < told → next.table ≡ with_memory plain.table pid (stored (memory_of plain.table pid) (count_of addr) (take told pipe.bytes)))
TakesFirst plain pid addr place pipe _ = Unit {0}

-- The pipe is there still, with the same bytes; it is the same but where a further end of a FIFO was opened.
pub record HasBytes (files : Files) (place : ℕ) (pipe : Pipe) : Type 0 where
  pub now : Pipe
  pub is : pipe_there files place ≡ Some now
  pub bytes : now.bytes ≡ pipe.bytes
  pub same : pipe.node ≡ 0 → now ≡ pipe

-- the call reads or writes a descriptor of the pipe
pub record Queues (plain : Plain) (pid : ℕ) (call : Call) (place : ℕ) : Type 0 where
  pub fd : ℤ
  pub opened : Opened
  pub named : opened_at plain.files pid fd ≡ Some opened
  pub target : opened.is.target ≡ OnPipe place
  pub moves : ((addr n : ℤ) × (call ≡ Read fd addr n)) ⊎ ((addr n : ℤ) × (done : ℕ) × (call ≡ Write fd addr n done))

-- every description that was there is there still
abbrev pub NoneGoes : Files → Files → Type 0
NoneGoes old new = (place : ℕ) (description : Description) → description_at old.descriptions place ≡ Some description → is_some (description_at new.descriptions place) ≡ true

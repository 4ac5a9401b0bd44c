-- The core's state: a world, and how far each process is with its call.
use Rattle.std.specs.Prelude.{ℕ, ◌+◌, ◌==◌, Bool, true, false, not, if◌then◌else◌, List, [], ◌∷◌, filter, nat_le}
use Rattle.std.specs.List.{list_any, sum_by}
use Rattle.kabi_types.specs.Call.{kind_of}
use Rattle.kabi_types.specs.declared.calls.Call.{Call}
use Rattle.kabi_types.specs.declared.scripts.Script.{Script}
use Rattle.posix_defs.specs.declared.phases.Asked.{Asked}
use Rattle.posix_defs.specs.declared.phases.Phase.{Phase}
use Rattle.posix_defs.specs.declared.phases.Phase.TheVariants.{User, Waiting, Admitted, Stranded, Dead}
use Rattle.posix_defs.specs.declared.phases.Task.{Task}
use Rattle.posix_defs.specs.Needs.{bound}
use Rattle.posix_defs.specs.Sizes.{reserve}
use Rattle.posix_defs.specs.Process.{is_alive}
use Rattle.posix_defs.specs.Plain.{Plain, call_of}
use Rattle.posix_defs.specs.World.{World, live_of, boot_world}

-- The core's state: the world of its store, and the tasks of processes.
pub record CoreState : Type 0 where
  pub world : World
  -- the processes that are alive, and those that have ended with their call admitted still, by rising pid
  pub tasks : List Task

-- the phase of a pid; Dead where there is no task of it
abbrev pub phase_in : List Task → ℕ → Phase
phase_in [] pid = Dead
phase_in (task ∷ tasks) pid = if task.pid == pid then task.phase else phase_in tasks pid

-- the phase of a process; Dead where it has no task
abbrev pub phase_of : CoreState → ℕ → Phase
phase_of s pid = phase_in s.tasks pid

-- the same tasks, where that of a pid is in another phase
abbrev pub with_phase_in : List Task → ℕ → Phase → List Task
with_phase_in [] pid phase = []
with_phase_in (task ∷ tasks) pid phase =
    if task.pid == pid then record task { phase = phase } ∷ tasks else task ∷ with_phase_in tasks pid phase

-- the same state, where the task of a process is in another phase
abbrev pub with_phase : CoreState → ℕ → Phase → CoreState
with_phase s pid phase = record s { tasks = with_phase_in s.tasks pid phase }

-- what an admitted call has in reserve, in bytes
abbrev pub held : Phase → ℕ
held (Admitted asked) = asked.bound
held (Stranded asked) = asked.bound
held _ = 0

-- the bounds of all admitted calls together
abbrev pub reserved_in : List Task → ℕ
reserved_in tasks = sum_by (λ task. held task.phase) tasks

-- live bytes, the reserve that closing and ending may use, and what is reserved for admitted calls
abbrev pub charged_in : CoreState → ℕ
charged_in s = live_of s.world + reserve + reserved_in s.tasks

-- the call that a process makes next
abbrev pub next_call : Script → CoreState → ℕ → Call
next_call script s pid = call_of script s.world.plain pid

-- what a process asks for with its next call
abbrev pub asked_by : Script → Plain → ℕ → Asked
asked_by script plain pid = record { kind = kind_of (call_of script plain pid); bound = bound (call_of script plain pid) }

-- the process is there and has not ended
abbrev pub lives : CoreState → ℕ → Bool
lives s pid = is_alive s.world.plain.table pid

-- charged with what is asked for stays within the heap
abbrev pub fits : Script → CoreState → Asked → Bool
fits script s asked = nat_le (charged_in s + asked.bound) script.heap

-- a call holds its bound in reserve: of a live process, or of one that has ended and was not abandoned yet
abbrev pub is_admitted : Phase → Bool
is_admitted (Admitted _) = true
is_admitted (Stranded _) = true
is_admitted _ = false

-- no call is admitted, of a live process or of one that has ended
abbrev pub none_admitted : CoreState → Bool
none_admitted s = not (list_any (λ task. is_admitted task.phase) s.tasks)

-- a call was asked for, and waits for room
abbrev pub is_waiting : Phase → Bool
is_waiting (Waiting _) = true
is_waiting _ = false

-- the tasks whose calls wait for room, by rising pid
abbrev pub waiting_in : List Task → List Task
waiting_in tasks = filter (λ task. is_waiting task.phase) tasks

-- the task's call waits, and there is room for it
abbrev pub waits_and_fits : Script → CoreState → Phase → Bool
waits_and_fits script s (Waiting asked) = fits script s asked
waits_and_fits script s _ = false

-- the task's call waits, and there is no room for it
abbrev pub waits_in_vain : Script → CoreState → Phase → Bool
waits_in_vain script s (Waiting asked) = not (fits script s asked)
waits_in_vain script s _ = false

-- there is room for some call that waits
abbrev pub some_fits : Script → CoreState → Bool
some_fits script s = list_any (λ task. waits_and_fits script s task.phase) s.tasks

-- there is no room for some call that waits
abbrev pub some_wait_in_vain : Script → CoreState → Bool
some_wait_in_vain script s = list_any (λ task. waits_in_vain script s task.phase) s.tasks

-- one process, which has made no call
abbrev pub boot_state : Script → CoreState
boot_state script = record { world = boot_world script; tasks = record { pid = 1; phase = User } ∷ [] }

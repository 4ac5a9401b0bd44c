-- What every state of the core that is reached keeps.
use Rattle.std.specs.Prelude.{ℕ, ◌≡◌, ◌<◌, ◌≤◌, true, false, List, [], ◌∷◌, length, ◌==◌}
use Rattle.std.specs.List.{AllByRecursion, list_any}
use Rattle.kabi_types.specs.declared.scripts.Script.{Script}
use Rattle.posix_defs.specs.declared.phases.Asked.{Asked}
use Rattle.posix_defs.specs.declared.phases.Phase.{Phase}
use Rattle.posix_defs.specs.declared.phases.Phase.TheVariants.{User, Waiting, Admitted, Asleep, Stranded, Dead}
use Rattle.posix_defs.specs.declared.phases.Task.{Task}
use Rattle.posix_defs.specs.Sizes.{room}
use Rattle.posix_defs.specs.Process.{is_alive}
use Rattle.posix_defs.specs.Plain.{Plain, last_pid}
use Rattle.posix_defs.specs.World.{MayKeep}
use Rattle.posix_defs.specs.CoreState.{CoreState, asked_by}

-- What a process has asked for is its next call, and the heap can give it.
pub record HasAsked (script : Script) (plain : Plain) (pid : ℕ) (asked : Asked) : Type 0 where
  pub same : asked ≡ asked_by script plain pid
  pub fits_ever : asked.bound ≤ room script.heap

-- a task is of a live process, but where it is stranded; nothing is kept of the dead
abbrev pub PhaseFits : Script → Plain → ℕ → Phase → Type 0
PhaseFits script plain pid User = is_alive plain.table pid ≡ true
PhaseFits script plain pid (Waiting asked) = (is_alive plain.table pid ≡ true) × HasAsked script plain pid asked
PhaseFits script plain pid (Admitted asked) = (is_alive plain.table pid ≡ true) × HasAsked script plain pid asked
PhaseFits script plain pid (Asleep asked) = (is_alive plain.table pid ≡ true) × HasAsked script plain pid asked
PhaseFits script plain pid (Stranded asked) = (is_alive plain.table pid ≡ false) × HasAsked script plain pid asked
PhaseFits script plain pid Dead = ⊥

-- The task is of a process that was made, and its phase is as its process is.
pub record TaskFits (script : Script) (plain : Plain) (task : Task) : Type 0 where
  pub made : task.pid ≤ last_pid plain
  pub phase : PhaseFits script plain task.pid task.phase

-- pids rise, and are above this one
abbrev pub AreRising : ℕ → List Task → Type 0
AreRising below [] = Unit {0}
AreRising below (task ∷ tasks) = (below < task.pid) × AreRising task.pid tasks

-- Each live process has a task, tasks stand by rising pid and are as their processes are, and the caches keep what they may.
pub record IsSound (script : Script) (s : CoreState) : Type 0 where
  pub made : length s.world.plain.table ≡ last_pid s.world.plain
  pub rising : AreRising 0 s.tasks
  pub each : AllByRecursion (TaskFits script s.world.plain) s.tasks
  pub all : (pid : ℕ) → is_alive s.world.plain.table pid ≡ true → list_any (λ task. task.pid == pid) s.tasks ≡ true
  pub may_keep : MayKeep s.world.plain s.world.kept

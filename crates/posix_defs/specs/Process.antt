-- The processes of the plain machine: who is there, and whose child is whose.
use Rattle.std.specs.Prelude.{ℕ, Bool, true, false, List, count_by, Option, None, Some, unwrap_or}
use Rattle.posix_defs.specs.ByPid.{at_pid, with_pid}
use Rattle.posix_defs.specs.Memory.{Memory, no_memory}
use Rattle.posix_defs.specs.Tree.{root}

-- whether a process runs, or has ended with a wait status and waits for its parent
pub data Status : Type 0 where
  Alive : Status
  Ended : ℕ → Status

-- whether a process ignores SIGPIPE, which comes of a write that nobody reads, and SIGTERM; one that it doesn't ignore ends it
pub record Ignores : Type 0 where
  pub broken_pipe : Bool
  pub terminate : Bool

-- a process of the table; its parent is 0 for the first one
pub record Process : Type 0 where
  pub parent : ℕ
  pub directory : ℕ
  pub status : Status
  pub memory : Memory
  pub ignores : Ignores

-- the table: what is there of each process ever made, None once it was waited for
abbrev pub Table : Type 0
Table = List (Option Process)

-- the process of a pid; None where it was waited for, and where no such process was made
abbrev pub process_at : Table → ℕ → Option Process
process_at table pid = unwrap_or (at_pid table pid) None

-- the process has not ended
abbrev pub runs : Status → Bool
runs Alive = true
runs (Ended _) = false

-- a process is there and has not ended
abbrev pub is_alive_in : Option Process → Bool
is_alive_in None = false
is_alive_in (Some process) = runs process.status

-- the process is there and has not ended
abbrev pub is_alive : Table → ℕ → Bool
is_alive table pid = is_alive_in (process_at table pid)

-- the parent of a process that is there; 0 where none is, and for the first one
abbrev pub parent_in : Option Process → ℕ
parent_in None = 0
parent_in (Some process) = process.parent

-- the pid of a process's parent
abbrev pub parent_of : Table → ℕ → ℕ
parent_of table pid = parent_in (process_at table pid)

-- a process is there, alive or ended and not waited for
abbrev pub is_there : Option Process → Bool
is_there None = false
is_there (Some _) = true

-- the memory of a process that is there, else one without a mapped page
abbrev pub memory_in : Option Process → Memory
memory_in None = no_memory
memory_in (Some process) = process.memory

-- what a process has in memory
abbrev pub memory_of : Table → ℕ → Memory
memory_of table pid = memory_in (process_at table pid)

-- the process with something else in memory, if it is there
abbrev pub remembering : Memory → Option Process → Option Process
remembering memory None = None
remembering memory (Some process) = Some (record process { memory = memory })

-- the table, where a process has something else in memory
abbrev pub with_memory : Table → ℕ → Memory → Table
with_memory table pid memory = with_pid table pid (remembering memory (process_at table pid))

-- the working directory of a process that is there, else the root
abbrev pub directory_in : Option Process → ℕ
directory_in None = root
directory_in (Some process) = process.directory

-- the working directory of a process
abbrev pub directory_of : Table → ℕ → ℕ
directory_of table pid = directory_in (process_at table pid)

-- the process with another working directory, if it is there
abbrev pub working_in : ℕ → Option Process → Option Process
working_in directory None = None
working_in directory (Some process) = Some (record process { directory = directory })

-- the table, where a process works in another directory
abbrev pub with_directory : Table → ℕ → ℕ → Table
with_directory table pid directory = with_pid table pid (working_in directory (process_at table pid))

-- both signals are ignored
abbrev pub ignores_both : Ignores
ignores_both = record { broken_pipe = true; terminate = true }

-- what a process that is there ignores, else both
abbrev pub ignores_in : Option Process → Ignores
ignores_in None = ignores_both
ignores_in (Some process) = process.ignores

-- what a process ignores
abbrev pub ignores_of : Table → ℕ → Ignores
ignores_of table pid = ignores_in (process_at table pid)

-- the process ignores these from now on, if it is there
abbrev pub ignoring : Ignores → Option Process → Option Process
ignoring ignores None = None
ignoring ignores (Some process) = Some (record process { ignores = ignores })

-- the table, where a process ignores these
abbrev pub with_ignores : Table → ℕ → Ignores → Table
with_ignores table pid ignores = with_pid table pid (ignoring ignores (process_at table pid))

-- how many processes are there, alive or ended and not waited for
abbrev pub how_many : Table → ℕ
how_many table = count_by is_there table

-- Which table of the plain machine the processes are, and what its calls answer.
use Rattle.std.specs.Prelude.{ℕ, zero, suc, ◌+◌, ◌≡◌, ◌==◌, ◌||◌, not, ℤ, pos, negsuc, Bool, true, false, if◌then◌else◌, List, [], ◌∷◌, ◌++◌, length, None, Some, Result, Ok, Err}
use Rattle.kabi_types.specs.Arguments.{count_of}
use Rattle.kabi_types.specs.declared.errnos.Errno.{Errno}
use Rattle.kabi_types.specs.declared.errnos.Errno.TheVariants.{ECHILD}
use Rattle.kabi_types.specs.declared.replies.Reply.TheVariants.{Val, Waited}
use Rattle.kabi_types.specs.declared.scripts.Script.{Script}
use Rattle.kheap_slabs.specs.declared.objects.Proc.{Proc}
use Rattle.kheap_slabs.specs.Heap.{Heap}
use Rattle.posix_defs.specs.Answer.{Answer, failed, replied}
use Rattle.posix_defs.specs.ByPid.{with_pid}
use Rattle.posix_defs.specs.Ending.{leaves}
use Rattle.posix_defs.specs.Forking.{child_of, with_child}
use Rattle.posix_defs.specs.Killing.{struck}
use Rattle.posix_defs.specs.Memory.{no_memory}
use Rattle.posix_defs.specs.Plain.{Plain, with_table}
use Rattle.posix_defs.specs.Process.{Table, is_alive, is_there, process_at, with_memory}
use Rattle.posix_defs.specs.Waiting.{any_from, exited_from, not_yet}
use Rattle.proc_table.specs.Changes.{reaped_as}
use Rattle.proc_table.specs.Procs.{process_of}
use Rattle.proc_table.specs.Table.{TableView, processes}
use Rattle.proc_table.specs.declared.reaped.Reaped.{Reaped}
use Rattle.proc_table.specs.declared.reaped.Reaped.TheVariants.{NoChild, Nobody, Took}

-- The processes in the heap are the processes of a table that are there, from this pid on.
pub data AreFrom : Heap → ℕ → Table → List Proc → Type 0 where
  nobody : (h : Heap) (first : ℕ) → AreFrom h first [] []
  gone : (h : Heap) (first : ℕ) (table : Table) (procs : List Proc) → AreFrom h (suc first) table procs → AreFrom h first (None ∷ table) procs
  there : (h : Heap) (first : ℕ) (proc : Proc) (table : Table) (procs : List Proc) → proc.pid ≡ first → AreFrom h (suc first) table procs
      → AreFrom h first (Some (process_of h proc) ∷ table) (proc ∷ procs)

-- A table of the plain machine that the processes in the heap are.
pub record IsTable (h : Heap) (kept : TableView) (table : Table) : Type 0 where
  pub present : AreFrom h 1 table (processes h kept)
  pub made : length table ≡ kept.last

-- the table with a child of a process, if one was made
abbrev pub forked_in : Table → ℕ → Result ℕ Errno → Table
forked_in table pid (Ok child) = table ++ child_of pid (process_at table pid) ∷ []
forked_in table pid (Err errno) = table

-- the table where a process has no memory any more
abbrev pub cleared_in : Table → ℕ → Table
cleared_in table pid = with_memory table pid no_memory

-- nobody is there to wait for who ends: it is the first process, or ends after it
abbrev pub ends_alone : Table → ℕ → Bool
ends_alone table pid = (pid == 1) || not (is_there (process_at table 1))

-- one process ends; the first is reaped at once, and so is who ends after it
abbrev pub ends_in : Table → ℕ → ℕ → Table
ends_in table pid status = if ends_alone table pid then with_pid (leaves table pid status) pid None else leaves table pid status

-- of so many from this pid on those that live end in turn, by rising pid, with this status
abbrev pub ends_from : ℕ → ℕ → Table → ℕ → Table
ends_from zero pid table status = table
ends_from (suc more) pid table status = ends_from more (pid + 1) (if is_alive table pid then ends_in table pid status else table) status

-- what a parent that waits is answered
abbrev pub found_in : Table → ℕ → ℤ → Reaped
found_in table pid which = reaped_as (exited_from pid which 1 table) (any_from pid which 1 table)

-- the table after that answer
abbrev pub waited_in : Table → Reaped → Table
waited_in table (Took pid status) = with_pid table pid None
waited_in table Nobody = table
waited_in table NoChild = table

-- the pid that a number is; a call's number below 0 is none
abbrev pub pid_of : ℤ → ℕ
pid_of (pos pid) = pid
pid_of (negsuc _) = 0

-- what the caller of `kill` is answered by a verdict on its target
abbrev pub answered_by : Script → Plain → ℕ → ℤ → ℤ → Result Bool Errno → Answer
answered_by script plain pid target signal (Err errno) = failed script plain pid errno
answered_by script plain pid target signal (Ok false) = replied script plain pid (Val (pos 0))
answered_by script plain pid target signal (Ok true) = struck script plain pid (pid_of target) (count_of signal)

-- what the caller of `fork` is answered
abbrev pub answered_fork : Script → Plain → ℕ → Result ℕ Errno → Answer
answered_fork script plain pid (Err errno) = failed script plain pid errno
answered_fork script plain pid (Ok child) = replied script (with_child script plain pid) pid (Val (pos child))

-- what the caller of `waitpid` is answered
abbrev pub answered_wait : Script → Plain → ℕ → ℤ → Reaped → Answer
answered_wait script plain pid options (Took child status) = replied script (with_table plain (waited_in plain.table (Took child status))) pid (Waited child status)
answered_wait script plain pid options Nobody = not_yet script plain pid options
answered_wait script plain pid options NoChild = failed script plain pid ECHILD

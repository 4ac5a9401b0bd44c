-- `waitpid`: an ended child is told, and goes from the table.
use Rattle.std.specs.Prelude.{ℕ, ◌+◌, ◌==◌, ◌&&◌, ◌||◌, ℤ, pos, negsuc, Bool, true, false, if◌then◌else◌, [], ◌∷◌, Option, None, Some}
use Rattle.std.specs.Option.{option_or}
use Rattle.kabi_types.specs.declared.errnos.Errno.TheVariants.{ECHILD}
use Rattle.kabi_types.specs.declared.replies.Reply.TheVariants.{Val, Waited}
use Rattle.kabi_types.specs.declared.scripts.Script.{Script}
use Rattle.posix_defs.specs.ByPid.{with_pid}
use Rattle.posix_defs.specs.Process.{Table, Process, Status, Alive, Ended}
use Rattle.posix_defs.specs.Plain.{Plain, with_table}
use Rattle.posix_defs.specs.Answer.{Answer, Blocked, failed, replied}

-- the caller asks for this process: for the one of that pid, or by -1 for any
abbrev pub is_asked_for : ℤ → ℕ → Bool
is_asked_for (pos pid) child = pid == child
is_asked_for (negsuc _) child = true

-- the process is there, alive or ended, and has this parent
abbrev pub is_child_of : ℕ → Option Process → Bool
is_child_of parent None = false
is_child_of parent (Some process) = process.parent == parent

-- the process of this pid is a child that its parent asks for
abbrev pub matches : ℕ → ℤ → ℕ → Option Process → Bool
matches parent which child there = is_child_of parent there && is_asked_for which child

-- among the processes from this pid on there is one that matches, alive or ended
abbrev pub any_from : ℕ → ℤ → ℕ → Table → Bool
any_from parent which child [] = false
any_from parent which child (there ∷ table) = matches parent which child there || any_from parent which (child + 1) table

-- the process has ended
abbrev pub has_ended : Status → Bool
has_ended Alive = false
has_ended (Ended _) = true

-- the wait status of one that has ended: 256 times its exit status, or the number of the signal that ended it; 0 while it runs
abbrev pub wait_status : Status → ℕ
wait_status Alive = 0
wait_status (Ended status) = status

-- what is told of a child: its pid and its wait status
pub record Exited : Type 0 where
  pub pid : ℕ
  pub status : ℕ

-- what is told of the process of this pid, if it is there and has ended
abbrev pub exited_in : ℕ → Option Process → Option Exited
exited_in pid None = None
exited_in pid (Some process) = if has_ended process.status then Some (record { pid = pid; status = wait_status process.status }) else None

-- of those that match and have ended the one of the lowest pid
abbrev pub exited_from : ℕ → ℤ → ℕ → Table → Option Exited
exited_from parent which child [] = None
exited_from parent which child (there ∷ table) =
    option_or (if matches parent which child there then exited_in child there else None) (exited_from parent which (child + 1) table)

-- the machine without a process that was waited for
abbrev pub reaped : Plain → ℕ → Plain
reaped plain child = with_table plain (with_pid plain.table child None)

-- the caller doesn't want to wait
abbrev pub is_nohang : ℤ → Bool
is_nohang (pos options) = options == 1
is_nohang (negsuc _) = false

-- what is told where no child that matches has ended: 0 to who doesn't want to wait; who does waits
abbrev pub not_yet : Script → Plain → ℕ → ℤ → Answer
not_yet script plain pid options = if is_nohang options then replied script plain pid (Val (pos 0)) else Blocked

-- the child that is told goes; else there is one that may be waited for, or ECHILD
abbrev pub waited_for : Script → Plain → ℕ → ℤ → ℤ → Option Exited → Answer
waited_for script plain pid which options (Some exited) = replied script (reaped plain exited.pid) pid (Waited exited.pid exited.status)
waited_for script plain pid which options None =
    if any_from pid which 1 plain.table then not_yet script plain pid options else failed script plain pid ECHILD

-- the ended child that matches; where none has ended the caller waits, if it wants to and one matches
abbrev pub waitpid : Script → Plain → ℕ → ℤ → ℤ → Answer
waitpid script plain pid which options = waited_for script plain pid which options (exited_from pid which 1 plain.table)

-- Which signals processes ignore, and what calls answer where nobody has asked for one.
use Rattle.std.specs.Prelude.{ℕ, ◌≡◌, ◌==◌, ◌||◌, ℤ, pos, negsuc, Bool, true, false, if◌then◌else◌, Option, None, Some}
use Rattle.kabi_types.specs.Arguments.{argument_fault, count_of, is_number}
use Rattle.kabi_types.specs.declared.calls.Call.{Call}
use Rattle.kabi_types.specs.declared.calls.Call.TheVariants as calls
use Rattle.kabi_types.specs.declared.errnos.Errno.TheVariants.{EPERM, ESRCH}
use Rattle.kabi_types.specs.declared.replies.Reply.TheVariants.{Val}
use Rattle.kabi_types.specs.declared.scripts.Script.{Script}
use Rattle.posix_defs.specs.Answer.{Answer, failed, replied}
use Rattle.posix_defs.specs.Ending.{die}
use Rattle.posix_defs.specs.Killing.{is_asking, struck}
use Rattle.posix_defs.specs.Machine.{answer_to, unless_wrong}
use Rattle.posix_defs.specs.Plain.{Plain}
use Rattle.posix_defs.specs.Process.{Process, ignores_both, ignores_of, process_at, runs}
use Rattle.posix_defs.specs.Signals.{sigpipe}
use Rattle.posix_defs.specs.Calls.Writing.{write_ignoring}

-- every process ignores SIGPIPE and SIGTERM, as the first one does at boot
abbrev pub AllIgnore : Plain → Type 0
AllIgnore plain = (pid : ℕ) → ignores_of plain.table pid ≡ ignores_both

-- the call has nothing to do with them: it isn't `signal`, and a `kill` asks with 0 or sends SIGKILL
abbrev pub minds_no_signal : Call → Bool
minds_no_signal (calls.Signal which disposition) = false
minds_no_signal (calls.Kill target signal) = is_number 0 signal || is_number 9 signal
minds_no_signal _ = true

-- a process is sent a signal that nobody can ignore
abbrev pub sent_before : Script → Plain → ℕ → ℕ → ℤ → Option Process → Answer
sent_before script plain pid target signal None = failed script plain pid ESRCH
sent_before script plain pid target signal (Some process) =
    if is_asking signal then replied script plain pid (Val (pos 0))
    else (if target == 1 then failed script plain pid EPERM
    else (if runs process.status then struck script plain pid target (count_of signal) else replied script plain pid (Val (pos 0))))

-- `kill`, where a signal ends every live process but the first
abbrev pub kill_before : Script → Plain → ℕ → ℤ → ℤ → Answer
kill_before script plain pid (negsuc _) signal = failed script plain pid ESRCH
kill_before script plain pid (pos target) signal = sent_before script plain pid target signal (process_at plain.table target)

-- what calls answer where no process can be ended by a write, or ignore what it is sent
abbrev pub answer_before : Script → Plain → ℕ → Call → Answer
answer_before script plain pid (calls.Kill target signal) = kill_before script plain pid target signal
answer_before script plain pid (calls.Write fd addr n done) = write_ignoring script plain pid fd addr n done
answer_before script plain pid call = answer_to script plain pid call

-- the same, a wrong operand told first
abbrev pub machine_before : Script → Plain → ℕ → Call → Answer
machine_before script plain pid call = unless_wrong script plain pid (argument_fault call) (answer_before script plain pid call)

-- What is left behind a write that ended its caller: nothing of it was moved, the caller didn't ignore SIGPIPE and is ended by that,
-- and nothing else has come about.
pub record EndsByPipe (plain : Plain) (pid done status : ℕ) (next : Plain) : Type 0 where
  pub nothing_moved : done ≡ 0
  pub heeded : (ignores_of plain.table pid).broken_pipe ≡ false
  pub signal : status ≡ sigpipe
  pub ended : next ≡ die plain pid sigpipe

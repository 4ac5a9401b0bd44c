-- `kill`: a process ends another, or itself.
use Rattle.std.specs.Prelude.{ℕ, ◌==◌, ◌&&◌, ℤ, pos, negsuc, Bool, false, not, if◌then◌else◌, Option, None, Some}
use Rattle.kabi_types.specs.Arguments.{count_of}
use Rattle.kabi_types.specs.declared.errnos.Errno.TheVariants.{EPERM, ESRCH}
use Rattle.kabi_types.specs.declared.replies.Reply.TheVariants.{Val}
use Rattle.kabi_types.specs.declared.scripts.Script.{Script}
use Rattle.posix_defs.specs.Process.{Process, process_at, runs}
use Rattle.posix_defs.specs.Plain.{Plain}
use Rattle.posix_defs.specs.Answer.{Answer, Ended, failed, replied}
use Rattle.posix_defs.specs.Ending.{die}
use Rattle.posix_defs.specs.Signals.{ignores_signal}

-- the signal that ends a process at once
abbrev pub sigkill : ℕ
sigkill = 9

-- the signal 0 asks only whether the process is there
abbrev pub is_asking : ℤ → Bool
is_asking (pos signal) = signal == 0
is_asking (negsuc _) = false

-- a live process other than the first ends with a signal, the caller itself or another
abbrev pub struck : Script → Plain → ℕ → ℕ → ℕ → Answer
struck script plain pid target signal =
    if target == pid then Ended signal (die plain pid signal) else replied script (die plain target signal) pid (Val (pos 0))

-- a signal ends a process that runs and doesn't ignore it
abbrev pub is_ended_by : ℕ → Process → Bool
is_ended_by signal process = runs process.status && not (ignores_signal process signal)

-- a process that has ended already stays as it is, and one that ignores the signal too
abbrev pub ends : Script → Plain → ℕ → ℕ → ℕ → Process → Answer
ends script plain pid target signal process =
    if is_ended_by signal process then struck script plain pid target signal else replied script plain pid (Val (pos 0))

-- a process that is there is sent a signal; none ends the first one
abbrev pub signalled : Script → Plain → ℕ → ℕ → ℤ → Process → Answer
signalled script plain pid target signal process =
    if is_asking signal then replied script plain pid (Val (pos 0))
    else (if target == 1 then failed script plain pid EPERM else ends script plain pid target (count_of signal) process)

-- ESRCH where no process of that pid is there, alive or ended and not waited for
abbrev pub sent_to : Script → Plain → ℕ → ℕ → ℤ → Option Process → Answer
sent_to script plain pid target signal None = failed script plain pid ESRCH
sent_to script plain pid target signal (Some process) = signalled script plain pid target signal process

-- a signal to a process, the first that holds: ESRCH where none of that pid is there, alive or ended; 0 for signal 0; EPERM for
-- the first process; 0 where it has ended, or ignores the signal; else it ends by that signal, be it the caller or another (POSIX
-- kill)
abbrev pub kill : Script → Plain → ℕ → ℤ → ℤ → Answer
kill script plain pid (negsuc _) signal = failed script plain pid ESRCH
kill script plain pid (pos target) signal = sent_to script plain pid target signal (process_at plain.table target)

-- The two signals that a process may ignore, and `signal`, by which it says so.
use Rattle.std.specs.Prelude.{ℕ, ◌==◌, ℤ, pos, Bool, false, if◌then◌else◌}
use Rattle.kabi_types.specs.Arguments.{count_of, is_number}
use Rattle.kabi_types.specs.declared.replies.Reply.TheVariants.{Val}
use Rattle.kabi_types.specs.declared.scripts.Script.{Script}
use Rattle.posix_defs.specs.Process.{Ignores, Process, ignores_of, with_ignores}
use Rattle.posix_defs.specs.Plain.{Plain, with_table}
use Rattle.posix_defs.specs.Answer.{Answer, replied}

-- the signal of a write that nobody reads
abbrev pub sigpipe : ℕ
sigpipe = 13

-- the signal by which a process is asked to end
abbrev pub sigterm : ℕ
sigterm = 15

-- the signal is among those that are ignored: no other than these two ever is
abbrev pub is_ignored : Ignores → ℕ → Bool
is_ignored ignores signal =
    if signal == sigpipe then ignores.broken_pipe else (if signal == sigterm then ignores.terminate else false)

-- the process ignores the signal
abbrev pub ignores_signal : Process → ℕ → Bool
ignores_signal process signal = is_ignored process.ignores signal

-- the same, but that this signal is ignored or isn't
abbrev pub with_disposition : Ignores → ℕ → Bool → Ignores
with_disposition ignores signal ignored =
    if signal == sigpipe then record ignores { broken_pipe = ignored }
    else (if signal == sigterm then record ignores { terminate = ignored } else ignores)

-- SIG_IGN is 1: the signal is ignored
abbrev pub sig_ign : ℤ → Bool
sig_ign disposition = is_number 1 disposition

-- the number of a disposition: SIG_IGN, or SIG_DFL 0, by which the signal ends who gets it
abbrev pub disposition_of : Bool → ℕ
disposition_of ignored = if ignored then 1 else 0

-- the caller ignores the signal from now on, or is ended by it, and is told which it was before (POSIX signal)
abbrev pub signal : Script → Plain → ℕ → ℤ → ℤ → Answer
signal script plain pid which disposition =
    replied script
    (with_table plain (with_ignores plain.table pid (with_disposition (ignores_of plain.table pid) (count_of which) (sig_ign disposition))))
    pid (Val (pos (disposition_of (is_ignored (ignores_of plain.table pid) (count_of which)))))

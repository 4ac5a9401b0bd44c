-- The socket that a number of a process is open on, and what the machine answers then.
use Rattle.std.specs.Prelude.{ℕ, ◌≡◌, ℤ, Result, Ok, Err}
use Rattle.kabi_types.specs.declared.errnos.Errno.{Errno}
use Rattle.kabi_types.specs.declared.scripts.Script.{Script}
use Rattle.open_laws.specs.Placed.{Numbers}
use Rattle.posix_defs.specs.Answer.{Answer, failed}
use Rattle.posix_defs.specs.Calls.OnSockets.{on_socket}
use Rattle.posix_defs.specs.Calls.Opened.{Opened}
use Rattle.posix_defs.specs.Plain.{Plain}
use Rattle.proc_numbers.specs.declared.finding.OpenSocket.{OpenSocket}

-- The machine's answer of a call on a socket goes by the one that was found, and by whether its description waits; or it is this
-- fault.
abbrev pub FindsSocket : Numbers → Script → Plain → ℕ → ℤ → (Opened → ℕ → Answer) → Result OpenSocket Errno → Type 0
FindsSocket numbers script plain pid fd answer (Ok found) =
    (opened : Opened) × (on_socket script plain pid fd answer ≡ answer opened (numbers.socks found.key)) × (opened.is.nonblock ≡ found.nonblock)
FindsSocket numbers script plain pid fd answer (Err errno) = on_socket script plain pid fd answer ≡ failed script plain pid errno

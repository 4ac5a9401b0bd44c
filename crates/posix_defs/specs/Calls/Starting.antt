-- `exec`: a process starts a program from a file.
use Rattle.std.specs.Prelude.{ℕ, pos, List, Result, Ok, Err}
use Rattle.kabi_types.specs.declared.errnos.Errno.{Errno}
use Rattle.kabi_types.specs.declared.replies.Reply.TheVariants.{Val}
use Rattle.kabi_types.specs.declared.scripts.Script.{Script}
use Rattle.posix_defs.specs.Memory.{no_memory}
use Rattle.posix_defs.specs.Control as program
use Rattle.posix_defs.specs.PathCalls.{exec_path}
use Rattle.posix_defs.specs.Process.{directory_of}
use Rattle.posix_defs.specs.Plain.{Plain, control_of, with_control, with_files}
use Rattle.posix_defs.specs.Answer.{Answer, Done, failed}
use Rattle.posix_defs.specs.MemoryCalls.{remembered}
use Rattle.posix_defs.specs.Files.Closing.{after_exec_of}

-- the caller is at the beginning of a program, with the registers that it has, without memory and without the descriptors
-- that have FD_CLOEXEC; no register gets the reply
abbrev pub started : Script → Plain → ℕ → ℕ → Plain
started script plain pid place =
    with_control (with_files (remembered plain pid no_memory) (after_exec_of plain.files pid)) pid
    (program.restarted (program.settled script (control_of plain pid)) place)

-- the program starts, and 0 is the reply that no register gets; or the fault, behind which the old program goes on
abbrev pub starts : Script → Plain → ℕ → Result ℕ Errno → Answer
starts script plain pid (Ok place) = Done (Val (pos 0)) (started script plain pid place)
starts script plain pid (Err errno) = failed script plain pid errno

-- the program whose line the file begins with that a path leads to (POSIX exec)
unfoldable pub exec : Script → Plain → ℕ → List ℕ → Answer
exec script plain pid path = starts script plain pid (exec_path plain.files.tree (directory_of plain.table pid) path script.programs)

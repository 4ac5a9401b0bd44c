-- The plain machine: what there is of processes and files, with unlimited memory and no cache.
use Rattle.std.specs.Prelude.{ℕ, ◌+◌, pos, if◌then◌else◌, List, [], ◌∷◌, length, replicate, Some, unwrap_or, codes}
use Rattle.std.specs.Str.{bytes_eq}
use Rattle.kabi_types.specs.declared.calls.Call.{Call}
use Rattle.kabi_types.specs.declared.replies.Reply.{Reply}
use Rattle.kabi_types.specs.declared.scripts.Control.{Control}
use Rattle.kabi_types.specs.declared.scripts.Program.{Program}
use Rattle.kabi_types.specs.declared.scripts.Script.{Script}
use Rattle.posix_defs.specs.ByPid.{at_pid, with_pid}
use Rattle.posix_defs.specs.Memory.{no_memory}
use Rattle.posix_defs.specs.Process.{Table, Process, Alive, ignores_both}
use Rattle.posix_defs.specs.Control as program
use Rattle.posix_defs.specs.Files.State.{Files, boot_files}
pub use Rattle.posix_defs.specs.Tree.{root}

-- What the plain machine knows: the processes that are there, how far each program has come, and all of files.
pub record Plain : Type 0 where
  pub table : Table
  -- of each process ever made, also after it ended
  pub controls : List Control
  pub files : Files

-- the pid of the youngest process ever made
abbrev pub last_pid : Plain → ℕ
last_pid plain = length plain.controls

-- the machine with another table of processes
abbrev pub with_table : Plain → Table → Plain
with_table plain table = record plain { table = table }

-- the machine, where a process has another control
abbrev pub with_control : Plain → ℕ → Control → Plain
with_control plain pid control = record plain { controls = with_pid plain.controls pid control }

-- at the beginning of a program, all registers 0
abbrev pub at_start : ℕ → Control
at_start program = record { program = program; place = 0; regs = replicate 16 (pos 0); done = 0 }

-- the machine with other files
abbrev pub with_files : Plain → Files → Plain
with_files plain files = record plain { files = files }

-- a process's control
abbrev pub control_of : Plain → ℕ → Control
control_of plain pid = unwrap_or (at_pid plain.controls pid) (at_start 0)

-- the call that a process makes next
abbrev pub call_of : Script → Plain → ℕ → Call
call_of script plain pid = program.call_of script (control_of plain pid)

-- the process goes on behind its call
abbrev pub answered : Script → Plain → ℕ → Reply → Plain
answered script plain pid reply = with_control plain pid (program.after script (control_of plain pid) reply)

-- the place of the first program of that name
abbrev pub place_of : List ℕ → List Program → ℕ
place_of name [] = 0
place_of name (program ∷ programs) = if bytes_eq program.name name then 0 else place_of name programs + 1

-- the process that was not forked: it ignores SIGPIPE and SIGTERM, and so do its children until they say otherwise
abbrev pub first_process : Process
first_process = record { parent = 0; directory = root; status = Alive; memory = no_memory; ignores = ignores_both }

-- one process, at the beginning of the program `init`
abbrev pub boot_plain : Script → Plain
boot_plain script = record {
  table = Some first_process ∷ [];
  controls = at_start (place_of (codes "init") script.programs) ∷ [];
  files = boot_files script.disk;
}

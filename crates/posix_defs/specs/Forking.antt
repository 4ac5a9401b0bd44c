-- `fork`: a child that is what its parent is, and goes on where its parent does.
use Rattle.std.specs.Prelude.{ℕ, ◌+◌, pos, Bool, nat_le, ◌||◌, if◌then◌else◌, [], ◌∷◌, ◌++◌, Option, None, Some}
use Rattle.kabi_types.specs.declared.errnos.Errno.TheVariants.{EAGAIN}
use Rattle.kabi_types.specs.declared.replies.Reply.TheVariants.{Val}
use Rattle.kabi_types.specs.declared.scripts.Script.{Script}
use Rattle.posix_defs.specs.Process.{Process, how_many, process_at}
use Rattle.posix_defs.specs.Plain.{Plain, control_of, last_pid}
use Rattle.posix_defs.specs.Control as program
use Rattle.posix_defs.specs.Files.State.{with_heir}
use Rattle.posix_defs.specs.Answer.{Answer, failed, replied}

-- how many processes may be there, alive or ended and not waited for
abbrev pub most_processes : ℕ
most_processes = 64

-- the greatest pid that there is
abbrev pub greatest_pid : ℕ
greatest_pid = 4294967295

-- nobody more can be made
abbrev pub is_full : Plain → Bool
is_full plain = nat_le most_processes (how_many plain.table) || nat_le greatest_pid (last_pid plain)

-- a copy of a process, which is its child
abbrev pub child_of : ℕ → Option Process → Option Process
child_of parent None = None
child_of parent (Some process) = Some (record process { parent = parent })

-- the machine with a child of a process, which gets the next pid; its registers are those of its parent, and its own
-- call of `fork` gives 0; it has open what its parent has
abbrev pub with_child : Script → Plain → ℕ → Plain
with_child script plain pid = record plain {
  table = plain.table ++ child_of pid (process_at plain.table pid) ∷ [];
  controls = plain.controls ++ program.after script (control_of plain pid) (Val (pos 0)) ∷ [];
  files = with_heir plain.files pid;
}

-- the child's pid, or EAGAIN where nobody more can be made
abbrev pub fork : Script → Plain → ℕ → Answer
fork script plain pid =
    if is_full plain then failed script plain pid EAGAIN
    else replied script (with_child script plain pid) pid (Val (pos (last_pid plain + 1)))

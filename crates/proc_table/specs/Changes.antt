-- What becomes of the processes when one ends, is waited for, or loses its memory, and what each call answers.
use Rattle.std.specs.Prelude.{ℕ, ◌+◌, ◌==◌, ◌&&◌, ◌||◌, not, ℤ, Bool, true, false, nat_le, if◌then◌else◌, List, [], ◌∷◌, filter, map, Option, None, Some, is_some, Result, Ok, Err}
use Rattle.std.specs.List.{filter_map, list_any}
use Rattle.std.specs.Option.{option_map, option_or}
use Rattle.kabi_types.specs.Arguments.{count_of}
use Rattle.kabi_types.specs.declared.errnos.Errno.{Errno}
use Rattle.kabi_types.specs.declared.errnos.Errno.TheVariants.{EAGAIN, EPERM, ESRCH}
use Rattle.kheap_slabs.specs.declared.objects.Proc.{Proc}
use Rattle.posix_defs.specs.Forking.{greatest_pid, most_processes}
use Rattle.posix_defs.specs.Killing.{is_asking}
use Rattle.posix_defs.specs.Signals.{is_ignored}
use Rattle.posix_defs.specs.Waiting.{Exited, is_asked_for}
use Rattle.proc_table.specs.Procs.{ignored_by, no_nodes, proc_of}
use Rattle.proc_table.specs.declared.reaped.Reaped.{Reaped}
use Rattle.proc_table.specs.declared.reaped.Reaped.TheVariants.{NoChild, Nobody, Took}

-- a process other than the one of that pid
abbrev pub is_other : ℕ → Proc → Bool
is_other pid proc = not (proc.pid == pid)

-- the process of that pid has these nodes
abbrev pub with_nodes : ℕ → List (Option ℕ) → Proc → Proc
with_nodes pid nodes proc = if proc.pid == pid then record proc { nodes = nodes } else proc

-- the process of that pid has no memory any more
abbrev pub cleared : ℕ → Proc → Proc
cleared pid = with_nodes pid no_nodes

-- the process of that pid is this one now
abbrev pub replaced : ℕ → Proc → Proc → Proc
replaced pid now proc = if proc.pid == pid then now else proc

-- a child of a process, with this pid, these nodes and these Leaves; it sleeps in no open
abbrev pub child_proc : Proc → ℕ → List (Option ℕ) → List (Option ℕ) → Proc
child_proc parent pid nodes leaves = record parent { pid = pid; parent = parent.pid; opening = None; nodes = nodes; leaves = leaves }

-- a live child gets the first process as parent; one that has ended goes
abbrev pub left_child : Option ℕ → Proc → Option Proc
left_child None proc = Some (record proc { parent = 1 })
left_child (Some status) proc = None

-- what a process is after the one of that pid has ended, with this wait status, and left its children
abbrev pub left_behind : ℕ → ℕ → Proc → Option Proc
left_behind pid status proc =
    if proc.pid == pid then Some (record proc { status = Some status })
    else (if proc.parent == pid then left_child proc.status proc else Some proc)

-- the processes after the one of that pid has lost its memory, left its children and ended
abbrev pub left_by : ℕ → ℕ → List Proc → List Proc
left_by pid status procs = filter_map (left_behind pid status) (map (cleared pid) procs)

-- nobody is there to wait for who ends: it is the first process, or ends after it
abbrev pub is_alone : ℕ → List Proc → Bool
is_alone pid procs = (pid == 1) || not (is_some (proc_of procs 1))

-- the processes after the one of that pid has ended; it stays until its parent waits for it, if anybody may
abbrev pub ended : ℕ → ℕ → List Proc → List Proc
ended pid status procs =
    if is_alone pid procs then filter (is_other pid) (left_by pid status procs) else left_by pid status procs

-- the caller of `waitpid` asks for this child
abbrev pub is_wanted : ℕ → ℤ → Proc → Bool
is_wanted parent which proc = (proc.parent == parent) && is_asked_for which proc.pid

-- what is told of a process that has ended
abbrev pub exited : Proc → Option Exited
exited proc = option_map (λ status. record { pid = proc.pid; status = status }) proc.status

-- of the wanted children that have ended the first
abbrev pub told_of : ℕ → ℤ → List Proc → Option Exited
told_of parent which [] = None
told_of parent which (proc ∷ procs) =
    option_or (if is_wanted parent which proc then exited proc else None) (told_of parent which procs)

-- the child that is told; else whether one is there that may be waited for
abbrev pub reaped_as : Option Exited → Bool → Reaped
reaped_as (Some exited) wanted = Took exited.pid exited.status
reaped_as None true = Nobody
reaped_as None false = NoChild

-- what the parent is answered
abbrev pub reaped_of : ℕ → ℤ → List Proc → Reaped
reaped_of parent which procs = reaped_as (told_of parent which procs) (list_any (is_wanted parent which) procs)

-- the processes after the answer: who was told goes
abbrev pub after_wait : Reaped → List Proc → List Proc
after_wait (Took pid status) procs = filter (is_other pid) procs
after_wait Nobody procs = procs
after_wait NoChild procs = procs

-- nobody more can be made: as many are there as may be, or the last pid was given
abbrev pub is_full_at : ℕ → ℕ → Bool
is_full_at there last = nat_le most_processes there || nat_le greatest_pid last

-- the child's pid, the one behind the last; EAGAIN where nobody more can be made
abbrev pub forked_as : ℕ → ℕ → Result ℕ Errno
forked_as there last = if is_full_at there last then Err EAGAIN else Ok (last + 1)

-- a signal ends the process: it runs, and doesn't ignore it
abbrev pub is_ended_by : ℤ → Proc → Bool
is_ended_by signal proc = not (is_some proc.status) && not (is_ignored (ignored_by proc) (count_of signal))

-- whether a signal ends the process, if it is there
abbrev pub verdict : ℤ → Option Proc → Result Bool Errno
verdict signal None = Err ESRCH
verdict signal (Some proc) =
    if is_asking signal then Ok false else (if proc.pid == 1 then Err EPERM else Ok (is_ended_by signal proc))

-- The file in which places are asked for.
use Rattle.std.specs.Prelude.{ℕ, ℤ, if◌then◌else◌, is_none, Option, None, Some, Result, Ok, Err}
use Rattle.std.specs.Option.{option_and_then}
use Rattle.kabi_types.specs.Arguments.{argument_fault}
use Rattle.kabi_types.specs.declared.calls.Call.TheVariants as call
use Rattle.kabi_types.specs.declared.errnos.Errno.{Errno}
use Rattle.kabi_types.specs.declared.errnos.Errno.TheVariants.{EBADF, EINVAL}
use Rattle.kheap_slabs.specs.declared.objects.Target.{Target as HeldTarget}
use Rattle.kheap_slabs.specs.declared.objects.Target.TheVariants as held
use Rattle.kabi_types.specs.declared.ranges.Kind.{Kind}
use Rattle.lock_table.specs.Holding.{asked_by}
use Rattle.posix_defs.specs.Calls.OnLocks.{Wanted, claimed, file_of, request_of}
use Rattle.posix_defs.specs.Calls.Opened.{Opened}
use Rattle.posix_defs.specs.Files.State.{Files}
use Rattle.posix_defs.specs.Locks.{Request}
use Rattle.posix_defs.specs.Tree.{Tree, is_directory}
use Rattle.lock_calls.specs.declared.waits.Wanted.{Wanted as WantedHere}

-- the regular file that a target is, or why it is refused
abbrev pub file_or_fault : Option ℕ → Result ℕ Errno
file_or_fault None = Err EINVAL
file_or_fault (Some number) = Ok number

-- the regular file that is open, or why there is none: EBADF where nothing is open
abbrev pub file_by : Files → Option Opened → Result ℕ Errno
file_by files None = Err EBADF
file_by files (Some opened) = file_or_fault (file_of files.tree opened.is.target)

-- the file of a request by what is open
abbrev pub claimed_by : Files → Option Kind → Option Opened → Result ℕ Errno
claimed_by files kind None = Err EBADF
claimed_by files kind (Some opened) = claimed files opened kind

-- the number of a target that is a node
abbrev pub node_in : HeldTarget → Option ℕ
node_in (held.Inode number) = Some number
node_in (held.Pipe key) = None
node_in (held.Sock key) = None

-- what a `setlkw` with these operands asks for, where they are right
abbrev pub right_request : ℤ → ℤ → ℤ → ℤ → Option Request
right_request fd kind start length =
    if is_none (argument_fault (call.Setlkw fd kind start length)) then Some (request_of kind start length) else None

-- ---- what is wanted

-- where the node is a directory nobody may have what is wanted
abbrev pub wanted_in : Tree → WantedHere → Option Wanted
wanted_in tree wanted =
    if is_directory tree wanted.node then None else Some (record { node = wanted.node; asked = asked_by wanted.range })

-- the same, if anything is wanted
abbrev pub all_wanted : Tree → Option WantedHere → Option Wanted
all_wanted tree wanted = option_and_then (wanted_in tree) wanted

-- Machines without a FIFO, and what calls answer where there is none.
use Rattle.std.specs.Prelude.{ℕ, ◌≡◌, ◌||◌, ℤ, Bool, true, false, List, Option, None, Some, slice_get, Result, Ok, Err}
use Rattle.kabi_types.specs.Arguments.{argument_fault}
use Rattle.kabi_types.specs.declared.calls.Call.{Call}
use Rattle.kabi_types.specs.declared.calls.Call.TheVariants as calls
use Rattle.kabi_types.specs.declared.calls.CallKind.{CallKind}
use Rattle.kabi_types.specs.declared.calls.CallKind.TheVariants as kind
use Rattle.kabi_types.specs.declared.errnos.Errno.{Errno}
use Rattle.kabi_types.specs.declared.errnos.Errno.TheVariants.{EACCES, EMFILE}
use Rattle.kabi_types.specs.declared.scripts.Program.{Program}
use Rattle.kabi_types.specs.declared.replies.NodeKind.TheVariants as kinds
use Rattle.kabi_types.specs.declared.replies.Reply.TheVariants.{Stat}
use Rattle.kabi_types.specs.declared.replies.StatInfo.{StatInfo}
use Rattle.kabi_types.specs.declared.scripts.Script.{Script}
use Rattle.kabi_types.specs.declared.scripts.Statement.{Statement}
use Rattle.kabi_types.specs.declared.scripts.Statement.TheVariants as statement
use Rattle.posix_defs.specs.Answer.{Answer, failed, replied}
use Rattle.posix_defs.specs.Machine.{answer_to, unless_wrong}
use Rattle.posix_defs.specs.PathCalls.{bytes_in, is_fifo, is_socket, node_led, open_path, program_of, stat_info, unless}
use Rattle.posix_defs.specs.Paths.{resolve}
use Rattle.posix_defs.specs.Plain.{Plain}
use Rattle.posix_defs.specs.Process.{directory_of}
use Rattle.posix_defs.specs.Tree.{Tree, is_directory, node_at}
use Rattle.posix_defs.specs.Files.Descriptors.{lowest_free}
use Rattle.posix_defs.specs.Files.Descriptions.{Target, OnNode, OnPipe, OnSocket}
use Rattle.posix_defs.specs.Files.State.{Files, descriptors_of, node_of, opening_at}
use Rattle.posix_defs.specs.Calls.Opened.{on_open}
use Rattle.posix_defs.specs.Calls.OnFiles.{open_node, opening_of, without_node}
use Rattle.posix_defs.specs.Calls.Starting.{starts}

-- the call is named `mkfifo`
abbrev pub is_mkfifo : CallKind → Bool
is_mkfifo kind.Mkfifo = true
is_mkfifo _ = false

-- the statement makes a call of that name
abbrev pub calls_mkfifo : Statement → Bool
calls_mkfifo (statement.Invoke which operands texts first second) = is_mkfifo which
calls_mkfifo _ = false

-- no statement of the script's programs does
abbrev pub LacksMkfifo : Script → Type 0
LacksMkfifo script =
    (number place : ℕ) (program : Program) (here : Statement) → slice_get script.programs number ≡ Some program
    → slice_get program.body place ≡ Some here → calls_mkfifo here ≡ false

-- There is no FIFO: no node is one, no pipe is one's, and nobody waits for the other side of one.
pub record HasNoFifo (files : Files) : Type 0 where
  pub tree : (number : ℕ) → is_fifo files.tree number ≡ false
  pub pipes : (place : ℕ) → node_of files (OnPipe place) ≡ None
  pub openings : (pid : ℕ) → opening_at files pid ≡ None

-- the node of what a description is open on, where no pipe has one
abbrev pub node_before : Target → Option ℕ
node_before (OnNode number) = Some number
node_before (OnPipe place) = None
node_before (OnSocket place) = None

-- the descriptor names what was opened, which is no FIFO; or the fault of the path
abbrev pub opened_before : Script → Plain → ℕ → ℤ → ℕ → Result (ℕ × Tree) Errno → Answer
opened_before script plain pid flags fd (Ok there) = open_node script plain pid flags fd there.0 there.1
opened_before script plain pid flags fd (Err errno) = failed script plain pid errno

-- an open by the descriptor that is free, which never waits
abbrev pub open_before : Script → Plain → ℕ → List ℕ → ℤ → Option ℕ → Answer
open_before script plain pid path flags None = failed script plain pid EMFILE
open_before script plain pid path flags (Some fd) =
    opened_before script plain pid flags fd (open_path plain.files.tree (directory_of plain.table pid) path (opening_of flags))

-- what fstat tells: of a pipe only that it is one
abbrev pub info_before : Tree → Target → StatInfo
info_before tree (OnNode number) = stat_info tree number
info_before tree (OnPipe place) = without_node kinds.Pipe
info_before tree (OnSocket place) = without_node kinds.Sock

-- the program that an exec starts of the file that was found: EACCES for a directory and a socket's name alone
abbrev pub program_before : Tree → List Program → Result ℕ Errno → Result ℕ Errno
program_before tree programs (Ok number) =
    unless (is_directory tree number || is_socket tree number) EACCES (program_of programs (bytes_in (node_at tree number)))
program_before tree programs (Err errno) = Err errno

-- what calls answer where nothing is a FIFO
abbrev pub answer_without : Script → Plain → ℕ → Call → Answer
answer_without script plain pid (calls.OpenFile path flags) = open_before script plain pid path flags (lowest_free (descriptors_of plain.files pid))
answer_without script plain pid (calls.Fstat fd) =
    on_open script plain pid fd (λ opened. replied script plain pid (Stat (info_before plain.files.tree opened.is.target)))
answer_without script plain pid (calls.Exec path) =
    starts script plain pid (program_before plain.files.tree script.programs (node_led (resolve plain.files.tree (directory_of plain.table pid) path)))
answer_without script plain pid call = answer_to script plain pid call

-- the same, a wrong operand told first
abbrev pub machine_without : Script → Plain → ℕ → Call → Answer
machine_without script plain pid call = unless_wrong script plain pid (argument_fault call) (answer_without script plain pid call)

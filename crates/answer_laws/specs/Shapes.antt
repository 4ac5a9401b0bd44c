-- The shapes of answers: what a call does to processes, whatever it does to files.
use Rattle.std.specs.Prelude.{ℕ, ◌≡◌, ◌≢◌, ◌+◌, ℤ, pos, Bool, true, false, List, take, Ok, Option, None, Some}
use Rattle.kabi_types.specs.Arguments.{count_of}
use Rattle.kabi_types.specs.declared.calls.Call.{Call}
use Rattle.kabi_types.specs.declared.calls.Call.TheVariants as calls
use Rattle.kabi_types.specs.declared.errnos.Errno.{Errno}
use Rattle.kabi_types.specs.declared.errnos.Errno.TheVariants.{ENOMEM}
use Rattle.kabi_types.specs.declared.replies.Reply.{Reply}
use Rattle.kabi_types.specs.declared.replies.Reply.TheVariants.{Val, Waited}
use Rattle.kabi_types.specs.declared.scripts.Script.{Script}
use Rattle.posix_defs.specs.Memory.{Memory, stored, with_pages, without_pages}
use Rattle.posix_defs.specs.MemoryCalls.{remembered}
use Rattle.posix_defs.specs.PathCalls.{enter_path, is_fifo, list_node, open_path, read_node}
use Rattle.posix_defs.specs.Process.{Ignores, directory_of, is_alive, memory_of, with_directory, with_ignores}
use Rattle.posix_defs.specs.Plain.{Plain, last_pid, with_files, with_table}
use Rattle.posix_defs.specs.Answer.{Answer, Blocked, Done, Ended, failed, replied}
use Rattle.posix_defs.specs.Ending.{die}
use Rattle.posix_defs.specs.Forking.{with_child}
use Rattle.posix_defs.specs.Waiting.{reaped}
use Rattle.posix_defs.specs.Reaching.{is_reply}
use Rattle.posix_defs.specs.Sockets.{socket_at}
use Rattle.posix_defs.specs.Tree.{Tree}
use Rattle.posix_defs.specs.Files.Descriptors.{lowest_free}
use Rattle.posix_defs.specs.Files.State.{Files, descriptors_of, opening_at, pipe_at}
use Rattle.posix_defs.specs.Files.Whole.{is_queue}
use Rattle.posix_defs.specs.Calls.Opened.{Opened, opened_at}
use Rattle.posix_defs.specs.Calls.OnFiles.{end_awaits, fifo_fault, fifo_pipe, fifo_waits, opening_of}
use Rattle.posix_defs.specs.Calls.Writing.{did_part}
use Rattle.posix_defs.specs.Calls.Starting.{started}

-- the calls that may block
abbrev pub may_block : Call → Bool
may_block (calls.OpenFile path flags) = true
may_block (calls.Waitpid which options) = true
may_block (calls.Read fd addr n) = true
may_block (calls.Write fd addr n done) = true
may_block (calls.Accept fd) = true
may_block (calls.Poll timeout entries) = true
may_block (calls.Setlkw fd kind start size) = true
may_block _ = false

-- Bytes that a call reads are some of a pipe, of a socket, of a file, or of the entries of a directory.
pub data AreRead (files : Files) (bytes : List ℕ) : Type 0 where
  of_pipe : (place k : ℕ) → bytes ≡ take k (pipe_at files place).bytes → AreRead files bytes
  of_socket : (place k : ℕ) → bytes ≡ take k (socket_at files.sockets place).bytes → AreRead files bytes
  of_file : (number at n : ℕ) → bytes ≡ read_node files.tree number at n → AreRead files bytes
  of_directory : (number at n : ℕ) → bytes ≡ list_node files.tree number at n → AreRead files bytes

-- What a call leaves in its caller's memory: pages are mapped, or aren't any more; or bytes are put there, the operand's of a
-- `store`, or those that were read.
pub data IsPut (plain : Plain) (pid : ℕ) (call : Call) (memory : Memory) : Type 0 where
  maps : (first count : ℕ) → memory ≡ with_pages (memory_of plain.table pid) first count → IsPut plain pid call memory
  unmaps : (first count : ℕ) → memory ≡ without_pages (memory_of plain.table pid) first count → IsPut plain pid call memory
  stores : (addr : ℤ) (bytes : List ℕ) → call ≡ calls.Store addr bytes → memory ≡ stored (memory_of plain.table pid) (count_of addr) bytes → IsPut plain pid call memory
  reads : (addr : ℤ) (bytes : List ℕ) → AreRead plain.files bytes → memory ≡ stored (memory_of plain.table pid) (count_of addr) bytes → IsPut plain pid call memory

-- A write to a pipe or a socket does a part of it: who has what open, and on what, stays.
pub record IsPart (plain : Plain) (pid : ℕ) (call : Call) (files : Files) : Type 0 where
  pub fd : ℤ
  pub addr : ℤ
  pub n : ℤ
  pub done : ℕ
  pub opened : Opened
  pub which : call ≡ calls.Write fd addr n done
  pub named : opened_at plain.files pid fd ≡ Some opened
  pub queue : is_queue opened.is.target ≡ true
  pub descriptors : files.descriptors ≡ plain.files.descriptors
  pub descriptions : files.descriptions ≡ plain.files.descriptions

-- An open of a FIFO whose other side has no end makes its own, which the lowest descriptor that was free names, and waits.
pub record IsBegun (plain : Plain) (pid : ℕ) (call : Call) (files : Files) : Type 0 where
  pub path : List ℕ
  pub flags : ℤ
  pub fd : ℕ
  pub there : ℕ × Tree
  pub which : call ≡ calls.OpenFile path flags
  pub begins : opening_at plain.files pid ≡ None
  pub free : lowest_free (descriptors_of plain.files pid) ≡ Some fd
  pub led : open_path plain.files.tree (directory_of plain.table pid) path (opening_of flags) ≡ Ok there
  pub fifo : is_fifo there.1 there.0 ≡ true
  pub right : fifo_fault (fifo_pipe plain.files there.0) flags ≡ None
  pub waits : fifo_waits (fifo_pipe plain.files there.0) flags ≡ true
  pub is : files ≡ end_awaits plain.files pid flags fd there.0

-- An answer to a call has one of these shapes.
pub data HasShape (script : Script) (plain : Plain) (pid : ℕ) (call : Call) (answer : Answer) : Type 0 where
  -- the call would block
  blocks : may_block call ≡ true → answer ≡ Blocked → HasShape script plain pid call answer
  -- it fails, and changes its caller's control alone
  fails : (errno : Errno) → errno ≢ ENOMEM → answer ≡ failed script plain pid errno → HasShape script plain pid call answer
  -- it replies, and of the processes its caller's control alone changes
  tells : (files : Files) (reply : Reply) → is_reply reply ≡ true → answer ≡ replied script (with_files plain files) pid reply
      → HasShape script plain pid call answer
  -- it replies, and its caller has something else in memory
  puts : (files : Files) (memory : Memory) (reply : Reply) → is_reply reply ≡ true → IsPut plain pid call memory
      → answer ≡ replied script (remembered (with_files plain files) pid memory) pid reply → HasShape script plain pid call answer
  -- its caller works in another directory
  moves : (path : List ℕ) (directory : ℕ) → call ≡ calls.Chdir path → enter_path plain.files.tree (directory_of plain.table pid) path ≡ Ok directory
      → answer ≡ replied script (with_table plain (with_directory plain.table pid directory)) pid (Val (pos 0))
      → HasShape script plain pid call answer
  -- its caller ignores other signals than before
  disposes : (signal disposition : ℤ) (ignores : Ignores) (before : ℕ) → call ≡ calls.Signal signal disposition
      → answer ≡ replied script (with_table plain (with_ignores plain.table pid ignores)) pid (Val (pos before)) → HasShape script plain pid call answer
  -- a part of a write was done
  parts : (files : Files) (moved : ℕ) → IsPart plain pid call files → answer ≡ did_part (with_files plain files) pid moved → HasShape script plain pid call answer
  -- an open of a FIFO waits for the other side
  awaits : (files : Files) → IsBegun plain pid call files → answer ≡ did_part (with_files plain files) pid 1 → HasShape script plain pid call answer
  -- its caller starts a program
  starts : (place : ℕ) → answer ≡ Done (Val (pos 0)) (started script plain pid place) → HasShape script plain pid call answer
  -- its caller has a child
  forks : answer ≡ replied script (with_child script plain pid) pid (Val (pos (last_pid plain + 1))) → HasShape script plain pid call answer
  -- a child goes that has ended
  reaps : (child status : ℕ) → is_alive plain.table child ≡ false → answer ≡ replied script (reaped plain child) pid (Waited child status) → HasShape script plain pid call answer
  -- its caller ends
  ends : (status : ℕ) → answer ≡ Ended status (die plain pid status) → HasShape script plain pid call answer
  -- another live process ends, which isn't the first
  ends_another : (target : ℕ) (signal : ℤ) → call ≡ calls.Kill (pos target) signal → target ≢ 1 → target ≢ pid → is_alive plain.table target ≡ true
      → answer ≡ replied script (die plain target (count_of signal)) pid (Val (pos 0)) → HasShape script plain pid call answer

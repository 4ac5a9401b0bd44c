-- Calls that move bytes leave who is whose child, and who works where.
use Rattle.std.proofs.Common.{ℕ, ◌+◌, ◌-◌, ◌==◌, ℤ, pos, Bool, true, false, cond, List, length, take, Option, None, Some, Result, Ok, Err, refl}
use Rattle.kabi_types.specs.Arguments.{count_of}
use Rattle.kabi_types.specs.declared.errnos.Errno.{Errno}
use Rattle.kabi_types.specs.declared.errnos.Errno.TheVariants.{EBADF, EFAULT, EISDIR, ENOTCONN, ENOTDIR, ESPIPE}
use Rattle.kabi_types.specs.declared.replies.Reply.{Reply}
use Rattle.kabi_types.specs.declared.replies.Reply.TheVariants.{Fail, Val}
use Rattle.kabi_types.specs.declared.scripts.Script.{Script}
use Rattle.kern_laws.proofs.Remembering.{remembers_family}
use Rattle.posix_defs.specs.Answer.{Answer, replied}
use Rattle.posix_defs.specs.Calls.Opened.{Opened, answer_on, if_readable, if_writable, opened_at}
use Rattle.posix_defs.specs.Calls.Reading.{is_directory_target, list_target, of_bytes, pread, pread_target, put, read, read_from_pipe, read_from_socket, read_target, readdir, unless_directory}
use Rattle.posix_defs.specs.Calls.Writing.{bytes_left, did_part, place_of_write, put_in_pipe, put_in_socket, pwrite, pwrite_target, write_ignoring, write_queue, write_target, wrote, wrote_at}
use Rattle.posix_defs.specs.Files.Descriptions.{Target, OnNode, OnPipe, OnSocket, at_offset, may_read, may_write}
use Rattle.posix_defs.specs.Files.State.{Files, described_as, pipe_at, with_pipe, with_sockets, with_tree}
use Rattle.posix_defs.specs.Memory.{Memory, is_mapped_range, stored}
use Rattle.posix_defs.specs.PathCalls.{list_node, read_node}
use Rattle.posix_defs.specs.Pipe.{Moving, Moves, Blocks, Fails, after_read, pipe_read, pipe_write}
use Rattle.posix_defs.specs.Plain.{Plain, with_files}
use Rattle.posix_defs.specs.Process.{memory_of}
use Rattle.posix_defs.specs.Socket.{is_connected}
use Rattle.posix_defs.specs.Sockets.{after_read as socket_after_read, sock_read, sock_write, socket_at, stage_at}
use Rattle.posix_defs.specs.Tree.{Tree, is_directory}
use Rattle.posix_defs.specs.TreeChanges.{write as tree_write}
use Rattle.store_objects.proofs.WorkingOn.{works_remembered}
use Rattle.store_objects.specs.FileWorlds.{LeavesKin}

module _ (script : Script) (plain : Plain) (pid : ℕ) where
  abbrev Left : Answer → Type 0
  Left answer = LeavesKin plain answer

  choose : (b : Bool) (one two : Answer) → Left one → Left two → Left (cond b one two)
  choose true one two first second = first
  choose false one two first second = second

  -- what is told alone
  tells : (reply : Reply) → Left (replied script plain pid reply)
  tells reply = record { family = λ is. is; works = refl }

  -- and with it what changes files
  tells_with : (files : Files) (reply : Reply) → Left (replied script (with_files plain files) pid reply)
  tells_with files reply = record { family = λ is. is; works = refl }

  -- and what puts bytes in memory
  puts : (files : Files) (addr : ℤ) (bytes : List ℕ) → Left (put script (with_files plain files) pid addr bytes)
  puts files addr bytes =
      let memory : Memory = stored (memory_of plain.table pid) (count_of addr) bytes in
      record { family = λ is. remembers_family plain.table pid memory is; works = works_remembered plain.table pid memory }

  -- an answer that moves bytes of memory
  moves : (addr n : ℤ) (answer : Answer) → Left answer → Left (of_bytes script plain pid addr n answer)
  moves addr n answer left =
      choose (is_mapped_range (memory_of plain.table pid) (count_of addr) (count_of n)) _ _
      (choose (count_of n == 0) _ _ (tells (Val (pos 0))) left) (tells (Fail EFAULT))

  -- ---- reading

  from_pipe : (place : ℕ) (addr : ℤ) (moving : Moving) → Left (read_from_pipe script plain pid place addr moving)
  from_pipe place addr (Moves k) =
      let pipe = pipe_at plain.files place in
      puts (with_pipe plain.files place (Some (after_read pipe k))) addr (take k pipe.bytes)
  from_pipe place addr Blocks = tt
  from_pipe place addr (Fails errno) = tells (Fail errno)

  from_socket : (place : ℕ) (addr : ℤ) (moving : Moving) → Left (read_from_socket script plain pid place addr moving)
  from_socket place addr (Moves k) =
      puts (with_sockets plain.files (socket_after_read plain.files.sockets place k)) addr (take k (socket_at plain.files.sockets place).bytes)
  from_socket place addr Blocks = tt
  from_socket place addr (Fails errno) = tells (Fail errno)

  read_kin_target : (opened : Opened) (addr : ℤ) (n : ℕ) (on : Target) → Left (read_target script plain pid opened addr n on)
  read_kin_target opened addr n (OnNode number) =
      let bytes = read_node plain.files.tree number opened.is.offset n in
      puts (described_as plain.files opened.place (at_offset opened.is (opened.is.offset + length bytes))) addr bytes
  read_kin_target opened addr n (OnPipe place) = from_pipe place addr (pipe_read (pipe_at plain.files place) opened.is.nonblock n)
  read_kin_target opened addr n (OnSocket place) = from_socket place addr (sock_read plain.files.sockets place opened.is.nonblock n)

  pub read_kin : (fd addr n : ℤ) → Left (read script plain pid fd addr n)
  unfolding read
  read_kin fd addr n = by_opened (opened_at plain.files pid fd)
    where
      by_opened : (o : Option Opened)
          → Left (answer_on script plain pid
          (λ opened. if_readable script plain pid opened
          (unless_directory script plain pid opened
          (of_bytes script plain pid addr n (read_target script plain pid opened addr (count_of n) opened.is.target)))) o)
      by_opened None = tells (Fail EBADF)
      by_opened (Some opened) =
          choose (may_read opened.is.access) _ _
          (choose (is_directory_target plain.files.tree opened.is.target) _ _ (tells (Fail EISDIR))
          (moves addr n (read_target script plain pid opened addr (count_of n) opened.is.target) (read_kin_target opened addr (count_of n) opened.is.target)))
          (tells (Fail EBADF))

  pread_kin_target : (addr n : ℤ) (at : ℕ) (on : Target) → Left (pread_target script plain pid addr n at on)
  pread_kin_target addr n at (OnNode number) =
      choose (is_directory plain.files.tree number) _ _ (tells (Fail EISDIR))
      (moves addr n (put script plain pid addr (read_node plain.files.tree number at (count_of n))) (puts plain.files addr (read_node plain.files.tree number at (count_of n))))
  pread_kin_target addr n at (OnPipe place) = tells (Fail ESPIPE)
  pread_kin_target addr n at (OnSocket place) = tells (Fail ESPIPE)

  pub pread_kin : (fd addr n at : ℤ) → Left (pread script plain pid fd addr n at)
  unfolding pread
  pread_kin fd addr n at = by_opened (opened_at plain.files pid fd)
    where
      by_opened : (o : Option Opened)
          → Left (answer_on script plain pid
          (λ opened. if_readable script plain pid opened (pread_target script plain pid addr n (count_of at) opened.is.target)) o)
      by_opened None = tells (Fail EBADF)
      by_opened (Some opened) = choose (may_read opened.is.access) _ _ (pread_kin_target addr n (count_of at) opened.is.target) (tells (Fail EBADF))

  list_kin_target : (opened : Opened) (addr n : ℤ) (on : Target) → Left (list_target script plain pid opened addr n on)
  list_kin_target opened addr n (OnNode number) =
      let bytes = list_node plain.files.tree number opened.is.offset (count_of n) in
      choose (is_directory plain.files.tree number) _ _
      (choose (is_mapped_range (memory_of plain.table pid) (count_of addr) (count_of n)) _ _
      (puts (described_as plain.files opened.place (at_offset opened.is (opened.is.offset + length bytes))) addr bytes) (tells (Fail EFAULT)))
      (tells (Fail ENOTDIR))
  list_kin_target opened addr n (OnPipe place) = tells (Fail ENOTDIR)
  list_kin_target opened addr n (OnSocket place) = tells (Fail ENOTDIR)

  pub readdir_kin : (fd addr n : ℤ) → Left (readdir script plain pid fd addr n)
  unfolding readdir
  readdir_kin fd addr n = by_opened (opened_at plain.files pid fd)
    where
      by_opened : (o : Option Opened) → Left (answer_on script plain pid (λ opened. list_target script plain pid opened addr n opened.is.target) o)
      by_opened None = tells (Fail EBADF)
      by_opened (Some opened) = list_kin_target opened addr n opened.is.target

  -- ---- writing

  to_file : (opened : Opened) (at : ℕ) (written : Result (ℕ × Tree) Errno) → Left (wrote script plain pid opened at written)
  to_file opened at (Ok written) =
      tells_with (described_as (with_tree plain.files written.1) opened.place (at_offset opened.is (at + written.0))) (Val (pos written.0))
  to_file opened at (Err errno) = tells (Fail errno)

  to_queue : (nonblock : Bool) (n done : ℕ) (next : ℕ → Files) (moving : Moving) → Left (write_queue script plain pid nonblock n done next moving)
  to_queue nonblock n done next (Moves k) =
      choose (k == n - done) _ _ (tells_with (next k) (Val (pos n)))
      (choose nonblock _ (did_part (with_files plain (next k)) pid k) (tells_with (next k) (Val (pos (done + k)))) tt)
  to_queue nonblock n done next Blocks = tt
  to_queue nonblock n done next (Fails errno) = choose (done == 0) _ _ (tells (Fail errno)) (tells (Val (pos done)))

  write_kin_target : (opened : Opened) (addr : ℤ) (n done : ℕ) (on : Target) → Left (write_target script plain pid opened addr n done on)
  write_kin_target opened addr n done (OnNode number) =
      let at = place_of_write plain.files.tree opened number in
      to_file opened at (tree_write plain.files.tree number at (bytes_left plain pid addr n done))
  write_kin_target opened addr n done (OnPipe place) =
      to_queue opened.is.nonblock n done (put_in_pipe plain.files place (bytes_left plain pid addr n done)) (pipe_write (pipe_at plain.files place) opened.is.nonblock n (n - done))
  write_kin_target opened addr n done (OnSocket place) =
      choose (is_connected (stage_at plain.files.sockets place)) _ _
      (to_queue opened.is.nonblock n done (put_in_socket plain.files place (bytes_left plain pid addr n done)) (sock_write plain.files.sockets place opened.is.nonblock (n - done)))
      (tells (Fail ENOTCONN))

  pub write_kin : (fd addr n : ℤ) (done : ℕ) → Left (write_ignoring script plain pid fd addr n done)
  unfolding write_ignoring
  write_kin fd addr n done = by_opened (opened_at plain.files pid fd)
    where
      by_opened : (o : Option Opened)
          → Left (answer_on script plain pid
          (λ opened. if_writable script plain pid opened
          (of_bytes script plain pid addr n (write_target script plain pid opened addr (count_of n) done opened.is.target))) o)
      by_opened None = tells (Fail EBADF)
      by_opened (Some opened) =
          choose (may_write opened.is.access) _ _
          (moves addr n (write_target script plain pid opened addr (count_of n) done opened.is.target) (write_kin_target opened addr (count_of n) done opened.is.target))
          (tells (Fail EBADF))

  to_place : (written : Result (ℕ × Tree) Errno) → Left (wrote_at script plain pid written)
  to_place (Ok written) = tells_with (with_tree plain.files written.1) (Val (pos written.0))
  to_place (Err errno) = tells (Fail errno)

  pwrite_kin_target : (addr n : ℤ) (at : ℕ) (on : Target) → Left (pwrite_target script plain pid addr n at on)
  pwrite_kin_target addr n at (OnNode number) =
      let written = tree_write plain.files.tree number at (bytes_left plain pid addr (count_of n) 0) in
      choose (is_directory plain.files.tree number) _ _ (tells (Fail EISDIR)) (moves addr n (wrote_at script plain pid written) (to_place written))
  pwrite_kin_target addr n at (OnPipe place) = tells (Fail ESPIPE)
  pwrite_kin_target addr n at (OnSocket place) = tells (Fail ESPIPE)

  pub pwrite_kin : (fd addr n at : ℤ) → Left (pwrite script plain pid fd addr n at)
  unfolding pwrite
  pwrite_kin fd addr n at = by_opened (opened_at plain.files pid fd)
    where
      by_opened : (o : Option Opened)
          → Left (answer_on script plain pid
          (λ opened. if_writable script plain pid opened (pwrite_target script plain pid addr n (count_of at) opened.is.target)) o)
      by_opened None = tells (Fail EBADF)
      by_opened (Some opened) = choose (may_write opened.is.access) _ _ (pwrite_kin_target addr n (count_of at) opened.is.target) (tells (Fail EBADF))

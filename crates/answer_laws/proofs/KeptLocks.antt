-- Calls that leave the locks of files, call by call.
use Rattle.std.proofs.Common.{Bool, Err, List, None, Ok, Option, Result, Some, ℕ, ℤ, ◌&&◌, ◌+ℤ◌, ◌+◌, ◌-◌, ◌==◌, ◌≡◌, cond, false, is_some, length, nat_lt, negsuc, pos, refl, suc, true, zero}
use Rattle.kabi_types.specs.Arguments.{count_of, is_minus_one}
use Rattle.kabi_types.specs.declared.calls.Call.{Call}
use Rattle.kabi_types.specs.declared.calls.Call.TheVariants as call
use Rattle.kabi_types.specs.declared.errnos.Errno.{Errno}
use Rattle.kabi_types.specs.declared.errnos.Errno.TheVariants as errno
use Rattle.kabi_types.specs.declared.replies.Reply.TheVariants as reply
use Rattle.kabi_types.specs.declared.replies.StatInfo.{StatInfo}
use Rattle.kabi_types.specs.declared.scripts.Script.{Script}
use Rattle.posix_defs.specs.Answer as answer
use Rattle.posix_defs.specs.Answer.{Answer, failed, replied}
use Rattle.posix_defs.specs.Forking.{fork, is_full}
use Rattle.posix_defs.specs.Machine.{answer_to}
use Rattle.posix_defs.specs.Memory.{is_mapped_range, lowest_run}
use Rattle.posix_defs.specs.MemoryCalls.{in_range, mapped_from, mmap}
use Rattle.posix_defs.specs.Needs.{pages_in}
use Rattle.posix_defs.specs.Pipe.{Moving, Pipe, pipe_read, pipe_write, with_end}
use Rattle.posix_defs.specs.Pipe as pipes
use Rattle.posix_defs.specs.Plain.{Plain, with_files}
use Rattle.posix_defs.specs.Process.{directory_of, memory_of}
use Rattle.posix_defs.specs.Socket.{Accepting, accept as accept_in, bind_fault, connect_fault, is_connected, listen_fault, shutdown_fault}
use Rattle.posix_defs.specs.Socket as socket
use Rattle.posix_defs.specs.Sockets.{after_listen, after_shut, is_refused, sock_read, sock_write, socket_at, stage_at}
use Rattle.posix_defs.specs.PathCalls.{bind_path, enter_path, find_socket, is_fifo, link_path, mkdir_path, mkfifo_path, open_path, rename_path, rmdir_path, stat_path, unlink_path}
use Rattle.posix_defs.specs.Tree.{Tree, is_directory}
use Rattle.posix_defs.specs.TreeChanges.{resize, write as tree_write}
use Rattle.posix_defs.specs.Waiting.{Exited, any_from, exited_from, is_nohang, waited_for, waitpid}
use Rattle.posix_defs.specs.Files.Descriptors.{Two, lowest_free, lowest_free_from, two_lowest_free}
use Rattle.posix_defs.specs.Files.Descriptions.{OnNode, OnPipe, OnSocket, Target, access_of, may_read, may_write}
use Rattle.posix_defs.specs.Files.State.{Files, HalfOpen, descriptors_of, opening_at, opens, pipe_at}
use Rattle.posix_defs.specs.Calls.Opened.{Opened, answer_on, if_readable, if_writable, on_open, opened_at}
use Rattle.posix_defs.specs.Calls.OnDescriptors.{controlled, dup, duplicated, fcntl}
use Rattle.posix_defs.specs.Calls.Reading.{is_directory_target, list_target, of_bytes, pread, pread_target, read, read_from_pipe, read_from_socket, read_target, readdir}
use Rattle.posix_defs.specs.Calls.Writing.{bytes_left, did_part, place_of_write, put_in_socket, pwrite, pwrite_target, write, write_ignoring, write_queue, write_target, wrote, wrote_at}
use Rattle.posix_defs.specs.Calls.OnFiles.{end_awaits, end_opened, fifo_at, fifo_fault, fifo_pipe, fifo_there, fifo_waits, fstat, ftruncate, greatest_offset, is_between_entries, is_met, lseek, open_at, open_by, open_end, open_fifo, open_file, open_node, opened_node_as, opening_of, origin, resized_to, seek_target, seek_to, truncate_target, with_fifo}
use Rattle.posix_defs.specs.Calls.OnNames.{chdir, freed_in, is_busy, link, made_node, mkdir, mkfifo, rename, retreed, rmdir, stat, told_of, unlink, works_from}
use Rattle.posix_defs.specs.Calls.OnPipes.{pipe, piped_under}
use Rattle.posix_defs.specs.Calls.OnSockets.{accept, accepted_under, bind, bound_to, connect, connected_by, connected_under, listen, listener_under, on_socket, paired_under, resocketed, shutdown, socket_target, socketed_under, socketpair, unless_fault}
use Rattle.posix_defs.specs.Calls.OnSockets as on_sockets
use Rattle.posix_defs.specs.Calls.OnLocks.{file_of, getlk, request_of}
use Rattle.posix_defs.specs.Calls.OnLocks as on_locks
use Rattle.posix_defs.specs.Calls.Polling.{hits_of, poll, revents_of}
use Rattle.posix_defs.proofs.SignalLemmas.{of_write}
use Rattle.answer_laws.specs.KeptLocks.{LeavesLocks, keeps_locks}

module _ (script : Script) (plain : Plain) (pid : ℕ) where
  -- an answer leaves the locks
  abbrev Left : Answer → Type 0
  Left given = LeavesLocks plain given

  either : (b : Bool) (one two : Answer) → Left one → Left two → Left (cond b one two)
  either true one two this that = this
  either false one two this that = that

  -- ---- what a descriptor is open on

  opens_left : (fd : ℤ) (given : Opened → Answer) → ((opened : Opened) → Left (given opened)) → Left (on_open script plain pid fd given)
  opens_left fd given each = go (opened_at plain.files pid fd)
    where
      go : (o : Option Opened) → Left (answer_on script plain pid given o)
      go None = refl
      go (Some opened) = each opened

  readable : (opened : Opened) (given : Answer) → Left given → Left (if_readable script plain pid opened given)
  readable opened given rest = either (may_read opened.is.access) given (failed script plain pid errno.EBADF) rest refl

  writable : (opened : Opened) (given : Answer) → Left given → Left (if_writable script plain pid opened given)
  writable opened given rest = either (may_write opened.is.access) given (failed script plain pid errno.EBADF) rest refl

  ranged : (addr : ℤ) (n : ℕ) (given : Answer) → Left given → Left (in_range script plain pid addr n given)
  ranged addr n given rest = either (is_mapped_range (memory_of plain.table pid) (count_of addr) n) given (failed script plain pid errno.EFAULT) rest refl

  bytes_left_so : (addr n : ℤ) (given : Answer) → Left given → Left (of_bytes script plain pid addr n given)
  bytes_left_so addr n given rest = ranged addr (count_of n) _ (either (count_of n == 0) (replied script plain pid (reply.Val (pos 0))) given refl rest)

  -- ---- descriptors

  shares : (opened : Opened) (o : Option ℕ) → Left (duplicated script plain pid opened o)
  shares opened None = refl
  shares opened (Some fd) = refl

  dups : (fd : ℤ) → Left (dup script plain pid fd)
  unfolding dup
  dups fd = opens_left fd _ (λ opened. shares opened (lowest_free (descriptors_of plain.files pid)))

  controls : (fd cmd arg : ℤ) → Left (fcntl script plain pid fd cmd arg)
  unfolding fcntl
  controls fd cmd arg = opens_left fd _ (λ opened. go opened (count_of cmd))
    where
      go : (opened : Opened) (number : ℕ) → Left (controlled script plain pid (count_of fd) number arg opened)
      go opened zero = shares opened (lowest_free_from (descriptors_of plain.files pid) (count_of arg))
      go opened (suc zero) = refl
      go opened (suc (suc zero)) = refl
      go opened (suc (suc (suc zero))) = refl
      go opened (suc (suc (suc (suc zero)))) = refl
      go opened (suc (suc (suc (suc (suc n))))) = refl

  -- ---- reads

  pipe_reads : (place : ℕ) (addr : ℤ) (moving : Moving) → Left (read_from_pipe script plain pid place addr moving)
  pipe_reads place addr (pipes.Moves k) = refl
  pipe_reads place addr pipes.Blocks = tt
  pipe_reads place addr (pipes.Fails e) = refl

  socket_reads : (place : ℕ) (addr : ℤ) (moving : Moving) → Left (read_from_socket script plain pid place addr moving)
  socket_reads place addr (pipes.Moves k) = refl
  socket_reads place addr pipes.Blocks = tt
  socket_reads place addr (pipes.Fails e) = refl

  target_reads : (opened : Opened) (addr : ℤ) (n : ℕ) (target : Target) → Left (read_target script plain pid opened addr n target)
  target_reads opened addr n (OnNode number) = refl
  target_reads opened addr n (OnPipe place) = pipe_reads place addr (pipe_read (pipe_at plain.files place) opened.is.nonblock n)
  target_reads opened addr n (OnSocket place) = socket_reads place addr (sock_read plain.files.sockets place opened.is.nonblock n)

  reads : (fd addr n : ℤ) → Left (read script plain pid fd addr n)
  unfolding read
  reads fd addr n = opens_left fd _ (λ opened.
      readable opened _
      (either (is_directory_target plain.files.tree opened.is.target) (failed script plain pid errno.EISDIR) _ refl
      (bytes_left_so addr n _ (target_reads opened addr (count_of n) opened.is.target))))

  preads : (fd addr n at : ℤ) → Left (pread script plain pid fd addr n at)
  unfolding pread
  preads fd addr n at = opens_left fd _ (λ opened. readable opened _ (go opened.is.target))
    where
      go : (target : Target) → Left (pread_target script plain pid addr n (count_of at) target)
      go (OnNode number) = either (is_directory plain.files.tree number) (failed script plain pid errno.EISDIR) _ refl (bytes_left_so addr n _ refl)
      go (OnPipe place) = refl
      go (OnSocket place) = refl

  lists : (fd addr n : ℤ) → Left (readdir script plain pid fd addr n)
  unfolding readdir
  lists fd addr n = opens_left fd _ (λ opened. go opened opened.is.target)
    where
      go : (opened : Opened) (target : Target) → Left (list_target script plain pid opened addr n target)
      go opened (OnNode number) = either (is_directory plain.files.tree number) _ (failed script plain pid errno.ENOTDIR) (ranged addr (count_of n) _ refl) refl
      go opened (OnPipe place) = refl
      go opened (OnSocket place) = refl

  -- ---- writes

  queue_writes : (nonblock : Bool) (n done : ℕ) (next : ℕ → Files) (moving : Moving) → ((k : ℕ) → (next k).locks ≡ plain.files.locks) → Left (write_queue script plain pid nonblock n done next moving)
  queue_writes nonblock n done next (pipes.Moves k) same = either (k == n - done) _ _ (same k) (either nonblock _ _ (same k) (same k))
  queue_writes nonblock n done next pipes.Blocks same = tt
  queue_writes nonblock n done next (pipes.Fails e) same = either (done == 0) (failed script plain pid e) (replied script plain pid (reply.Val (pos done))) refl refl

  target_writes : (opened : Opened) (addr : ℤ) (n done : ℕ) (target : Target) → Left (write_target script plain pid opened addr n done target)
  target_writes opened addr n done (OnNode number) = go (tree_write plain.files.tree number (place_of_write plain.files.tree opened number) (bytes_left plain pid addr n done))
    where
      go : (r : Result (ℕ × Tree) Errno) → Left (wrote script plain pid opened (place_of_write plain.files.tree opened number) r)
      go (Ok written) = refl
      go (Err e) = refl
  target_writes opened addr n done (OnPipe place) = queue_writes opened.is.nonblock n done _ (pipe_write (pipe_at plain.files place) opened.is.nonblock n (n - done)) (λ k. refl)
  target_writes opened addr n done (OnSocket place) =
      either (is_connected (stage_at plain.files.sockets place)) _ (failed script plain pid errno.ENOTCONN)
      (queue_writes opened.is.nonblock n done (put_in_socket plain.files place (bytes_left plain pid addr n done)) (sock_write plain.files.sockets place opened.is.nonblock (n - done)) (λ k. refl)) refl

  -- of a write that doesn't end its caller
  pub ignoring_leaves : (fd addr n : ℤ) (done : ℕ) → LeavesLocks plain (write_ignoring script plain pid fd addr n done)
  unfolding write_ignoring
  ignoring_leaves fd addr n done = opens_left fd _ (λ opened. writable opened _ (bytes_left_so addr n _ (target_writes opened addr (count_of n) done opened.is.target)))

  writes : (fd addr n : ℤ) (done : ℕ) → Left (write script plain pid fd addr n done)
  writes fd addr n done = of_write script plain pid fd addr n done Left (λ ends. tt) (λ goes. ignoring_leaves fd addr n done)

  pwrites : (fd addr n at : ℤ) → Left (pwrite script plain pid fd addr n at)
  unfolding pwrite
  pwrites fd addr n at = opens_left fd _ (λ opened. writable opened _ (go opened.is.target))
    where
      wrote_there : (r : Result (ℕ × Tree) Errno) → Left (wrote_at script plain pid r)
      wrote_there (Ok written) = refl
      wrote_there (Err e) = refl

      go : (target : Target) → Left (pwrite_target script plain pid addr n (count_of at) target)
      go (OnNode number) =
          either (is_directory plain.files.tree number) (failed script plain pid errno.EISDIR) _ refl
          (bytes_left_so addr n _ (wrote_there (tree_write plain.files.tree number (count_of at) (bytes_left plain pid addr (count_of n) 0))))
      go (OnPipe place) = refl
      go (OnSocket place) = refl

  -- ---- files

  fifo_locks : (at : Option ℕ) (pipe : Pipe) → (with_fifo plain.files at pipe).locks ≡ plain.files.locks
  fifo_locks None pipe = refl
  fifo_locks (Some place) pipe = refl

  end_locks : (flags : ℤ) (fd number : ℕ) → (end_opened plain.files pid flags fd number).locks ≡ plain.files.locks
  end_locks flags fd number = fifo_locks (fifo_at plain.files number) (with_end (fifo_there plain.files number (fifo_at plain.files number)) (may_write (access_of flags)))

  -- of an open, whether its caller sleeps in one or not
  pub open_leaves : (path : List ℕ) (flags : ℤ) (waits : Option HalfOpen) → LeavesLocks plain (open_by script plain pid path flags waits)
  open_leaves path flags (Some opening) = either (is_met plain.files pid opening) _ answer.Blocked refl tt
  open_leaves path flags None = at (lowest_free (descriptors_of plain.files pid))
    where
      ends : (fd : ℕ) (found : ℕ × Tree) (fault : Option Errno) → Left (open_end script plain pid flags fd found.0 fault)
      ends fd found (Some e) = refl
      ends fd found None =
          either (fifo_waits (fifo_pipe plain.files found.0) flags) (did_part (with_files plain (end_awaits plain.files pid flags fd found.0)) pid 1)
          (replied script (with_files plain (end_opened plain.files pid flags fd found.0)) pid (reply.Val (pos fd))) (end_locks flags fd found.0) (end_locks flags fd found.0)

      there : (fd : ℕ) (r : Result (ℕ × Tree) Errno) → Left (opened_node_as script plain pid flags fd r)
      there fd (Ok found) = either (is_fifo found.1 found.0) (open_fifo script plain pid flags fd found.0) (open_node script plain pid flags fd found.0 found.1) (ends fd found (fifo_fault (fifo_pipe plain.files found.0) flags)) refl
      there fd (Err e) = refl

      at : (o : Option ℕ) → Left (open_at script plain pid path flags o)
      at None = refl
      at (Some fd) = there fd (open_path plain.files.tree (directory_of plain.table pid) path (opening_of flags))

  opens_file : (path : List ℕ) (flags : ℤ) → Left (open_file script plain pid path flags)
  unfolding open_file
  opens_file path flags = open_leaves path flags (opening_at plain.files pid)

  seeks : (fd offset whence : ℤ) → Left (lseek script plain pid fd offset whence)
  unfolding lseek
  seeks fd offset whence = opens_left fd _ (λ opened. go opened opened.is.target)
    where
      at : (opened : Opened) (number : ℕ) (place : ℤ) → Left (seek_to script plain pid opened number place)
      at opened number (negsuc n) = refl
      at opened number (pos place) =
          either (nat_lt greatest_offset place) (failed script plain pid errno.EOVERFLOW) _ refl
          (either (is_between_entries plain.files.tree number place) (failed script plain pid errno.EINVAL) _ refl refl)

      go : (opened : Opened) (target : Target) → Left (seek_target script plain pid opened offset (count_of whence) target)
      go opened (OnNode number) = at opened number (pos (origin plain.files.tree opened number (count_of whence)) +ℤ offset)
      go opened (OnPipe place) = refl
      go opened (OnSocket place) = refl

  truncates : (fd size : ℤ) → Left (ftruncate script plain pid fd size)
  unfolding ftruncate
  truncates fd size = opens_left fd _ (λ opened. go opened opened.is.target)
    where
      sized : (r : Result Tree Errno) → Left (resized_to script plain pid r)
      sized (Ok tree) = refl
      sized (Err e) = refl

      go : (opened : Opened) (target : Target) → Left (truncate_target script plain pid opened (count_of size) target)
      go opened (OnNode number) =
          either (is_directory plain.files.tree number) (failed script plain pid errno.EINVAL) _ refl (writable opened _ (sized (resize plain.files.tree number (count_of size))))
      go opened (OnPipe place) = refl
      go opened (OnSocket place) = refl

  fstats : (fd : ℤ) → Left (fstat script plain pid fd)
  unfolding fstat
  fstats fd = opens_left fd _ (λ opened. refl)

  -- ---- names

  stats : (path : List ℕ) → Left (stat script plain pid path)
  unfolding stat
  stats path = go (stat_path plain.files.tree (directory_of plain.table pid) path)
    where
      go : (r : Result StatInfo Errno) → Left (told_of script plain pid r)
      go (Ok info) = refl
      go (Err e) = refl

  enters : (path : List ℕ) → Left (chdir script plain pid path)
  unfolding chdir
  enters path = go (enter_path plain.files.tree (directory_of plain.table pid) path)
    where
      go : (r : Result ℕ Errno) → Left (works_from script plain pid r)
      go (Ok number) = refl
      go (Err e) = refl

  trees_told : (r : Result Tree Errno) → Left (retreed script plain pid r)
  trees_told (Ok tree) = refl
  trees_told (Err e) = refl

  made : (r : Result (ℕ × Tree) Errno) → Left (made_node script plain pid r)
  made (Ok it) = refl
  made (Err e) = refl

  frees : (r : Result (Option ℕ × Tree) Errno) → Left (freed_in script plain pid r)
  frees (Ok left) = refl
  frees (Err e) = refl

  makes : (path : List ℕ) → Left (mkdir script plain pid path)
  unfolding mkdir
  makes path = made (mkdir_path plain.files.tree (directory_of plain.table pid) path)

  makes_fifo : (path : List ℕ) → Left (mkfifo script plain pid path)
  unfolding mkfifo
  makes_fifo path = made (mkfifo_path plain.files.tree (directory_of plain.table pid) path)

  removes : (path : List ℕ) → Left (rmdir script plain pid path)
  unfolding rmdir
  removes path = trees_told (rmdir_path plain.files.tree (directory_of plain.table pid) path (is_busy plain))

  links : (old new : List ℕ) → Left (link script plain pid old new)
  unfolding link
  links old new = trees_told (link_path plain.files.tree (directory_of plain.table pid) old new)

  unlinks : (path : List ℕ) → Left (unlink script plain pid path)
  unfolding unlink
  unlinks path = frees (unlink_path plain.files.tree (directory_of plain.table pid) path (opens plain.files))

  renames : (old new : List ℕ) → Left (rename script plain pid old new)
  unfolding rename
  renames old new = frees (rename_path plain.files.tree (directory_of plain.table pid) old new (opens plain.files) (is_busy plain))

  -- ---- pipes and sockets

  pipes_left : Left (pipe script plain pid)
  unfolding pipe
  pipes_left = go (two_lowest_free (descriptors_of plain.files pid))
    where
      go : (o : Option Two) → Left (piped_under script plain pid o)
      go None = refl
      go (Some two) = refl

  sockets_left : Left (on_sockets.socket script plain pid)
  unfolding on_sockets.socket
  sockets_left = go (lowest_free (descriptors_of plain.files pid))
    where
      go : (o : Option ℕ) → Left (socketed_under script plain pid o)
      go None = refl
      go (Some fd) = refl

  pairs_left : Left (socketpair script plain pid)
  unfolding socketpair
  pairs_left = go (two_lowest_free (descriptors_of plain.files pid))
    where
      go : (o : Option Two) → Left (paired_under script plain pid o)
      go None = refl
      go (Some two) = refl

  socket_left : (fd : ℤ) (given : Opened → ℕ → Answer) → ((opened : Opened) (place : ℕ) → Left (given opened place)) → Left (on_socket script plain pid fd given)
  socket_left fd given each = opens_left fd _ (λ opened. go opened opened.is.target)
    where
      go : (opened : Opened) (target : Target) → Left (socket_target script plain pid (given opened) target)
      go opened (OnNode number) = refl
      go opened (OnPipe place) = refl
      go opened (OnSocket place) = each opened place

  without_fault : (fault : Option Errno) (given : Answer) → Left given → Left (unless_fault script plain pid fault given)
  without_fault None given rest = rest
  without_fault (Some e) given rest = refl

  binds : (fd : ℤ) (path : List ℕ) → Left (bind script plain pid fd path)
  unfolding bind
  binds fd path = socket_left fd _ (λ opened place.
      without_fault (bind_fault (socket_at plain.files.sockets place)) _ (go place (bind_path plain.files.tree (directory_of plain.table pid) path)))
    where
      go : (place : ℕ) (r : Result (ℕ × Tree) Errno) → Left (bound_to script plain pid place r)
      go place (Ok made) = refl
      go place (Err e) = refl

  listens_left : (fd : ℤ) → Left (listen script plain pid fd)
  unfolding listen
  listens_left fd = socket_left fd _ (λ opened place. without_fault (listen_fault (socket_at plain.files.sockets place)) (resocketed script plain pid (after_listen plain.files.sockets place)) refl)

  shuts : (fd how : ℤ) → Left (shutdown script plain pid fd how)
  unfolding shutdown
  shuts fd how = socket_left fd _ (λ opened place.
      without_fault (shutdown_fault (stage_at plain.files.sockets place)) (resocketed script plain pid (after_shut plain.files.sockets place how)) refl)

  connects : (fd : ℤ) (path : List ℕ) → Left (connect script plain pid fd path)
  unfolding connect
  connects fd path = socket_left fd _ (λ opened place.
      without_fault (connect_fault (stage_at plain.files.sockets place)) _ (go place (find_socket plain.files.tree (directory_of plain.table pid) path)))
    where
      under : (place : ℕ) (o : Option ℕ) → Left (connected_under script plain pid place o)
      under place None = refl
      under place (Some listener) = either (is_refused plain.files.sockets (Some listener)) (failed script plain pid errno.ECONNREFUSED) _ refl refl

      go : (place : ℕ) (r : Result (Option ℕ) Errno) → Left (connected_by script plain pid place r)
      go place (Ok number) = under place (listener_under plain.files.sockets number)
      go place (Err e) = refl

  accepts : (fd : ℤ) → Left (accept script plain pid fd)
  unfolding accept
  accepts fd = socket_left fd _ (λ opened place.
      let free = lowest_free (descriptors_of plain.files pid) in go place free (accept_in (stage_at plain.files.sockets place) (is_some free) opened.is.nonblock))
    where
      go : (listener : ℕ) (o : Option ℕ) (accepting : Accepting) → Left (accepted_under script plain pid listener o accepting)
      go listener (Some fd) (socket.Takes taken) = refl
      go listener None (socket.Takes taken) = refl
      go listener None socket.Waits = tt
      go listener (Some fd) socket.Waits = tt
      go listener None (socket.Refuses e) = refl
      go listener (Some fd) (socket.Refuses e) = refl

  polls : (timeout : ℤ) (entries : _) → Left (poll script plain pid timeout entries)
  unfolding poll
  polls timeout entries = either ((hits_of (revents_of plain.files pid entries) == 0) && is_minus_one timeout) answer.Blocked _ tt refl

  tells_lock : (fd kind start size : ℤ) → Left (getlk script plain pid fd kind start size)
  unfolding getlk
  tells_lock fd kind start size = opens_left fd _ (λ opened. go (file_of plain.files.tree opened.is.target))
    where
      go : (o : Option ℕ) → Left (on_locks.told_of script plain pid (request_of kind start size) o)
      go None = refl
      go (Some number) = refl

  -- ---- processes and memory

  forks_left : Left (fork script plain pid)
  forks_left = either (is_full plain) (failed script plain pid errno.EAGAIN) _ refl refl

  waits : (which options : ℤ) → Left (waitpid script plain pid which options)
  waits which options = go (exited_from pid which 1 plain.table)
    where
      go : (o : Option Exited) → Left (waited_for script plain pid which options o)
      go None = either (any_from pid which 1 plain.table) _ (failed script plain pid errno.ECHILD)
          (either (is_nohang options) (replied script plain pid (reply.Val (pos 0))) answer.Blocked refl tt) refl
      go (Some exited) = refl

  maps : (size : ℤ) → Left (mmap script plain pid size)
  maps size = go (lowest_run (memory_of plain.table pid) (pages_in (count_of size)))
    where
      go : (o : Option ℕ) → Left (mapped_from script plain pid (pages_in (count_of size)) o)
      go None = refl
      go (Some at) = refl

  -- ---- every call that closes nothing, ends no other process, and neither holds nor lets go

  pub leaves_locks : (which : Call) → keeps_locks which ≡ true → LeavesLocks plain (answer_to script plain pid which)
  leaves_locks call.Getpid keeps = refl
  leaves_locks call.Getppid keeps = refl
  leaves_locks call.SchedYield keeps = refl
  leaves_locks call.Fork keeps = forks_left
  leaves_locks (call.Exec path) keeps = absurd (cc)
  leaves_locks (call.Exit status) keeps = tt
  leaves_locks (call.Waitpid which options) keeps = waits which options
  leaves_locks (call.Kill target signal) keeps = absurd (cc)
  leaves_locks (call.Mmap size) keeps = maps size
  leaves_locks (call.Munmap addr size) keeps = refl
  leaves_locks (call.Store addr bytes) keeps = ranged addr (length bytes) _ refl
  leaves_locks (call.Load addr n) keeps = ranged addr (count_of n) _ refl
  leaves_locks (call.OpenFile path flags) keeps = opens_file path flags
  leaves_locks (call.Close fd) keeps = absurd (cc)
  leaves_locks (call.Dup fd) keeps = dups fd
  leaves_locks (call.Dup2 fd to) keeps = absurd (cc)
  leaves_locks (call.Fcntl fd cmd arg) keeps = controls fd cmd arg
  leaves_locks (call.Read fd addr n) keeps = reads fd addr n
  leaves_locks (call.Write fd addr n done) keeps = writes fd addr n done
  leaves_locks (call.Pread fd addr n at) keeps = preads fd addr n at
  leaves_locks (call.Pwrite fd addr n at) keeps = pwrites fd addr n at
  leaves_locks (call.Lseek fd offset whence) keeps = seeks fd offset whence
  leaves_locks (call.Readdir fd addr n) keeps = lists fd addr n
  leaves_locks (call.Ftruncate fd size) keeps = truncates fd size
  leaves_locks (call.Fstat fd) keeps = fstats fd
  leaves_locks (call.Stat path) keeps = stats path
  leaves_locks (call.Chdir path) keeps = enters path
  leaves_locks (call.Mkdir path) keeps = makes path
  leaves_locks (call.Rmdir path) keeps = removes path
  leaves_locks (call.Unlink path) keeps = unlinks path
  leaves_locks (call.Link old new) keeps = links old new
  leaves_locks (call.Rename old new) keeps = renames old new
  leaves_locks call.Pipe keeps = pipes_left
  leaves_locks call.Socket keeps = sockets_left
  leaves_locks call.Socketpair keeps = pairs_left
  leaves_locks (call.Bind fd path) keeps = binds fd path
  leaves_locks (call.Listen fd) keeps = listens_left fd
  leaves_locks (call.Connect fd path) keeps = connects fd path
  leaves_locks (call.Accept fd) keeps = accepts fd
  leaves_locks (call.Shutdown fd how) keeps = shuts fd how
  leaves_locks (call.Poll timeout entries) keeps = polls timeout entries
  leaves_locks (call.Signal which disposition) keeps = refl
  leaves_locks (call.Mkfifo path) keeps = makes_fifo path
  leaves_locks (call.Setlk fd kind start size) keeps = absurd (cc)
  leaves_locks (call.Setlkw fd kind start size) keeps = absurd (cc)
  leaves_locks (call.Getlk fd kind start size) keeps = tells_lock fd kind start size

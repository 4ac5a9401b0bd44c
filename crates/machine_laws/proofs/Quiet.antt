-- The calls that put nothing in memory and neither make, start nor end a process: of processes their caller's control alone changes.
use Rattle.std.proofs.Common.{◌≡◌, ℕ, zero, suc, ◌-◌, ◌==◌, ◌&&◌, nat_lt, ℤ, pos, negsuc, ◌+ℤ◌, Bool, true, false, cond, List, Option, None, Some, Result, Ok, Err}
use Rattle.kabi_types.specs.Arguments.{count_of, is_minus_one, may_be_descriptor}
use Rattle.kabi_types.specs.declared.calls.Call.{Call}
use Rattle.kabi_types.specs.declared.calls.Call.TheVariants as call
use Rattle.kabi_types.specs.declared.errnos.Errno.{Errno}
use Rattle.kabi_types.specs.declared.errnos.Errno.TheVariants as errno
use Rattle.kabi_types.specs.declared.replies.Reply.{Reply}
use Rattle.kabi_types.specs.declared.replies.Reply.TheVariants as reply
use Rattle.kabi_types.specs.declared.replies.StatInfo.{StatInfo}
use Rattle.kabi_types.specs.declared.scripts.Script.{Script}
use Rattle.posix_defs.specs.Answer as answer
use Rattle.posix_defs.specs.Answer.{Answer, failed, replied}
use Rattle.posix_defs.specs.Locks.{Request}
use Rattle.posix_defs.specs.Machine.{answer_to}
use Rattle.posix_defs.specs.Memory.{is_mapped_range}
use Rattle.posix_defs.specs.MemoryCalls.{in_range}
use Rattle.posix_defs.specs.Pipe.{Moving}
use Rattle.posix_defs.specs.Pipe as pipes
use Rattle.posix_defs.specs.Plain.{Plain, with_files}
use Rattle.posix_defs.specs.Process.{directory_of, memory_of}
use Rattle.posix_defs.specs.Socket.{Accepting, is_connected}
use Rattle.posix_defs.specs.Socket as socket
use Rattle.posix_defs.specs.Sockets.{stage_at, is_refused}
use Rattle.posix_defs.specs.PathCalls.{is_fifo, open_path}
use Rattle.posix_defs.specs.Tree.{Tree, is_directory}
use Rattle.posix_defs.specs.Files.Descriptors.{Two, lowest_free, lowest_free_from, two_lowest_free}
use Rattle.posix_defs.specs.Files.Descriptions.{Target, OnNode, OnPipe, OnSocket, may_read, may_write}
use Rattle.posix_defs.specs.Files.State.{Files, HalfOpen, descriptors_of, opening_at}
use Rattle.posix_defs.specs.Calls.Opened.{Opened, answer_on, if_readable, if_writable, on_open, opened_at}
use Rattle.posix_defs.specs.Calls.OnDescriptors.{close, controlled, dup, dup2, duplicated, duplicated_to, fcntl}
use Rattle.posix_defs.specs.Calls.Reading.{of_bytes}
use Rattle.posix_defs.specs.Calls.Writing.{bytes_left, did_part, place_of_write, put_in_socket, pwrite, pwrite_target, stopped, write_ignoring, write_queue, write_target, wrote, wrote_at}
use Rattle.posix_defs.specs.Calls.OnFiles.{fifo_fault, fifo_pipe, fifo_waits, fstat, ftruncate, greatest_offset, is_between_entries, is_met, lseek, open_at, open_by, open_end, open_file, opened_node_as, opening_of, origin, resized_to, seek_target, seek_to, truncate_target}
use Rattle.posix_defs.specs.Calls.OnNames.{freed_in, link, made_node, mkdir, mkfifo, rename, retreed, rmdir, stat, told_of, unlink}
use Rattle.posix_defs.specs.Calls.OnPipes.{pipe, piped_under}
use Rattle.posix_defs.specs.Calls.OnSockets.{accept, accepted_under, bind, bound_to, connect, connected_by, connected_under, listen, listener_under, on_socket, paired_under, shutdown, socket_target, socketed_under, socketpair, unless_fault}
use Rattle.posix_defs.specs.Calls.OnSockets as on_sockets
use Rattle.posix_defs.specs.Calls.OnLocks.{circles, file_of, getlk, granted_or, is_clear, request_of, setlk, setlkw}
use Rattle.posix_defs.specs.Calls.OnLocks as on_locks
use Rattle.posix_defs.specs.Calls.Polling.{hits_of, poll, revents_of}

-- An answer leaves the table of processes.
pub data Told (script : Script) (plain : Plain) (pid : ℕ) : Answer → Type 0 where
  blocks : Told script plain pid answer.Blocked
  fails : (e : Errno) → Told script plain pid (failed script plain pid e)
  tells : (files : Files) (said : Reply) → Told script plain pid (replied script (with_files plain files) pid said)
  parts : (files : Files) (moved : ℕ) → Told script plain pid (did_part (with_files plain files) pid moved)

-- the calls that leave it
abbrev pub is_quiet : Call → Bool
is_quiet call.Fork = false
is_quiet (call.Exec path) = false
is_quiet (call.Exit status) = false
is_quiet (call.Waitpid which options) = false
is_quiet (call.Kill target signal) = false
is_quiet (call.Mmap size) = false
is_quiet (call.Munmap addr size) = false
is_quiet (call.Store addr bytes) = false
is_quiet (call.Read fd addr n) = false
is_quiet (call.Pread fd addr n at) = false
is_quiet (call.Readdir fd addr n) = false
is_quiet (call.Write fd addr n done) = false
is_quiet (call.Chdir path) = false
is_quiet (call.Signal which disposition) = false
is_quiet _ = true

module _ (script : Script) (plain : Plain) (pid : ℕ) where
  says : (said : Reply) → Told script plain pid (replied script plain pid said)
  says said = tells plain.files said

  either : (b : Bool) (one two : Answer) → Told script plain pid one → Told script plain pid two → Told script plain pid (cond b one two)
  either true one two this that = this
  either false one two this that = that

  -- ---- what a descriptor is open on

  opens_told : (fd : ℤ) (given : Opened → Answer) → ((opened : Opened) → Told script plain pid (given opened)) → Told script plain pid (on_open script plain pid fd given)
  opens_told fd given each = go (opened_at plain.files pid fd)
    where
      go : (o : Option Opened) → Told script plain pid (answer_on script plain pid given o)
      go None = fails errno.EBADF
      go (Some opened) = each opened

  readable : (opened : Opened) (given : Answer) → Told script plain pid given → Told script plain pid (if_readable script plain pid opened given)
  readable opened given rest = either (may_read opened.is.access) given (failed script plain pid errno.EBADF) rest (fails errno.EBADF)

  writable : (opened : Opened) (given : Answer) → Told script plain pid given → Told script plain pid (if_writable script plain pid opened given)
  writable opened given rest = either (may_write opened.is.access) given (failed script plain pid errno.EBADF) rest (fails errno.EBADF)

  ranged : (addr : ℤ) (n : ℕ) (given : Answer) → Told script plain pid given → Told script plain pid (in_range script plain pid addr n given)
  ranged addr n given rest =
      either (is_mapped_range (memory_of plain.table pid) (count_of addr) n) given (failed script plain pid errno.EFAULT) rest (fails errno.EFAULT)

  bytes_said : (addr n : ℤ) (given : Answer) → Told script plain pid given → Told script plain pid (of_bytes script plain pid addr n given)
  bytes_said addr n given rest =
      ranged addr (count_of n) _ (either (count_of n == 0) (replied script plain pid (reply.Val (pos 0))) given (says (reply.Val (pos 0))) rest)

  -- ---- descriptors

  closes : (fd : ℤ) → Told script plain pid (close script plain pid fd)
  unfolding close
  closes fd = opens_told fd _ (λ opened. tells _ (reply.Val (pos 0)))

  shares : (opened : Opened) (o : Option ℕ) → Told script plain pid (duplicated script plain pid opened o)
  shares opened None = fails errno.EMFILE
  shares opened (Some fd) = tells _ (reply.Val (pos fd))

  dups : (fd : ℤ) → Told script plain pid (dup script plain pid fd)
  unfolding dup
  dups fd = opens_told fd _ (λ opened. shares opened (lowest_free (descriptors_of plain.files pid)))

  dups_to : (fd to : ℤ) → Told script plain pid (dup2 script plain pid fd to)
  unfolding dup2
  dups_to fd to = opens_told fd _ (λ opened.
      either (may_be_descriptor to) (duplicated_to script plain pid opened (count_of fd) (count_of to)) (failed script plain pid errno.EBADF)
      (either (count_of fd == count_of to) (replied script plain pid (reply.Val (pos (count_of to)))) _ (says _) (tells _ _))
      (fails errno.EBADF))

  controls : (fd cmd arg : ℤ) → Told script plain pid (fcntl script plain pid fd cmd arg)
  unfolding fcntl
  controls fd cmd arg = opens_told fd _ (λ opened. go opened (count_of cmd))
    where
      go : (opened : Opened) (number : ℕ) → Told script plain pid (controlled script plain pid (count_of fd) number arg opened)
      go opened zero = shares opened (lowest_free_from (descriptors_of plain.files pid) (count_of arg))
      go opened (suc zero) = says _
      go opened (suc (suc zero)) = tells _ _
      go opened (suc (suc (suc zero))) = says _
      go opened (suc (suc (suc (suc zero)))) = tells _ _
      go opened (suc (suc (suc (suc (suc n))))) = fails errno.EINVAL

  -- ---- writes

  stops : (done : ℕ) (e : Errno) → Told script plain pid (stopped script plain pid done e)
  stops done e = either (done == 0) (failed script plain pid e) (replied script plain pid (reply.Val (pos done))) (fails e) (says _)

  queue_writes : (nonblock : Bool) (n done : ℕ) (next : ℕ → Files) (moving : Moving)
      → Told script plain pid (write_queue script plain pid nonblock n done next moving)
  queue_writes nonblock n done next (pipes.Moves k) =
      either (k == n - done) _ _ (tells _ _) (either nonblock _ _ (tells _ _) (parts (next k) k))
  queue_writes nonblock n done next pipes.Blocks = blocks
  queue_writes nonblock n done next (pipes.Fails e) = stops done e

  target_writes : (opened : Opened) (addr : ℤ) (n done : ℕ) (target : Target)
      → Told script plain pid (write_target script plain pid opened addr n done target)
  target_writes opened addr n done (OnNode number) = go _
    where
      go : (r : Result (ℕ × Tree) Errno) → Told script plain pid (wrote script plain pid opened (place_of_write plain.files.tree opened number) r)
      go (Ok written) = tells _ _
      go (Err e) = fails e
  target_writes opened addr n done (OnPipe place) = queue_writes opened.is.nonblock n done _ _
  target_writes opened addr n done (OnSocket place) =
      either (is_connected (stage_at plain.files.sockets place)) _ (failed script plain pid errno.ENOTCONN)
      (queue_writes opened.is.nonblock n done (put_in_socket plain.files place (bytes_left plain pid addr n done)) _) (fails errno.ENOTCONN)

  -- a write that doesn't end its caller leaves it too
  pub writes_told : (fd addr n : ℤ) (done : ℕ) → Told script plain pid (write_ignoring script plain pid fd addr n done)
  unfolding write_ignoring
  writes_told fd addr n done = opens_told fd _ (λ opened. writable opened _ (bytes_said addr n _ (target_writes opened addr (count_of n) done opened.is.target)))

  pwrites : (fd addr n at : ℤ) → Told script plain pid (pwrite script plain pid fd addr n at)
  unfolding pwrite
  pwrites fd addr n at = opens_told fd _ (λ opened. writable opened _ (go opened.is.target))
    where
      wrote_there : (r : Result (ℕ × Tree) Errno) → Told script plain pid (wrote_at script plain pid r)
      wrote_there (Ok written) = tells _ _
      wrote_there (Err e) = fails e

      go : (target : Target) → Told script plain pid (pwrite_target script plain pid addr n (count_of at) target)
      go (OnNode number) =
          either (is_directory plain.files.tree number) (failed script plain pid errno.EISDIR) _ (fails errno.EISDIR)
          (bytes_said addr n _ (wrote_there _))
      go (OnPipe place) = fails errno.ESPIPE
      go (OnSocket place) = fails errno.ESPIPE

  -- ---- files

  opens_file : (path : List ℕ) (flags : ℤ) → Told script plain pid (open_file script plain pid path flags)
  unfolding open_file
  opens_file path flags = begins (opening_at plain.files pid)
    where
      end : (fd number : ℕ) (fault : Option Errno) → Told script plain pid (open_end script plain pid flags fd number fault)
      end fd number (Some e) = fails e
      end fd number None = either (fifo_waits (fifo_pipe plain.files number) flags) _ _ (parts _ 1) (tells _ _)

      there : (fd : ℕ) (r : Result (ℕ × Tree) Errno) → Told script plain pid (opened_node_as script plain pid flags fd r)
      there fd (Ok found) = either (is_fifo found.1 found.0) _ _ (end fd found.0 (fifo_fault (fifo_pipe plain.files found.0) flags)) (tells _ _)
      there fd (Err e) = fails e

      go : (o : Option ℕ) → Told script plain pid (open_at script plain pid path flags o)
      go None = fails errno.EMFILE
      go (Some fd) = there fd (open_path plain.files.tree (directory_of plain.table pid) path (opening_of flags))

      begins : (o : Option HalfOpen) → Told script plain pid (open_by script plain pid path flags o)
      begins None = go (lowest_free (descriptors_of plain.files pid))
      begins (Some opening) = either (is_met plain.files pid opening) _ _ (tells _ _) blocks

  seeks : (fd offset whence : ℤ) → Told script plain pid (lseek script plain pid fd offset whence)
  unfolding lseek
  seeks fd offset whence = opens_told fd _ (λ opened. go opened opened.is.target)
    where
      at : (opened : Opened) (number : ℕ) (place : ℤ) → Told script plain pid (seek_to script plain pid opened number place)
      at opened number (negsuc n) = fails errno.EINVAL
      at opened number (pos place) =
          either (nat_lt greatest_offset place) (failed script plain pid errno.EOVERFLOW) _ (fails errno.EOVERFLOW)
          (either (is_between_entries plain.files.tree number place) (failed script plain pid errno.EINVAL) _ (fails errno.EINVAL) (tells _ _))

      go : (opened : Opened) (target : Target) → Told script plain pid (seek_target script plain pid opened offset (count_of whence) target)
      go opened (OnNode number) = at opened number (pos (origin plain.files.tree opened number (count_of whence)) +ℤ offset)
      go opened (OnPipe place) = fails errno.ESPIPE
      go opened (OnSocket place) = fails errno.ESPIPE

  truncates : (fd size : ℤ) → Told script plain pid (ftruncate script plain pid fd size)
  unfolding ftruncate
  truncates fd size = opens_told fd _ (λ opened. go opened opened.is.target)
    where
      sized : (r : Result Tree Errno) → Told script plain pid (resized_to script plain pid r)
      sized (Ok tree) = tells _ _
      sized (Err e) = fails e

      go : (opened : Opened) (target : Target) → Told script plain pid (truncate_target script plain pid opened (count_of size) target)
      go opened (OnNode number) =
          either (is_directory plain.files.tree number) (failed script plain pid errno.EINVAL) _ (fails errno.EINVAL)
          (writable opened _ (sized _))
      go opened (OnPipe place) = fails errno.EINVAL
      go opened (OnSocket place) = fails errno.EINVAL

  fstats : (fd : ℤ) → Told script plain pid (fstat script plain pid fd)
  unfolding fstat
  fstats fd = opens_told fd _ (λ opened. says _)

  -- ---- names

  stats : (path : List ℕ) → Told script plain pid (stat script plain pid path)
  unfolding stat
  stats path = go _
    where
      go : (r : Result StatInfo Errno) → Told script plain pid (told_of script plain pid r)
      go (Ok info) = says _
      go (Err e) = fails e

  trees_said : (r : Result Tree Errno) → Told script plain pid (retreed script plain pid r)
  trees_said (Ok tree) = tells _ _
  trees_said (Err e) = fails e

  makes : (path : List ℕ) → Told script plain pid (mkdir script plain pid path)
  unfolding mkdir
  makes path = go _
    where
      go : (r : Result (ℕ × Tree) Errno) → Told script plain pid (made_node script plain pid r)
      go (Ok made) = tells _ _
      go (Err e) = fails e

  makes_fifo : (path : List ℕ) → Told script plain pid (mkfifo script plain pid path)
  unfolding mkfifo
  makes_fifo path = go _
    where
      go : (r : Result (ℕ × Tree) Errno) → Told script plain pid (made_node script plain pid r)
      go (Ok made) = tells _ _
      go (Err e) = fails e

  removes : (path : List ℕ) → Told script plain pid (rmdir script plain pid path)
  unfolding rmdir
  removes path = trees_said _

  links : (old new : List ℕ) → Told script plain pid (link script plain pid old new)
  unfolding link
  links old new = trees_said _

  frees : (r : Result (Option ℕ × Tree) Errno) → Told script plain pid (freed_in script plain pid r)
  frees (Ok left) = tells _ _
  frees (Err e) = fails e

  unlinks : (path : List ℕ) → Told script plain pid (unlink script plain pid path)
  unfolding unlink
  unlinks path = frees _

  renames : (old new : List ℕ) → Told script plain pid (rename script plain pid old new)
  unfolding rename
  renames old new = frees _

  -- ---- pipes and sockets

  pipes_told : Told script plain pid (pipe script plain pid)
  unfolding pipe
  pipes_told = go (two_lowest_free (descriptors_of plain.files pid))
    where
      go : (o : Option Two) → Told script plain pid (piped_under script plain pid o)
      go None = fails errno.EMFILE
      go (Some two) = tells _ _

  sockets_told : Told script plain pid (on_sockets.socket script plain pid)
  unfolding on_sockets.socket
  sockets_told = go (lowest_free (descriptors_of plain.files pid))
    where
      go : (o : Option ℕ) → Told script plain pid (socketed_under script plain pid o)
      go None = fails errno.EMFILE
      go (Some fd) = tells _ _

  pairs_told : Told script plain pid (socketpair script plain pid)
  unfolding socketpair
  pairs_told = go (two_lowest_free (descriptors_of plain.files pid))
    where
      go : (o : Option Two) → Told script plain pid (paired_under script plain pid o)
      go None = fails errno.EMFILE
      go (Some two) = tells _ _

  socket_told : (fd : ℤ) (given : Opened → ℕ → Answer) → ((opened : Opened) (place : ℕ) → Told script plain pid (given opened place))
      → Told script plain pid (on_socket script plain pid fd given)
  socket_told fd given each = opens_told fd _ (λ opened. go opened opened.is.target)
    where
      go : (opened : Opened) (target : Target) → Told script plain pid (socket_target script plain pid (given opened) target)
      go opened (OnNode number) = fails errno.ENOTSOCK
      go opened (OnPipe place) = fails errno.ENOTSOCK
      go opened (OnSocket place) = each opened place

  without_fault : (fault : Option Errno) (given : Answer) → Told script plain pid given → Told script plain pid (unless_fault script plain pid fault given)
  without_fault None given rest = rest
  without_fault (Some e) given rest = fails e

  binds : (fd : ℤ) (path : List ℕ) → Told script plain pid (bind script plain pid fd path)
  unfolding bind
  binds fd path = socket_told fd _ (λ opened place.
      without_fault _ _ (go place _))
    where
      go : (place : ℕ) (r : Result (ℕ × Tree) Errno) → Told script plain pid (bound_to script plain pid place r)
      go place (Ok made) = tells _ _
      go place (Err e) = fails e

  listens_told : (fd : ℤ) → Told script plain pid (listen script plain pid fd)
  unfolding listen
  listens_told fd = socket_told fd _ (λ opened place. without_fault _ _ (tells _ _))

  shuts : (fd how : ℤ) → Told script plain pid (shutdown script plain pid fd how)
  unfolding shutdown
  shuts fd how = socket_told fd _ (λ opened place. without_fault _ _ (tells _ _))

  connects : (fd : ℤ) (path : List ℕ) → Told script plain pid (connect script plain pid fd path)
  unfolding connect
  connects fd path = socket_told fd _ (λ opened place.
      without_fault _ _ (go place _))
    where
      under : (place : ℕ) (o : Option ℕ) → Told script plain pid (connected_under script plain pid place o)
      under place None = fails errno.ECONNREFUSED
      under place (Some listener) =
          either (is_refused plain.files.sockets (Some listener)) (failed script plain pid errno.ECONNREFUSED) _ (fails errno.ECONNREFUSED) (tells _ _)

      go : (place : ℕ) (r : Result (Option ℕ) Errno) → Told script plain pid (connected_by script plain pid place r)
      go place (Ok number) = under place (listener_under plain.files.sockets number)
      go place (Err e) = fails e

  accepts : (fd : ℤ) → Told script plain pid (accept script plain pid fd)
  unfolding accept
  accepts fd = socket_told fd _ (λ opened place. go place (lowest_free (descriptors_of plain.files pid)) _)
    where
      go : (listener : ℕ) (o : Option ℕ) (accepting : Accepting) → Told script plain pid (accepted_under script plain pid listener o accepting)
      go listener (Some fd) (socket.Takes taken) = tells _ _
      go listener None (socket.Takes taken) = fails errno.EMFILE
      go listener None socket.Waits = blocks
      go listener (Some fd) socket.Waits = blocks
      go listener None (socket.Refuses e) = fails e
      go listener (Some fd) (socket.Refuses e) = fails e

  polls : (timeout : ℤ) (entries : _) → Told script plain pid (poll script plain pid timeout entries)
  unfolding poll
  polls timeout entries =
      either ((hits_of (revents_of plain.files pid entries) == 0) && is_minus_one timeout) answer.Blocked _ blocks (says _)

  -- ---- record locks

  claims : (asked : Request) (stopped : Answer) (r : Result ℕ Errno) → Told script plain pid stopped → Told script plain pid (granted_or script plain pid asked stopped r)
  claims asked stopped (Err e) rest = fails e
  claims asked stopped (Ok number) rest = either (is_clear plain.files.locks pid number asked) _ stopped (tells _ _) rest

  sets : (fd kind start size : ℤ) → Told script plain pid (setlk script plain pid fd kind start size)
  unfolding setlk
  sets fd kind start size = opens_told fd _ (λ opened. claims (request_of kind start size) _ _ (fails errno.EAGAIN))

  sets_in_time : (fd kind start size : ℤ) → Told script plain pid (setlkw script plain pid fd kind start size)
  unfolding setlkw
  sets_in_time fd kind start size = opens_told fd _ (λ opened. claims (request_of kind start size) _ _
      (either (circles script plain pid) (failed script plain pid errno.EDEADLK) answer.Blocked (fails errno.EDEADLK) blocks))

  tells_lock : (fd kind start size : ℤ) → Told script plain pid (getlk script plain pid fd kind start size)
  unfolding getlk
  tells_lock fd kind start size = opens_told fd _ (λ opened. go (file_of plain.files.tree opened.is.target))
    where
      go : (o : Option ℕ) → Told script plain pid (on_locks.told_of script plain pid (request_of kind start size) o)
      go None = fails errno.EINVAL
      go (Some number) = says _

  -- ---- every call of them

  no : {X : Type 0} → false ≡ true → X
  no e = absurd (let f = e in cc)

  pub quiet_told : (which : Call) → is_quiet which ≡ true → Told script plain pid (answer_to script plain pid which)
  quiet_told call.Getpid is = says _
  quiet_told call.Getppid is = says _
  quiet_told call.SchedYield is = says _
  quiet_told call.Fork is = no is
  quiet_told (call.Exec path) is = no is
  quiet_told (call.Exit status) is = no is
  quiet_told (call.Waitpid which options) is = no is
  quiet_told (call.Kill target signal) is = no is
  quiet_told (call.Mmap size) is = no is
  quiet_told (call.Munmap addr size) is = no is
  quiet_told (call.Store addr bytes) is = no is
  quiet_told (call.Load addr n) is = ranged addr (count_of n) _ (says _)
  quiet_told (call.OpenFile path flags) is = opens_file path flags
  quiet_told (call.Close fd) is = closes fd
  quiet_told (call.Dup fd) is = dups fd
  quiet_told (call.Dup2 fd to) is = dups_to fd to
  quiet_told (call.Fcntl fd cmd arg) is = controls fd cmd arg
  quiet_told (call.Read fd addr n) is = no is
  quiet_told (call.Write fd addr n done) is = no is
  quiet_told (call.Pread fd addr n at) is = no is
  quiet_told (call.Pwrite fd addr n at) is = pwrites fd addr n at
  quiet_told (call.Lseek fd offset whence) is = seeks fd offset whence
  quiet_told (call.Readdir fd addr n) is = no is
  quiet_told (call.Ftruncate fd size) is = truncates fd size
  quiet_told (call.Fstat fd) is = fstats fd
  quiet_told (call.Stat path) is = stats path
  quiet_told (call.Chdir path) is = no is
  quiet_told (call.Mkdir path) is = makes path
  quiet_told (call.Rmdir path) is = removes path
  quiet_told (call.Unlink path) is = unlinks path
  quiet_told (call.Link old new) is = links old new
  quiet_told (call.Rename old new) is = renames old new
  quiet_told call.Pipe is = pipes_told
  quiet_told call.Socket is = sockets_told
  quiet_told call.Socketpair is = pairs_told
  quiet_told (call.Bind fd path) is = binds fd path
  quiet_told (call.Listen fd) is = listens_told fd
  quiet_told (call.Connect fd path) is = connects fd path
  quiet_told (call.Accept fd) is = accepts fd
  quiet_told (call.Shutdown fd how) is = shuts fd how
  quiet_told (call.Poll timeout entries) is = polls timeout entries
  quiet_told (call.Signal which disposition) is = no is
  quiet_told (call.Mkfifo path) is = makes_fifo path
  quiet_told (call.Setlk fd kind start size) is = sets fd kind start size
  quiet_told (call.Setlkw fd kind start size) is = sets_in_time fd kind start size
  quiet_told (call.Getlk fd kind start size) is = tells_lock fd kind start size

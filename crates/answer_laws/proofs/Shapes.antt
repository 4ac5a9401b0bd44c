-- Each answer of each call has its shape.
use Rattle.std.proofs.Common.{◌≡◌, ◌≢◌, ℕ, zero, suc, ◌+◌, ◌-◌, ◌/◌, ◌==◌, ◌&&◌, nat_lt, ℤ, pos, negsuc, ◌+ℤ◌, Bool, true, false, cond, List, length, Option, None, Some, Result, Ok, Err, refl, ap, ◌∙◌, inl, inr, arith, subst}
use Rattle.std.proofs.lemmas.Bool.Decides.{eqb_tells}
use Rattle.kabi_types.specs.Arguments.{argument_fault, count_of, is_minus_one, may_be_descriptor, page_size}
use Rattle.kabi_types.specs.declared.calls.Call.{Call}
use Rattle.kabi_types.specs.declared.calls.Call.TheVariants as call
use Rattle.kabi_types.specs.declared.errnos.Errno.{Errno}
use Rattle.kabi_types.specs.declared.errnos.Errno.TheVariants as errno
use Rattle.kabi_types.specs.declared.replies.Reply.{Reply}
use Rattle.kabi_types.specs.declared.replies.Reply.TheVariants as reply
use Rattle.kabi_types.specs.declared.replies.StatInfo.{StatInfo}
use Rattle.kabi_types.specs.declared.scripts.Script.{Script}
use Rattle.posix_defs.specs.Answer as answer
use Rattle.posix_defs.specs.Answer.{Answer, failed, replied}
use Rattle.posix_defs.specs.Ending.{die, exit_status}
use Rattle.posix_defs.specs.Forking.{fork, is_full}
use Rattle.posix_defs.specs.Killing.{is_asking, is_ended_by, kill, sent_to, struck}
use Rattle.posix_defs.specs.Killing as killing
use Rattle.posix_defs.specs.Locks.{Lock, Request, first_in_way}
use Rattle.posix_defs.specs.Machine.{answer_to, machine, unless_wrong}
use Rattle.posix_defs.specs.Memory.{Memory, is_mapped_range, lowest_run}
use Rattle.posix_defs.specs.MemoryCalls.{in_range, mapped_from, mmap, remembered}
use Rattle.posix_defs.specs.Needs.{pages_in, pages_touched}
use Rattle.posix_defs.specs.Pipe.{Moving, pipe_read, pipe_write}
use Rattle.posix_defs.specs.Pipe as pipes
use Rattle.posix_defs.specs.Plain.{Plain, with_files}
use Rattle.posix_defs.specs.Process.{Process, directory_of, is_alive, is_alive_in, memory_of, process_at, runs}
use Rattle.posix_defs.specs.Reaching.{is_reply}
use Rattle.posix_defs.specs.Signals.{sigpipe}
use Rattle.posix_defs.specs.Socket.{Accepting, is_connected}
use Rattle.posix_defs.specs.Socket as socket
use Rattle.posix_defs.specs.Sockets.{stage_at, socket_at, is_refused}
use Rattle.posix_defs.specs.PathCalls.{enter_path, is_fifo, open_path}
use Rattle.posix_defs.specs.Tree.{Tree, is_directory}
use Rattle.posix_defs.specs.Waiting.{Exited, any_from, exited_from, is_nohang, waited_for, waitpid}
use Rattle.posix_defs.specs.Files.Descriptors.{Two, lowest_free, lowest_free_from, two_lowest_free}
use Rattle.posix_defs.specs.Files.Descriptions.{Target, OnNode, OnPipe, OnSocket, may_read, may_write}
use Rattle.posix_defs.specs.Files.State.{Files, HalfOpen, descriptors_of, opening_at, opens, pipe_at}
use Rattle.posix_defs.specs.Files.Whole.{is_queue}
use Rattle.posix_defs.specs.Calls.Opened.{Opened, answer_on, if_readable, if_writable, on_open, opened_at}
use Rattle.posix_defs.specs.Calls.OnDescriptors.{close, controlled, dup, dup2, duplicated, duplicated_to, fcntl}
use Rattle.posix_defs.specs.Calls.Reading.{is_directory_target, list_target, of_bytes, pread, pread_target, read, read_from_pipe, read_from_socket, read_target, readdir}
use Rattle.posix_defs.specs.Calls.Writing.{bytes_left, did_part, place_of_write, put_in_socket, pwrite, pwrite_target, stopped, write, write_ignoring, write_queue, write_target, wrote, wrote_at}
use Rattle.posix_defs.specs.Calls.OnFiles.{end_awaits, end_opened, fifo_fault, fifo_pipe, fifo_waits, fstat, ftruncate, greatest_offset, is_between_entries, is_met, lseek, open_at, open_by, open_end, open_fifo, open_file, open_node, opened_node_as, opening_of, origin, resized_to, seek_target, seek_to, truncate_target}
use Rattle.posix_defs.specs.Calls.OnNames.{chdir, freed_in, is_busy, link, made_node, mkdir, mkfifo, rename, retreed, rmdir, stat, told_of, unlink, works_from}
use Rattle.posix_defs.specs.Calls.Starting.{exec, starts}
use Rattle.posix_defs.specs.Calls.OnPipes.{pipe, piped_under}
use Rattle.posix_defs.specs.Calls.OnSockets.{accept, accept_at, accepted_under, bind, bind_at, bound_to, connect, connect_at, connected_by, connected_under, listen, listen_at, listener_under, on_socket, paired_under, resocketed, shutdown, shutdown_at, socket_target, socketed_under, socketpair, unless_fault}
use Rattle.posix_defs.specs.Calls.OnSockets as on_sockets
use Rattle.posix_defs.specs.Calls.OnLocks.{circles, claim_of, claimed, file_of, getlk, granted_or, is_clear, lock_told, may_hold, request_of, setlk, setlkw}
use Rattle.posix_defs.specs.Calls.OnLocks as on_locks
use Rattle.posix_defs.specs.Calls.Polling.{hits_of, poll, revents_of}
use Rattle.posix_defs.proofs.SignalLemmas.{of_write}
use Rattle.answer_laws.proofs.Exits.{exited_has_ended}
use Rattle.answer_laws.proofs.Faults.{fault_no}
use Rattle.answer_laws.specs.Shapes as shape
use Rattle.answer_laws.specs.Shapes.{HasShape, IsBegun, IsPart, IsPut, may_block}
use Rattle.answer_laws.proofs.NoWant.{IsNoWant, IsNoWantAccept, IsNoWantFault, IsNoWantMove, IsOther, accept_no, bind_fault_no, bind_no, connect_fault_no, enter_no, exec_no, fifo_fault_no, find_no, links_no, listen_fault_no, mkdir_no, mkfifo_no, open_no, pipe_read_no, pipe_write_no, rename_no, resize_no, rmdir_no, shutdown_fault_no, sock_read_no, sock_write_no, stat_no, unlink_no, write_no}

-- what is asked of an answer
abbrev Shaped : Script → Plain → ℕ → Call → Answer → Type 0
Shaped script plain pid asked given = HasShape script plain pid asked given

module _ (script : Script) (plain : Plain) (pid : ℕ) (asked : Call) where
  either : (b : Bool) (one two : Answer) → Shaped script plain pid asked one → Shaped script plain pid asked two → Shaped script plain pid asked (cond b one two)
  either true one two this that = this
  either false one two this that = that

  fails : (e : Errno) → IsOther e → Shaped script plain pid asked (failed script plain pid e)
  fails e other = shape.fails e other refl

  tells : (files : Files) (said : Reply) → is_reply said ≡ true → Shaped script plain pid asked (replied script (with_files plain files) pid said)
  tells files said is = shape.tells files said is refl

  -- the files stay
  says : (said : Reply) → is_reply said ≡ true → Shaped script plain pid asked (replied script plain pid said)
  says said is = shape.tells plain.files said is refl

  keeps : (files : Files) (memory : Memory) (said : Reply) → is_reply said ≡ true → IsPut plain pid asked memory
      → Shaped script plain pid asked (replied script (remembered (with_files plain files) pid memory) pid said)
  keeps files memory said is what = shape.puts files memory said is what refl

  -- ---- what a descriptor is open on

  opens_shaped : (fd : ℤ) (given : Opened → Answer) → ((opened : Opened) → Shaped script plain pid asked (given opened)) → Shaped script plain pid asked (on_open script plain pid fd given)
  opens_shaped fd given each = go (opened_at plain.files pid fd)
    where
      go : (o : Option Opened) → Shaped script plain pid asked (answer_on script plain pid given o)
      go None = fails errno.EBADF (λ e. cc)
      go (Some opened) = each opened

  readable : (opened : Opened) (given : Answer) → Shaped script plain pid asked given → Shaped script plain pid asked (if_readable script plain pid opened given)
  readable opened given rest = either (may_read opened.is.access) given (failed script plain pid errno.EBADF) rest (fails errno.EBADF (λ e. cc))

  writable : (opened : Opened) (given : Answer) → Shaped script plain pid asked given → Shaped script plain pid asked (if_writable script plain pid opened given)
  writable opened given rest = either (may_write opened.is.access) given (failed script plain pid errno.EBADF) rest (fails errno.EBADF (λ e. cc))

  ranged : (addr : ℤ) (n : ℕ) (given : Answer) → Shaped script plain pid asked given → Shaped script plain pid asked (in_range script plain pid addr n given)
  ranged addr n given rest =
      either (is_mapped_range (memory_of plain.table pid) (count_of addr) n) given (failed script plain pid errno.EFAULT) rest (fails errno.EFAULT (λ e. cc))

  bytes_shaped : (addr n : ℤ) (given : Answer) → Shaped script plain pid asked given → Shaped script plain pid asked (of_bytes script plain pid addr n given)
  bytes_shaped addr n given rest =
      ranged addr (count_of n) _ (either (count_of n == 0) (replied script plain pid (reply.Val (pos 0))) given (says (reply.Val (pos 0)) refl) rest)

  -- ---- descriptors

  closes : (fd : ℤ) → Shaped script plain pid asked (close script plain pid fd)
  unfolding close
  closes fd = opens_shaped fd _ (λ opened. tells _ (reply.Val (pos 0)) refl)

  shares : (opened : Opened) (o : Option ℕ) → Shaped script plain pid asked (duplicated script plain pid opened o)
  shares opened None = fails errno.EMFILE (λ e. cc)
  shares opened (Some fd) = tells _ (reply.Val (pos fd)) refl

  dups : (fd : ℤ) → Shaped script plain pid asked (dup script plain pid fd)
  unfolding dup
  dups fd = opens_shaped fd _ (λ opened. shares opened (lowest_free (descriptors_of plain.files pid)))

  dups_to : (fd to : ℤ) → Shaped script plain pid asked (dup2 script plain pid fd to)
  unfolding dup2
  dups_to fd to = opens_shaped fd _ (λ opened.
      either (may_be_descriptor to) (duplicated_to script plain pid opened (count_of fd) (count_of to)) (failed script plain pid errno.EBADF)
      (either (count_of fd == count_of to) (replied script plain pid (reply.Val (pos (count_of to)))) _ (says _ refl) (tells _ _ refl))
      (fails errno.EBADF (λ e. cc)))

  controls : (fd cmd arg : ℤ) → Shaped script plain pid asked (fcntl script plain pid fd cmd arg)
  unfolding fcntl
  controls fd cmd arg = opens_shaped fd _ (λ opened. go opened (count_of cmd))
    where
      go : (opened : Opened) (number : ℕ) → Shaped script plain pid asked (controlled script plain pid (count_of fd) number arg opened)
      go opened zero = shares opened (lowest_free_from (descriptors_of plain.files pid) (count_of arg))
      go opened (suc zero) = says _ refl
      go opened (suc (suc zero)) = tells _ _ refl
      go opened (suc (suc (suc zero))) = says _ refl
      go opened (suc (suc (suc (suc zero)))) = tells _ _ refl
      go opened (suc (suc (suc (suc (suc n))))) = fails errno.EINVAL (λ e. cc)

  -- ---- reads

  pipe_reads : (place : ℕ) (addr : ℤ) (moving : Moving) → may_block asked ≡ true → IsNoWantMove moving → Shaped script plain pid asked (read_from_pipe script plain pid place addr moving)
  pipe_reads place addr (pipes.Moves k) may fine = keeps _ _ _ refl (shape.reads addr _ (shape.of_pipe place k refl) refl)
  pipe_reads place addr pipes.Blocks may fine = shape.blocks may refl
  pipe_reads place addr (pipes.Fails e) may fine = fails e fine

  socket_reads : (place : ℕ) (addr : ℤ) (moving : Moving) → may_block asked ≡ true → IsNoWantMove moving → Shaped script plain pid asked (read_from_socket script plain pid place addr moving)
  socket_reads place addr (pipes.Moves k) may fine = keeps _ _ _ refl (shape.reads addr _ (shape.of_socket place k refl) refl)
  socket_reads place addr pipes.Blocks may fine = shape.blocks may refl
  socket_reads place addr (pipes.Fails e) may fine = fails e fine

  target_reads : (opened : Opened) (addr : ℤ) (n : ℕ) (target : Target) → may_block asked ≡ true → Shaped script plain pid asked (read_target script plain pid opened addr n target)
  target_reads opened addr n (OnNode number) may = keeps _ _ _ refl (shape.reads addr _ (shape.of_file number opened.is.offset n refl) refl)
  target_reads opened addr n (OnPipe place) may = pipe_reads place addr _ may (pipe_read_no (pipe_at plain.files place) opened.is.nonblock n)
  target_reads opened addr n (OnSocket place) may = socket_reads place addr _ may (sock_read_no plain.files.sockets place opened.is.nonblock n)

  reads : (fd addr n : ℤ) → may_block asked ≡ true → Shaped script plain pid asked (read script plain pid fd addr n)
  unfolding read
  reads fd addr n may = opens_shaped fd _ (λ opened.
      readable opened _
      (either (is_directory_target plain.files.tree opened.is.target) (failed script plain pid errno.EISDIR) _ (fails errno.EISDIR (λ e. cc))
      (bytes_shaped addr n _ (target_reads opened addr (count_of n) opened.is.target may))))

  preads : (fd addr n at : ℤ) → Shaped script plain pid asked (pread script plain pid fd addr n at)
  unfolding pread
  preads fd addr n at = opens_shaped fd _ (λ opened. readable opened _ (go opened.is.target))
    where
      go : (target : Target) → Shaped script plain pid asked (pread_target script plain pid addr n (count_of at) target)
      go (OnNode number) =
          either (is_directory plain.files.tree number) (failed script plain pid errno.EISDIR) _ (fails errno.EISDIR (λ e. cc)) (bytes_shaped addr n _ (keeps plain.files _ _ refl (shape.reads addr _ (shape.of_file number (count_of at) (count_of n) refl) refl)))
      go (OnPipe place) = fails errno.ESPIPE (λ e. cc)
      go (OnSocket place) = fails errno.ESPIPE (λ e. cc)

  lists : (fd addr n : ℤ) → Shaped script plain pid asked (readdir script plain pid fd addr n)
  unfolding readdir
  lists fd addr n = opens_shaped fd _ (λ opened. go opened opened.is.target)
    where
      go : (opened : Opened) (target : Target) → Shaped script plain pid asked (list_target script plain pid opened addr n target)
      go opened (OnNode number) =
          either (is_directory plain.files.tree number) _ (failed script plain pid errno.ENOTDIR) (ranged addr (count_of n) _ (keeps _ _ _ refl (shape.reads addr _ (shape.of_directory number opened.is.offset (count_of n) refl) refl))) (fails errno.ENOTDIR (λ e. cc))
      go opened (OnPipe place) = fails errno.ENOTDIR (λ e. cc)
      go opened (OnSocket place) = fails errno.ENOTDIR (λ e. cc)

  -- ---- writes

  stops : (done : ℕ) (e : Errno) → IsOther e → Shaped script plain pid asked (stopped script plain pid done e)
  stops done e fine = either (done == 0) (failed script plain pid e) (replied script plain pid (reply.Val (pos done))) (fails e fine) (says _ refl)

  queue_writes : (nonblock : Bool) (n done : ℕ) (next : ℕ → Files) (moving : Moving) → may_block asked ≡ true → ((k : ℕ) → IsPart plain pid asked (next k)) → IsNoWantMove moving
      → Shaped script plain pid asked (write_queue script plain pid nonblock n done next moving)
  queue_writes nonblock n done next (pipes.Moves k) may part fine =
      either (k == n - done) _ _ (tells _ _ refl) (either nonblock _ _ (tells _ _ refl) (shape.parts (next k) k (part k) refl))
  queue_writes nonblock n done next pipes.Blocks may part fine = shape.blocks may refl
  queue_writes nonblock n done next (pipes.Fails e) may part fine = stops done e fine

  target_writes : (opened : Opened) (addr : ℤ) (n done : ℕ) (target : Target) → may_block asked ≡ true
      → ((files : Files) → is_queue target ≡ true → files.descriptors ≡ plain.files.descriptors → files.descriptions ≡ plain.files.descriptions → IsPart plain pid asked files)
      → Shaped script plain pid asked (write_target script plain pid opened addr n done target)
  target_writes opened addr n done (OnNode number) may part = go _ (write_no plain.files.tree number (place_of_write plain.files.tree opened number) (bytes_left plain pid addr n done))
    where
      go : (r : Result (ℕ × Tree) Errno) → IsNoWant r → Shaped script plain pid asked (wrote script plain pid opened (place_of_write plain.files.tree opened number) r)
      go (Ok written) fine = tells _ _ refl
      go (Err e) fine = fails e fine
  target_writes opened addr n done (OnPipe place) may part =
      queue_writes opened.is.nonblock n done _ _ may (λ k. part _ refl refl refl) (pipe_write_no (pipe_at plain.files place) opened.is.nonblock n (n - done))
  target_writes opened addr n done (OnSocket place) may part =
      either (is_connected (stage_at plain.files.sockets place)) _ (failed script plain pid errno.ENOTCONN)
      (queue_writes opened.is.nonblock n done (put_in_socket plain.files place (bytes_left plain pid addr n done)) _ may (λ k. part _ refl refl refl)
      (sock_write_no plain.files.sockets place opened.is.nonblock (n - done))) (fails errno.ENOTCONN (λ e. cc))

  writes_ignoring : (fd addr n : ℤ) (done : ℕ) → asked ≡ call.Write fd addr n done → Shaped script plain pid asked (write_ignoring script plain pid fd addr n done)
  unfolding write_ignoring
  writes_ignoring fd addr n done called = go (opened_at plain.files pid fd) refl
    where
      go : (o : Option Opened) → opened_at plain.files pid fd ≡ o → Shaped script plain pid asked (answer_on script plain pid (λ opened.
          if_writable script plain pid opened (of_bytes script plain pid addr n (write_target script plain pid opened addr (count_of n) done opened.is.target))) o)
      go None is = fails errno.EBADF (λ e. cc)
      go (Some opened) is = writable opened _ (bytes_shaped addr n _ (target_writes opened addr (count_of n) done opened.is.target (ap may_block called) (λ files queue descriptors descriptions.
          record { fd = fd; addr = addr; n = n; done = done; opened = opened; which = called; named = is; queue = queue; descriptors = descriptors; descriptions = descriptions })))

  writes : (fd addr n : ℤ) (done : ℕ) → asked ≡ call.Write fd addr n done → Shaped script plain pid asked (write script plain pid fd addr n done)
  writes fd addr n done called =
      of_write script plain pid fd addr n done (Shaped script plain pid asked) (λ ends. shape.ends sigpipe refl) (λ goes. writes_ignoring fd addr n done called)

  pwrites : (fd addr n at : ℤ) → Shaped script plain pid asked (pwrite script plain pid fd addr n at)
  unfolding pwrite
  pwrites fd addr n at = opens_shaped fd _ (λ opened. writable opened _ (go opened.is.target))
    where
      wrote_there : (r : Result (ℕ × Tree) Errno) → IsNoWant r → Shaped script plain pid asked (wrote_at script plain pid r)
      wrote_there (Ok written) fine = tells _ _ refl
      wrote_there (Err e) fine = fails e fine

      go : (target : Target) → Shaped script plain pid asked (pwrite_target script plain pid addr n (count_of at) target)
      go (OnNode number) =
          either (is_directory plain.files.tree number) (failed script plain pid errno.EISDIR) _ (fails errno.EISDIR (λ e. cc))
          (bytes_shaped addr n _ (wrote_there _ (write_no plain.files.tree number (count_of at) (bytes_left plain pid addr (count_of n) 0))))
      go (OnPipe place) = fails errno.ESPIPE (λ e. cc)
      go (OnSocket place) = fails errno.ESPIPE (λ e. cc)

  -- ---- files

  opens_file : (path : List ℕ) (flags : ℤ) → asked ≡ call.OpenFile path flags → Shaped script plain pid asked (open_file script plain pid path flags)
  unfolding open_file
  opens_file path flags called = go (opening_at plain.files pid) refl
    where
      -- a FIFO
      ends : (fd : ℕ) (found : ℕ × Tree) (fault : Option Errno) → opening_at plain.files pid ≡ None → lowest_free (descriptors_of plain.files pid) ≡ Some fd
          → open_path plain.files.tree (directory_of plain.table pid) path (opening_of flags) ≡ Ok found → is_fifo found.1 found.0 ≡ true
          → fifo_fault (fifo_pipe plain.files found.0) flags ≡ fault → IsNoWantFault fault → Shaped script plain pid asked (open_end script plain pid flags fd found.0 fault)
      ends fd found (Some e) begins free led fifo is fine = fails e fine
      ends fd found None begins free led fifo is fine = waiting (fifo_waits (fifo_pipe plain.files found.0) flags) refl
        where
          waiting : (b : Bool) → fifo_waits (fifo_pipe plain.files found.0) flags ≡ b
              → Shaped script plain pid asked (cond b (did_part (with_files plain (end_awaits plain.files pid flags fd found.0)) pid 1)
              (replied script (with_files plain (end_opened plain.files pid flags fd found.0)) pid (reply.Val (pos fd))))
          waiting true waits = shape.awaits _ (record {
            path = path;
            flags = flags;
            fd = fd;
            there = found;
            which = called;
            begins = begins;
            free = free;
            led = led;
            fifo = fifo;
            right = is;
            waits = waits;
            is = refl;
          }) refl
          waiting false waits = tells _ _ refl

      there : (fd : ℕ) (r : Result (ℕ × Tree) Errno) → opening_at plain.files pid ≡ None → lowest_free (descriptors_of plain.files pid) ≡ Some fd
          → open_path plain.files.tree (directory_of plain.table pid) path (opening_of flags) ≡ r → IsNoWant r → Shaped script plain pid asked (opened_node_as script plain pid flags fd r)
      there fd (Ok found) begins free led fine = kind (is_fifo found.1 found.0) refl
        where
          kind : (b : Bool) → is_fifo found.1 found.0 ≡ b → Shaped script plain pid asked (cond b (open_fifo script plain pid flags fd found.0) (open_node script plain pid flags fd found.0 found.1))
          kind true fifo = ends fd found _ begins free led fifo refl (fifo_fault_no (fifo_pipe plain.files found.0) flags)
          kind false fifo = tells _ _ refl
      there fd (Err e) begins free led fine = fails e fine

      at : (o : Option ℕ) → opening_at plain.files pid ≡ None → lowest_free (descriptors_of plain.files pid) ≡ o → Shaped script plain pid asked (open_at script plain pid path flags o)
      at None begins free = fails errno.EMFILE (λ e. cc)
      at (Some fd) begins free = there fd _ begins free refl (open_no plain.files.tree (directory_of plain.table pid) path (opening_of flags))

      go : (o : Option HalfOpen) → opening_at plain.files pid ≡ o → Shaped script plain pid asked (open_by script plain pid path flags o)
      go None begins = at _ begins refl
      go (Some opening) begun = either (is_met plain.files pid opening) _ answer.Blocked (tells _ _ refl) (shape.blocks (ap may_block called) refl)

  seeks : (fd offset whence : ℤ) → Shaped script plain pid asked (lseek script plain pid fd offset whence)
  unfolding lseek
  seeks fd offset whence = opens_shaped fd _ (λ opened. go opened opened.is.target)
    where
      at : (opened : Opened) (number : ℕ) (place : ℤ) → Shaped script plain pid asked (seek_to script plain pid opened number place)
      at opened number (negsuc n) = fails errno.EINVAL (λ e. cc)
      at opened number (pos place) =
          either (nat_lt greatest_offset place) (failed script plain pid errno.EOVERFLOW) _ (fails errno.EOVERFLOW (λ e. cc))
          (either (is_between_entries plain.files.tree number place) (failed script plain pid errno.EINVAL) _ (fails errno.EINVAL (λ e. cc)) (tells _ _ refl))

      go : (opened : Opened) (target : Target) → Shaped script plain pid asked (seek_target script plain pid opened offset (count_of whence) target)
      go opened (OnNode number) = at opened number (pos (origin plain.files.tree opened number (count_of whence)) +ℤ offset)
      go opened (OnPipe place) = fails errno.ESPIPE (λ e. cc)
      go opened (OnSocket place) = fails errno.ESPIPE (λ e. cc)

  truncates : (fd size : ℤ) → Shaped script plain pid asked (ftruncate script plain pid fd size)
  unfolding ftruncate
  truncates fd size = opens_shaped fd _ (λ opened. go opened opened.is.target)
    where
      sized : (r : Result Tree Errno) → IsNoWant r → Shaped script plain pid asked (resized_to script plain pid r)
      sized (Ok tree) fine = tells _ _ refl
      sized (Err e) fine = fails e fine

      go : (opened : Opened) (target : Target) → Shaped script plain pid asked (truncate_target script plain pid opened (count_of size) target)
      go opened (OnNode number) =
          either (is_directory plain.files.tree number) (failed script plain pid errno.EINVAL) _ (fails errno.EINVAL (λ e. cc))
          (writable opened _ (sized _ (resize_no plain.files.tree number (count_of size))))
      go opened (OnPipe place) = fails errno.EINVAL (λ e. cc)
      go opened (OnSocket place) = fails errno.EINVAL (λ e. cc)

  fstats : (fd : ℤ) → Shaped script plain pid asked (fstat script plain pid fd)
  unfolding fstat
  fstats fd = opens_shaped fd _ (λ opened. says _ refl)

  -- ---- names

  stats : (path : List ℕ) → Shaped script plain pid asked (stat script plain pid path)
  unfolding stat
  stats path = go _ (stat_no plain.files.tree (directory_of plain.table pid) path)
    where
      go : (r : Result StatInfo Errno) → IsNoWant r → Shaped script plain pid asked (told_of script plain pid r)
      go (Ok info) fine = says _ refl
      go (Err e) fine = fails e fine

  enters : (path : List ℕ) → asked ≡ call.Chdir path → Shaped script plain pid asked (chdir script plain pid path)
  unfolding chdir
  enters path called = go _ refl (enter_no plain.files.tree (directory_of plain.table pid) path)
    where
      go : (r : Result ℕ Errno) → enter_path plain.files.tree (directory_of plain.table pid) path ≡ r → IsNoWant r → Shaped script plain pid asked (works_from script plain pid r)
      go (Ok number) led fine = shape.moves path number called led refl
      go (Err e) led fine = fails e fine

  trees_told : (r : Result Tree Errno) → IsNoWant r → Shaped script plain pid asked (retreed script plain pid r)
  trees_told (Ok tree) fine = tells _ _ refl
  trees_told (Err e) fine = fails e fine

  makes : (path : List ℕ) → Shaped script plain pid asked (mkdir script plain pid path)
  unfolding mkdir
  makes path = go _ (mkdir_no plain.files.tree (directory_of plain.table pid) path)
    where
      go : (r : Result (ℕ × Tree) Errno) → IsNoWant r → Shaped script plain pid asked (made_node script plain pid r)
      go (Ok made) fine = tells _ _ refl
      go (Err e) fine = fails e fine

  makes_fifo : (path : List ℕ) → Shaped script plain pid asked (mkfifo script plain pid path)
  unfolding mkfifo
  makes_fifo path = go _ (mkfifo_no plain.files.tree (directory_of plain.table pid) path)
    where
      go : (r : Result (ℕ × Tree) Errno) → IsNoWant r → Shaped script plain pid asked (made_node script plain pid r)
      go (Ok made) fine = tells _ _ refl
      go (Err e) fine = fails e fine

  removes : (path : List ℕ) → Shaped script plain pid asked (rmdir script plain pid path)
  unfolding rmdir
  removes path = trees_told _ (rmdir_no plain.files.tree (directory_of plain.table pid) path (is_busy plain))

  links : (old new : List ℕ) → Shaped script plain pid asked (link script plain pid old new)
  unfolding link
  links old new = trees_told _ (links_no plain.files.tree (directory_of plain.table pid) old new)

  frees : (r : Result (Option ℕ × Tree) Errno) → IsNoWant r → Shaped script plain pid asked (freed_in script plain pid r)
  frees (Ok left) fine = tells _ _ refl
  frees (Err e) fine = fails e fine

  unlinks : (path : List ℕ) → Shaped script plain pid asked (unlink script plain pid path)
  unfolding unlink
  unlinks path = frees _ (unlink_no plain.files.tree (directory_of plain.table pid) path (opens plain.files))

  renames : (old new : List ℕ) → Shaped script plain pid asked (rename script plain pid old new)
  unfolding rename
  renames old new = frees _ (rename_no plain.files.tree (opens plain.files) (is_busy plain) (directory_of plain.table pid) old new)

  execs : (path : List ℕ) → Shaped script plain pid asked (exec script plain pid path)
  unfolding exec
  execs path = go _ (exec_no plain.files.tree (directory_of plain.table pid) path script.programs)
    where
      go : (r : Result ℕ Errno) → IsNoWant r → Shaped script plain pid asked (starts script plain pid r)
      go (Ok place) fine = shape.starts place refl
      go (Err e) fine = fails e fine

  -- ---- pipes and sockets

  pipes_shaped : Shaped script plain pid asked (pipe script plain pid)
  unfolding pipe
  pipes_shaped = go (two_lowest_free (descriptors_of plain.files pid))
    where
      go : (o : Option Two) → Shaped script plain pid asked (piped_under script plain pid o)
      go None = fails errno.EMFILE (λ e. cc)
      go (Some two) = tells _ _ refl

  sockets_shaped : Shaped script plain pid asked (on_sockets.socket script plain pid)
  unfolding on_sockets.socket
  sockets_shaped = go (lowest_free (descriptors_of plain.files pid))
    where
      go : (o : Option ℕ) → Shaped script plain pid asked (socketed_under script plain pid o)
      go None = fails errno.EMFILE (λ e. cc)
      go (Some fd) = tells _ _ refl

  pairs_shaped : Shaped script plain pid asked (socketpair script plain pid)
  unfolding socketpair
  pairs_shaped = go (two_lowest_free (descriptors_of plain.files pid))
    where
      go : (o : Option Two) → Shaped script plain pid asked (paired_under script plain pid o)
      go None = fails errno.EMFILE (λ e. cc)
      go (Some two) = tells _ _ refl

  socket_shaped : (fd : ℤ) (given : Opened → ℕ → Answer) → ((opened : Opened) (place : ℕ) → Shaped script plain pid asked (given opened place))
      → Shaped script plain pid asked (on_socket script plain pid fd given)
  socket_shaped fd given each = opens_shaped fd _ (λ opened. go opened opened.is.target)
    where
      go : (opened : Opened) (target : Target) → Shaped script plain pid asked (socket_target script plain pid (given opened) target)
      go opened (OnNode number) = fails errno.ENOTSOCK (λ e. cc)
      go opened (OnPipe place) = fails errno.ENOTSOCK (λ e. cc)
      go opened (OnSocket place) = each opened place

  without_fault : (fault : Option Errno) (given : Answer) → IsNoWantFault fault → Shaped script plain pid asked given → Shaped script plain pid asked (unless_fault script plain pid fault given)
  without_fault None given fine rest = rest
  without_fault (Some e) given fine rest = fails e fine

  binds : (fd : ℤ) (path : List ℕ) → Shaped script plain pid asked (bind script plain pid fd path)
  unfolding bind
  binds fd path = socket_shaped fd _ (λ opened place.
      without_fault _ _ (bind_fault_no (socket_at plain.files.sockets place)) (go place _ (bind_no plain.files.tree (directory_of plain.table pid) path)))
    where
      go : (place : ℕ) (r : Result (ℕ × Tree) Errno) → IsNoWant r → Shaped script plain pid asked (bound_to script plain pid place r)
      go place (Ok made) fine = tells _ _ refl
      go place (Err e) fine = fails e fine

  listens_shaped : (fd : ℤ) → Shaped script plain pid asked (listen script plain pid fd)
  unfolding listen
  listens_shaped fd = socket_shaped fd _ (λ opened place. without_fault _ _ (listen_fault_no (socket_at plain.files.sockets place)) (tells _ _ refl))

  shuts : (fd how : ℤ) → Shaped script plain pid asked (shutdown script plain pid fd how)
  unfolding shutdown
  shuts fd how = socket_shaped fd _ (λ opened place. without_fault _ _ (shutdown_fault_no (stage_at plain.files.sockets place)) (tells _ _ refl))

  connects : (fd : ℤ) (path : List ℕ) → Shaped script plain pid asked (connect script plain pid fd path)
  unfolding connect
  connects fd path = socket_shaped fd _ (λ opened place.
      without_fault _ _ (connect_fault_no (stage_at plain.files.sockets place)) (go place _ (find_no plain.files.tree (directory_of plain.table pid) path)))
    where
      under : (place : ℕ) (o : Option ℕ) → Shaped script plain pid asked (connected_under script plain pid place o)
      under place None = fails errno.ECONNREFUSED (λ e. cc)
      under place (Some listener) =
          either (is_refused plain.files.sockets (Some listener)) (failed script plain pid errno.ECONNREFUSED) _ (fails errno.ECONNREFUSED (λ e. cc)) (tells _ _ refl)

      go : (place : ℕ) (r : Result (Option ℕ) Errno) → IsNoWant r → Shaped script plain pid asked (connected_by script plain pid place r)
      go place (Ok number) fine = under place (listener_under plain.files.sockets number)
      go place (Err e) fine = fails e fine

  accepts : (fd : ℤ) → may_block asked ≡ true → Shaped script plain pid asked (accept script plain pid fd)
  unfolding accept
  accepts fd may = socket_shaped fd _ (λ opened place. go place (lowest_free (descriptors_of plain.files pid)) _ (accept_no (stage_at plain.files.sockets place) _ opened.is.nonblock))
    where
      go : (listener : ℕ) (o : Option ℕ) (accepting : Accepting) → IsNoWantAccept accepting → Shaped script plain pid asked (accepted_under script plain pid listener o accepting)
      go listener (Some fd) (socket.Takes taken) fine = tells _ _ refl
      go listener None (socket.Takes taken) fine = fails errno.EMFILE (λ e. cc)
      go listener None socket.Waits fine = shape.blocks may refl
      go listener (Some fd) socket.Waits fine = shape.blocks may refl
      go listener None (socket.Refuses e) fine = fails e fine
      go listener (Some fd) (socket.Refuses e) fine = fails e fine

  polls : (timeout : ℤ) (entries : _) → may_block asked ≡ true → Shaped script plain pid asked (poll script plain pid timeout entries)
  unfolding poll
  polls timeout entries may =
      either ((hits_of (revents_of plain.files pid entries) == 0) && is_minus_one timeout) answer.Blocked _ (shape.blocks may refl) (says _ refl)

  -- ---- record locks

  claimed_no : (opened : Opened) (wanted : Request) → IsNoWant (claimed plain.files opened wanted.kind)
  claimed_no opened wanted = go (file_of plain.files.tree opened.is.target)
    where
      may : (number : ℕ) (b : Bool) → IsNoWant (cond b (Ok number) (Err errno.EBADF))
      may number true = tt
      may number false = λ e. cc

      go : (o : Option ℕ) → IsNoWant (claim_of opened.is.access wanted.kind o)
      go None = λ e. cc
      go (Some number) = may number (may_hold opened.is.access wanted.kind)

  claims : (wanted : Request) (stopped : Answer) (r : Result ℕ Errno) → IsNoWant r → Shaped script plain pid asked stopped → Shaped script plain pid asked (granted_or script plain pid wanted stopped r)
  claims wanted stopped (Err e) fine rest = fails e fine
  claims wanted stopped (Ok number) fine rest = either (is_clear plain.files.locks pid number wanted) _ stopped (tells _ (reply.Val (pos 0)) refl) rest

  sets : (fd kind start size : ℤ) → Shaped script plain pid asked (setlk script plain pid fd kind start size)
  unfolding setlk
  sets fd kind start size = opens_shaped fd _ (λ opened.
      claims (request_of kind start size) (failed script plain pid errno.EAGAIN) _ (claimed_no opened (request_of kind start size)) (fails errno.EAGAIN (λ e. cc)))

  sets_in_time : (fd kind start size : ℤ) → may_block asked ≡ true → Shaped script plain pid asked (setlkw script plain pid fd kind start size)
  unfolding setlkw
  sets_in_time fd kind start size may = opens_shaped fd _ (λ opened.
      claims (request_of kind start size) (cond (circles script plain pid) (failed script plain pid errno.EDEADLK) answer.Blocked) _ (claimed_no opened (request_of kind start size))
      (either (circles script plain pid) (failed script plain pid errno.EDEADLK) answer.Blocked (fails errno.EDEADLK (λ e. cc)) (shape.blocks may refl)))

  tells_lock : (fd kind start size : ℤ) → Shaped script plain pid asked (getlk script plain pid fd kind start size)
  unfolding getlk
  tells_lock fd kind start size = opens_shaped fd _ (λ opened. go (file_of plain.files.tree opened.is.target))
    where
      told : (o : Option Lock) → Shaped script plain pid asked (replied script plain pid (lock_told o))
      told None = says _ refl
      told (Some lock) = says _ refl

      go : (o : Option ℕ) → Shaped script plain pid asked (on_locks.told_of script plain pid (request_of kind start size) o)
      go None = fails errno.EINVAL (λ e. cc)
      go (Some number) = told (first_in_way plain.files.locks pid number (request_of kind start size))

  -- ---- processes and memory

  forks_shaped : Shaped script plain pid asked (fork script plain pid)
  forks_shaped = either (is_full plain) (failed script plain pid errno.EAGAIN) _ (fails errno.EAGAIN (λ e. cc)) (shape.forks refl)

  waits : (which options : ℤ) → may_block asked ≡ true → Shaped script plain pid asked (waitpid script plain pid which options)
  waits which options may = go (exited_from pid which 1 plain.table) refl
    where
      ended : (exited : Exited) → exited_from pid which 1 plain.table ≡ Some exited → is_alive plain.table exited.pid ≡ false
      ended exited is = let found = exited_has_ended pid which 1 plain.table exited is in
          ap (is_alive plain.table) (let k : exited.pid ≡ 1 + found.0 = found.1 in let e : exited.pid ≡ suc found.0 = omega arith in e) ∙ found.2

      go : (o : Option Exited) → exited_from pid which 1 plain.table ≡ o → Shaped script plain pid asked (waited_for script plain pid which options o)
      go None is = either (any_from pid which 1 plain.table) _ (failed script plain pid errno.ECHILD)
          (either (is_nohang options) (replied script plain pid (reply.Val (pos 0))) answer.Blocked (says _ refl) (shape.blocks may refl)) (fails errno.ECHILD (λ e. cc))
      go (Some exited) is = shape.reaps exited.pid exited.status (ended exited is) refl

  kills : (target signal : ℤ) → asked ≡ call.Kill target signal → Shaped script plain pid asked (kill script plain pid target signal)
  kills (negsuc n) signal called = fails errno.ESRCH (λ e. cc)
  kills (pos target) signal called = go (process_at plain.table target) refl
    where
      none : Shaped script plain pid asked (replied script plain pid (reply.Val (pos 0)))
      none = says _ refl

      first_holds : (a b : Bool) → (a && b) ≡ true → a ≡ true
      first_holds true b e = refl
      first_holds false b e = cc

      strikes : target ≢ 1 → is_alive plain.table target ≡ true → (own : Bool) → (target == pid) ≡ own
          → Shaped script plain pid asked (cond own (answer.Ended (count_of signal) (die plain pid (count_of signal))) (replied script (die plain target (count_of signal)) pid (reply.Val (pos 0))))
      strikes other alive true same = shape.ends (count_of signal) refl
      strikes other alive false apart = shape.ends_another target signal called other (λ same. differ target pid apart same) alive refl
        where
          differ : (a b : ℕ) → (a == b) ≡ false → a ≢ b
          differ a b apart same = elim (eqb_tells a b) [ inl alike ↦ (let f = alike.0 in cc) | inr two ↦ two.1 same ]

      running : target ≢ 1 → (process : Process) → process_at plain.table target ≡ Some process → (b : Bool) → is_ended_by (count_of signal) process ≡ b
          → Shaped script plain pid asked (cond b (struck script plain pid target (count_of signal)) (replied script plain pid (reply.Val (pos 0))))
      running other process found true is = strikes other (ap is_alive_in found ∙ first_holds (runs process.status) _ is) (target == pid) refl
      running other process found false is = none

      first : (process : Process) → process_at plain.table target ≡ Some process → (b : Bool) → (target == 1) ≡ b
          → Shaped script plain pid asked (cond b (failed script plain pid errno.EPERM) (killing.ends script plain pid target (count_of signal) process))
      first process found true same = fails errno.EPERM (λ e. cc)
      first process found false apart = running other process found (is_ended_by (count_of signal) process) refl
        where
          other : target ≢ 1
          other same = elim (eqb_tells target 1) [ inl alike ↦ (let f = alike.0 in cc) | inr two ↦ two.1 same ]

      go : (o : Option Process) → process_at plain.table target ≡ o → Shaped script plain pid asked (sent_to script plain pid target signal o)
      go None found = fails errno.ESRCH (λ e. cc)
      go (Some process) found = either (is_asking signal) (replied script plain pid (reply.Val (pos 0))) _ none (first process found (target == 1) refl)

  maps : (size : ℤ) → Shaped script plain pid asked (mmap script plain pid size)
  maps size = go (lowest_run (memory_of plain.table pid) (pages_in (count_of size)))
    where
      go : (o : Option ℕ) → Shaped script plain pid asked (mapped_from script plain pid (pages_in (count_of size)) o)
      go None = fails errno.EMFILE (λ e. cc)
      go (Some at) = keeps plain.files _ _ refl (shape.maps at _ refl)

  -- ---- every call

  pub right : (which : Call) → asked ≡ which → Shaped script plain pid asked (answer_to script plain pid which)
  right call.Getpid called = says _ refl
  right call.Getppid called = says _ refl
  right call.SchedYield called = says _ refl
  right call.Fork called = forks_shaped
  right (call.Exec path) called = execs path
  right (call.Exit status) called = shape.ends (exit_status status) refl
  right (call.Waitpid which options) called = waits which options (ap may_block called)
  right (call.Kill target signal) called = kills target signal called
  right (call.Mmap size) called = maps size
  right (call.Munmap addr size) called = keeps plain.files _ _ refl (shape.unmaps (count_of addr / page_size) (pages_touched (count_of addr) (count_of size)) refl)
  right (call.Store addr bytes) called = ranged addr (length bytes) _ (keeps plain.files _ _ refl (shape.stores addr bytes called refl))
  right (call.Load addr n) called = ranged addr (count_of n) _ (says _ refl)
  right (call.OpenFile path flags) called = opens_file path flags called
  right (call.Close fd) called = closes fd
  right (call.Dup fd) called = dups fd
  right (call.Dup2 fd to) called = dups_to fd to
  right (call.Fcntl fd cmd arg) called = controls fd cmd arg
  right (call.Read fd addr n) called = reads fd addr n (ap may_block called)
  right (call.Write fd addr n done) called = writes fd addr n done called
  right (call.Pread fd addr n at) called = preads fd addr n at
  right (call.Pwrite fd addr n at) called = pwrites fd addr n at
  right (call.Lseek fd offset whence) called = seeks fd offset whence
  right (call.Readdir fd addr n) called = lists fd addr n
  right (call.Ftruncate fd size) called = truncates fd size
  right (call.Fstat fd) called = fstats fd
  right (call.Stat path) called = stats path
  right (call.Chdir path) called = enters path called
  right (call.Mkdir path) called = makes path
  right (call.Rmdir path) called = removes path
  right (call.Unlink path) called = unlinks path
  right (call.Link old new) called = links old new
  right (call.Rename old new) called = renames old new
  right call.Pipe called = pipes_shaped
  right call.Socket called = sockets_shaped
  right call.Socketpair called = pairs_shaped
  right (call.Bind fd path) called = binds fd path
  right (call.Listen fd) called = listens_shaped fd
  right (call.Connect fd path) called = connects fd path
  right (call.Accept fd) called = accepts fd (ap may_block called)
  right (call.Shutdown fd how) called = shuts fd how
  right (call.Poll timeout entries) called = polls timeout entries (ap may_block called)
  right (call.Signal which disposition) called = shape.disposes which disposition _ _ called refl
  right (call.Mkfifo path) called = makes_fifo path
  right (call.Setlk fd kind start size) called = sets fd kind start size
  right (call.Setlkw fd kind start size) called = sets_in_time fd kind start size (ap may_block called)
  right (call.Getlk fd kind start size) called = tells_lock fd kind start size

-- a wrong operand is told
pub wrong : (script : Script) (plain : Plain) (pid : ℕ) (which : Call) (e : Errno) → argument_fault which ≡ Some e → Shaped script plain pid which (failed script plain pid e)
wrong script plain pid which e is = fails script plain pid which e (subst IsNoWantFault is (fault_no which))

pub machine_shape : (script : Script) (plain : Plain) (pid : ℕ) (which : Call) → Shaped script plain pid which (machine script plain pid which)
machine_shape script plain pid which = go (argument_fault which) refl
  where
    go : (fault : Option Errno) → argument_fault which ≡ fault → Shaped script plain pid which (unless_wrong script plain pid fault (answer_to script plain pid which))
    go None is = right script plain pid which which refl
    go (Some e) is = wrong script plain pid which e is

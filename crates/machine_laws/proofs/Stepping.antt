-- Each answer of each call leads to files that one step leads to.
use Rattle.std.proofs.Common.{◌≡◌, ◌≢◌, ℕ, zero, suc, ◌+◌, ◌-◌, ◌≤◌, arith, ◌==◌, ◌&&◌, ◌||◌, nat_lt, not, ℤ, pos, negsuc, ◌+ℤ◌, Bool, true, false, cond, List, length, Option, None, Some, is_some, Result, Ok, Err, refl, ap, sym, ◌∙◌, subst}
use Rattle.std.specs.Option.{option_or}
use Rattle.std.proofs.lemmas.Bool.{ltb-false}
use Rattle.kabi_types.specs.Arguments.{argument_fault, count_of, greatest_place, invalid_unless, is_from, is_minus_one, is_within, locked_fault, may_be_descriptor}
use Rattle.kabi_types.specs.declared.calls.Call.{Call}
use Rattle.kabi_types.specs.declared.calls.Call.TheVariants as call
use Rattle.kabi_types.specs.declared.errnos.Errno.{Errno}
use Rattle.kabi_types.specs.declared.errnos.Errno.TheVariants.{EBADF, EOVERFLOW}
use Rattle.kabi_types.specs.declared.replies.StatInfo.{StatInfo}
use Rattle.kabi_types.specs.declared.scripts.Script.{Script}
use Rattle.kabi_types.specs.declared.replies.Reply.TheVariants.{Val}
use Rattle.posix_defs.specs.Answer.{Answer, replied}
use Rattle.posix_defs.specs.ByPid.{with_pid}
use Rattle.posix_defs.specs.Forking.{fork, is_full}
use Rattle.posix_defs.specs.Killing.{is_asking, is_ended_by, kill, sent_to, struck}
use Rattle.posix_defs.specs.Locks.{Request}
use Rattle.posix_defs.specs.Machine.{answer_to, machine, unless_wrong}
use Rattle.posix_defs.specs.Memory.{is_mapped_range, lowest_run}
use Rattle.posix_defs.specs.MemoryCalls.{in_range, mapped_from, mmap}
use Rattle.posix_defs.specs.Needs.{pages_in}
use Rattle.posix_defs.specs.Pipe.{Moving, opens_of, pipe_read, with_end}
use Rattle.posix_defs.specs.Pipe as pipes
use Rattle.posix_defs.specs.Plain.{Plain, with_files}
use Rattle.posix_defs.specs.Process.{Process, directory_of, memory_of, process_at}
use Rattle.posix_defs.specs.Reaching.{is_on_node}
use Rattle.posix_defs.specs.Socket.{Accepting, is_connected}
use Rattle.posix_defs.specs.Socket as socket
use Rattle.posix_defs.specs.Sockets.{after_listen, after_shut, sock_read, stage_at, socket_at, is_refused}
use Rattle.posix_defs.specs.Tree.{Tree, is_directory}
use Rattle.posix_defs.specs.TreeChanges.{resize}
use Rattle.posix_defs.specs.TreeChanges as trees
use Rattle.posix_defs.specs.PathCalls.{bind_path, enter_path, exec_path, find_socket, is_fifo, link_path, mkdir_path, mkfifo_path, open_path, rename_path, rmdir_path, stat_path, unlink_path}
use Rattle.posix_defs.specs.Waiting.{Exited, any_from, exited_from, is_nohang, waited_for, waitpid}
use Rattle.posix_defs.specs.Files.Descriptors.{Two, lowest_free, lowest_free_from, two_lowest_free}
use Rattle.posix_defs.specs.Files.Descriptions.{Target, OnNode, OnPipe, OnSocket, access_of, has_flag, may_read, may_write, o_cloexec}
use Rattle.posix_defs.specs.Files.SocketNames.{listener_at}
use Rattle.posix_defs.specs.Files.State.{Files, HalfOpen, descriptors_of, node_of, opened_as, opening_at, opens, pipe_at, with_openings}
use Rattle.posix_defs.specs.Calls.Opened.{Opened, answer_on, if_readable, if_writable, on_open, opened_at}
use Rattle.posix_defs.specs.Calls.OnDescriptors.{close, controlled, dup, dup2, duplicated, fcntl}
use Rattle.posix_defs.specs.Calls.Reading.{is_directory_target, list_target, of_bytes, pread, pread_target, read, read_from_pipe, read_from_socket, read_target, readdir}
use Rattle.posix_defs.specs.Calls.Writing.{bytes_left, did_part, place_of_write, put_in_pipe, put_in_socket, pwrite, pwrite_target, write, write_ignoring, write_queue, write_target, wrote, wrote_at}
use Rattle.posix_defs.proofs.SignalLemmas.{of_write}
use Rattle.posix_defs.specs.Calls.OnFiles.{description_on, end_awaits, end_opened, fifo_at, fifo_fault, fifo_pipe, fifo_place, fifo_there, fifo_waits, fstat, ftruncate, greatest_offset, is_between_entries, is_met, lseek, open_at, open_by, open_end, open_file, opened_node_as, opening_of, origin, resized_to, seek_target, seek_to, truncate_target, with_fifo}
use Rattle.posix_defs.specs.Calls.OnNames.{chdir, freed_in, is_busy, link, made_node, mkdir, mkfifo, rename, retreed, rmdir, stat, told_of, unlink, works_from}
use Rattle.posix_defs.specs.Calls.Starting.{exec, starts}
use Rattle.posix_defs.specs.Calls.OnPipes.{pipe, piped_under}
use Rattle.posix_defs.specs.Calls.OnSockets.{accept, accepted_under, bind, bound_to, connect, connected_by, connected_under, listen, listener_under, on_socket, paired_under, resocketed, shutdown, socket_target, socketed_under, socketpair, unless_fault}
use Rattle.posix_defs.specs.Calls.OnSockets as on_sockets
use Rattle.posix_defs.specs.Calls.OnLocks.{circles, claim_of, claimed, file_of, getlk, granted_or, is_clear, may_hold, request_of, setlk, setlkw}
use Rattle.posix_defs.specs.Calls.OnLocks as on_locks
use Rattle.posix_defs.specs.Calls.Polling.{hits_of, poll, revents_of}
use Rattle.machine_laws.proofs.Between.{listed_between, of_file, sought_between}
use Rattle.machine_laws.specs.FileSteps as step
use Rattle.machine_laws.specs.FileSteps.{ArePlaces, IsStep, MayWait, OpensEnd, Steps, WritesNode, is_setting, may_end_caller, may_end_other}

-- what is asked of an answer
abbrev Stepped : Plain → ℕ → Call → Answer → Type 0
Stepped plain pid which given = Steps plain pid which given

-- a descriptor that is open on a node reaches one
on_node : (files : Files) (o : Option Opened) (opened : Opened) (number : ℕ) → o ≡ Some opened → opened.is.target ≡ OnNode number
    → (is_on_node files o || false) ≡ true
on_node files o opened number is target =
    ap (λ o. is_on_node files o || false) is ∙ ap (λ t. is_some (node_of files t) || false) target

-- an end of a FIFO is opened, by the place of its pipe
abbrev pub end_at : Files → ℕ → ℤ → ℕ → ℕ → Option ℕ → Files
end_at files pid flags fd number at =
    opened_as (with_fifo files at (with_end (fifo_there files number at) (may_write (access_of flags)))) pid fd (has_flag flags o_cloexec) (description_on (OnPipe (fifo_place files at)) flags)

-- who waits for the other side of a FIFO is as before
pub end_openings : (files : Files) (pid : ℕ) (flags : ℤ) (fd number : ℕ) → (end_opened files pid flags fd number).openings ≡ files.openings
end_openings files pid flags fd number = go (fifo_at files number)
  where
    go : (at : Option ℕ) → (end_at files pid flags fd number at).openings ≡ files.openings
    go None = refl
    go (Some place) = refl

-- what the operands of a call on record locks ask for are places of a file
ends_there : (most start size : ℕ) → start + (size - 1) ≤ most → (start ≤ cond (size == 0) most (start + size - 1)) × (cond (size == 0) most (start + size - 1) ≤ most)
ends_there most start size h = by (size == 0) refl
  where
    some : (size == 0) ≡ false → size ≢ 0
    some is none = absurd (no (sym is ∙ ap (λ n. n == 0) none))
      where
        no : false ≡ true → ⊥
        no e = cc

    by : (b : Bool) → (size == 0) ≡ b → (start ≤ cond b most (start + size - 1)) × (cond b most (start + size - 1) ≤ most)
    by true is = (let low : start ≤ most = omega (arith, h) in low, let high : most ≤ most = omega arith in high)
    by false is = let more : size ≢ 0 = some is in
        (let low : start ≤ start + size - 1 = omega (arith, more) in low, let high : start + size - 1 ≤ most = omega (arith, h, more) in high)

ends_before : (right beyond : Bool) → option_or (invalid_unless right) (cond beyond (Some EOVERFLOW) None) ≡ None → beyond ≡ false
ends_before right false e = refl
ends_before true true e = absurd (let f = e in cc)
ends_before false true e = absurd (let f = e in cc)

pub places_of : (most : ℕ) (kind start size : ℤ) → locked_fault most kind start size ≡ None → ArePlaces (request_of kind start size)
places_of most kind start size fine = ends_there greatest_place (count_of start) (count_of size)
    (ltb-false greatest_place (count_of start + (count_of size - 1))
    (ends_before (is_within 0 most kind && (is_from 0 start && is_from 0 size)) (nat_lt greatest_place (count_of start + (count_of size - 1))) fine))

module _ (script : Script) (plain : Plain) (pid : ℕ) (which : Call) where
  either : (b : Bool) (one two : Answer) → (b ≡ true → Stepped plain pid which one) → (b ≡ false → Stepped plain pid which two) → Stepped plain pid which (cond b one two)
  either true one two this that = this refl
  either false one two this that = that refl

  opens_step : (fd : ℤ) (given : Opened → Answer) → ((opened : Opened) → opened_at plain.files pid fd ≡ Some opened → Stepped plain pid which (given opened))
      → Stepped plain pid which (on_open script plain pid fd given)
  opens_step fd given each = go (opened_at plain.files pid fd) refl
    where
      go : (o : Option Opened) → opened_at plain.files pid fd ≡ o → Stepped plain pid which (answer_on script plain pid given o)
      go None is = step.stays refl
      go (Some opened) is = each opened is

  readable : (opened : Opened) (given : Answer) → (may_read opened.is.access ≡ true → Stepped plain pid which given) → Stepped plain pid which (if_readable script plain pid opened given)
  readable opened given rest = either (may_read opened.is.access) given _ rest (λ no. step.stays refl)

  writable : (opened : Opened) (given : Answer) → (may_write opened.is.access ≡ true → Stepped plain pid which given) → Stepped plain pid which (if_writable script plain pid opened given)
  writable opened given rest = either (may_write opened.is.access) given _ rest (λ no. step.stays refl)

  ranged : (addr : ℤ) (n : ℕ) (given : Answer) → Stepped plain pid which given → Stepped plain pid which (in_range script plain pid addr n given)
  ranged addr n given rest = either (is_mapped_range (memory_of plain.table pid) (count_of addr) n) given _ (λ is. rest) (λ no. step.stays refl)

  bytes_step : (addr n : ℤ) (given : Answer) → Stepped plain pid which given → Stepped plain pid which (of_bytes script plain pid addr n given)
  bytes_step addr n given rest = ranged addr (count_of n) _ (either (count_of n == 0) _ given (λ none. step.stays refl) (λ some. rest))

  shared : (fd : ℤ) (opened : Opened) (from : ℕ) (o : Option ℕ) → opened_at plain.files pid fd ≡ Some opened
      → lowest_free_from (descriptors_of plain.files pid) from ≡ o → Stepped plain pid which (duplicated script plain pid opened o)
  shared fd opened from None is free = step.stays refl
  shared fd opened from (Some to) is free = step.shares fd opened from to is free refl

  -- ---- reads

  read_on : (fd addr n : ℤ) (opened : Opened) (target : Target) → which ≡ call.Read fd addr n → opened_at plain.files pid fd ≡ Some opened → opened.is.target ≡ target
      → may_read opened.is.access ≡ true → is_directory_target plain.files.tree target ≡ false → Stepped plain pid which (read_target script plain pid opened addr (count_of n) target)
  read_on fd addr n opened (OnNode number) called is on may isnt = step.describes fd opened _ is refl refl (of_file plain.files.tree opened.is number _ on isnt) refl
  read_on fd addr n opened (OnPipe place) called is on may isnt = go _ refl
    where
      go : (moving : Moving) → pipe_read (pipe_at plain.files place) opened.is.nonblock (count_of n) ≡ moving → Stepped plain pid which (read_from_pipe script plain pid place addr moving)
      go (pipes.Moves k) moves = step.takes fd addr n opened place k called is on may moves refl
      go pipes.Blocks moves = tt
      go (pipes.Fails e) moves = step.stays refl
  read_on fd addr n opened (OnSocket place) called is on may isnt = go _ refl
    where
      go : (moving : Moving) → sock_read plain.files.sockets place opened.is.nonblock (count_of n) ≡ moving → Stepped plain pid which (read_from_socket script plain pid place addr moving)
      go (pipes.Moves k) moves = step.receives fd addr n opened place k called is on moves refl
      go pipes.Blocks moves = tt
      go (pipes.Fails e) moves = step.stays refl

  reads : (fd addr n : ℤ) → which ≡ call.Read fd addr n → Stepped plain pid which (read script plain pid fd addr n)
  unfolding read
  reads fd addr n called = opens_step fd _ (λ opened is. readable opened _ (λ may.
      either (is_directory_target plain.files.tree opened.is.target) _ _ (λ yes. step.stays refl) (λ no.
      bytes_step addr n _ (read_on fd addr n opened opened.is.target called is refl may no))))

  preads : (fd addr n at : ℤ) → Stepped plain pid which (pread script plain pid fd addr n at)
  unfolding pread
  preads fd addr n at = opens_step fd _ (λ opened is. readable opened _ (λ may. go opened.is.target))
    where
      go : (target : Target) → Stepped plain pid which (pread_target script plain pid addr n (count_of at) target)
      go (OnNode number) = either (is_directory plain.files.tree number) _ _ (λ yes. step.stays refl) (λ no. bytes_step addr n _ (step.stays refl))
      go (OnPipe place) = step.stays refl
      go (OnSocket place) = step.stays refl

  lists : (fd addr n : ℤ) → Stepped plain pid which (readdir script plain pid fd addr n)
  unfolding readdir
  lists fd addr n = opens_step fd _ (λ opened is. go opened opened.is.target is refl)
    where
      go : (opened : Opened) (target : Target) → opened_at plain.files pid fd ≡ Some opened → opened.is.target ≡ target → Stepped plain pid which (list_target script plain pid opened addr n target)
      go opened (OnNode number) is on =
          either (is_directory plain.files.tree number) _ _
          (λ yes. ranged addr (count_of n) _ (step.describes fd opened _ is refl refl (listed_between plain.files.tree opened.is number (count_of n) on) refl)) (λ no. step.stays refl)
      go opened (OnPipe place) is on = step.stays refl
      go opened (OnSocket place) is on = step.stays refl

  -- ---- writes

  queue_step : (nonblock : Bool) (n done : ℕ) (next : ℕ → Files) (moving : Moving) → ((k : ℕ) → moving ≡ pipes.Moves k → IsStep plain pid which true (next k))
      → Stepped plain pid which (write_queue script plain pid nonblock n done next moving)
  queue_step nonblock n done next (pipes.Moves k) each =
      either (k == n - done) _ _ (λ all. each k refl) (λ part. either nonblock _ _ (λ yes. each k refl) (λ no. each k refl))
  queue_step nonblock n done next pipes.Blocks each = tt
  queue_step nonblock n done next (pipes.Fails e) each = either (done == 0) _ _ (λ none. step.stays refl) (λ some. step.stays refl)

  write_on : (fd addr n : ℤ) (done : ℕ) (opened : Opened) (target : Target)
      → which ≡ call.Write fd addr n done → opened_at plain.files pid fd ≡ Some opened → opened.is.target ≡ target → may_write opened.is.access ≡ true
      → ((number : ℕ) → opened.is.target ≡ OnNode number → WritesNode plain pid which fd opened number)
      → Stepped plain pid which (write_target script plain pid opened addr (count_of n) done target)
  write_on fd addr n done opened (OnNode number) called is on may reaches = go _ refl
    where
      go : (r : Result (ℕ × Tree) Errno) → trees.write plain.files.tree number (place_of_write plain.files.tree opened number) (bytes_left plain pid addr (count_of n) done) ≡ r
          → Stepped plain pid which (wrote script plain pid opened (place_of_write plain.files.tree opened number) r)
      go (Ok written) wrote_it = step.writes fd addr n done opened number _ _ written (reaches number on) wrote_it refl
      go (Err e) wrote_it = step.stays refl
  write_on fd addr n done opened (OnPipe place) called is on may reaches =
      queue_step opened.is.nonblock (count_of n) done (put_in_pipe plain.files place (bytes_left plain pid addr (count_of n) done)) _ (λ k moves.
      step.puts fd addr n done opened place k called is on may moves refl)
  write_on fd addr n done opened (OnSocket place) called is on may reaches =
      either (is_connected (stage_at plain.files.sockets place)) _ _ (λ yes.
      queue_step opened.is.nonblock (count_of n) done (put_in_socket plain.files place (bytes_left plain pid addr (count_of n) done)) _ (λ k moves.
      step.sends fd addr n done opened place k called is on moves refl)) (λ no. step.stays refl)

  -- ---- sockets

  socket_step : (fd : ℤ) (given : Opened → ℕ → Answer)
      → ((opened : Opened) (place : ℕ) → opened_at plain.files pid fd ≡ Some opened → opened.is.target ≡ OnSocket place → Stepped plain pid which (given opened place))
      → Stepped plain pid which (on_socket script plain pid fd given)
  socket_step fd given each = opens_step fd _ (λ opened is. go opened opened.is.target is refl)
    where
      go : (opened : Opened) (target : Target) → opened_at plain.files pid fd ≡ Some opened → opened.is.target ≡ target
          → Stepped plain pid which (socket_target script plain pid (given opened) target)
      go opened (OnNode number) is on = step.stays refl
      go opened (OnPipe place) is on = step.stays refl
      go opened (OnSocket place) is on = each opened place is on

  without_fault : (fault : Option Errno) (given : Answer) → (fault ≡ None → Stepped plain pid which given) → Stepped plain pid which (unless_fault script plain pid fault given)
  without_fault None given rest = rest refl
  without_fault (Some e) given rest = step.stays refl

  connects : (fd : ℤ) (path : List ℕ) → Stepped plain pid which (connect script plain pid fd path)
  unfolding connect
  connects fd path = socket_step fd _ (λ opened place is on.
      without_fault _ _ (λ fine. go opened place is on fine (find_socket plain.files.tree (directory_of plain.table pid) path)))
    where
      under : (opened : Opened) (place number : ℕ) (o : Option ℕ) → opened_at plain.files pid fd ≡ Some opened → opened.is.target ≡ OnSocket place
          → socket.connect_fault (stage_at plain.files.sockets place) ≡ None → listener_at plain.files.sockets number ≡ o
          → Stepped plain pid which (connected_under script plain pid place o)
      under opened place number None is on fine listening = step.stays refl
      under opened place number (Some listener) is on fine listening =
          either (is_refused plain.files.sockets (Some listener)) _ _ (λ yes. step.stays refl) (λ no.
          step.connects fd opened place number listener is on fine listening no refl)

      named : (opened : Opened) (place : ℕ) (o : Option ℕ) → opened_at plain.files pid fd ≡ Some opened → opened.is.target ≡ OnSocket place
          → socket.connect_fault (stage_at plain.files.sockets place) ≡ None → Stepped plain pid which (connected_under script plain pid place (listener_under plain.files.sockets o))
      named opened place None is on fine = step.stays refl
      named opened place (Some number) is on fine = under opened place number _ is on fine refl

      go : (opened : Opened) (place : ℕ) → opened_at plain.files pid fd ≡ Some opened → opened.is.target ≡ OnSocket place
          → socket.connect_fault (stage_at plain.files.sockets place) ≡ None
          → (r : Result (Option ℕ) Errno) → Stepped plain pid which (connected_by script plain pid place r)
      go opened place is on fine (Ok number) = named opened place number is on fine
      go opened place is on fine (Err e) = step.stays refl

  accepts : (fd : ℤ) → Stepped plain pid which (accept script plain pid fd)
  unfolding accept
  accepts fd = socket_step fd _ (λ opened place is on. go opened place is on (lowest_free (descriptors_of plain.files pid)) refl _ refl)
    where
      go : (opened : Opened) (place : ℕ) → opened_at plain.files pid fd ≡ Some opened → opened.is.target ≡ OnSocket place
          → (o : Option ℕ) → lowest_free (descriptors_of plain.files pid) ≡ o
          → (accepting : Accepting) → socket.accept (stage_at plain.files.sockets place) (is_some o) opened.is.nonblock ≡ accepting
          → Stepped plain pid which (accepted_under script plain pid place o accepting)
      go opened place is on (Some to) free (socket.Takes taken) takes = step.accepts fd opened place to taken is on free takes refl
      go opened place is on None free (socket.Takes taken) takes = step.stays refl
      go opened place is on None free socket.Waits takes = tt
      go opened place is on (Some to) free socket.Waits takes = tt
      go opened place is on None free (socket.Refuses e) takes = step.stays refl
      go opened place is on (Some to) free (socket.Refuses e) takes = step.stays refl

  listens_step : (fd : ℤ) → Stepped plain pid which (listen script plain pid fd)
  unfolding listen
  listens_step fd = socket_step fd _ (λ opened place is on.
      without_fault (socket.listen_fault (socket_at plain.files.sockets place)) (resocketed script plain pid (after_listen plain.files.sockets place)) (λ fine. step.listens fd opened place is on fine refl))

  shuts : (fd how : ℤ) → Stepped plain pid which (shutdown script plain pid fd how)
  unfolding shutdown
  shuts fd how = socket_step fd _ (λ opened place is on.
      without_fault (socket.shutdown_fault (stage_at plain.files.sockets place)) (resocketed script plain pid (after_shut plain.files.sockets place how)) (λ fine. step.shuts fd how opened place is on fine refl))

  pipes_step : Stepped plain pid which (pipe script plain pid)
  unfolding pipe
  pipes_step = go (two_lowest_free (descriptors_of plain.files pid)) refl
    where
      go : (o : Option Two) → two_lowest_free (descriptors_of plain.files pid) ≡ o → Stepped plain pid which (piped_under script plain pid o)
      go None is = step.stays refl
      go (Some two) is = step.pipes two is refl

  sockets_step : Stepped plain pid which (on_sockets.socket script plain pid)
  unfolding on_sockets.socket
  sockets_step = go (lowest_free (descriptors_of plain.files pid)) refl
    where
      go : (o : Option ℕ) → lowest_free (descriptors_of plain.files pid) ≡ o → Stepped plain pid which (socketed_under script plain pid o)
      go None is = step.stays refl
      go (Some fd) is = step.sockets fd is refl

  pairs_step : Stepped plain pid which (socketpair script plain pid)
  unfolding socketpair
  pairs_step = go (two_lowest_free (descriptors_of plain.files pid)) refl
    where
      go : (o : Option Two) → two_lowest_free (descriptors_of plain.files pid) ≡ o → Stepped plain pid which (paired_under script plain pid o)
      go None is = step.stays refl
      go (Some two) is = step.pairs two is refl

  -- ---- descriptors and descriptions

  closes : (fd : ℤ) → Stepped plain pid which (close script plain pid fd)
  unfolding close
  closes fd = opens_step fd _ (λ opened is. step.closes fd opened is refl)

  dups : (fd : ℤ) → Stepped plain pid which (dup script plain pid fd)
  unfolding dup
  dups fd = opens_step fd _ (λ opened is. shared fd opened 0 _ is refl)

  dups_to : (fd to : ℤ) → Stepped plain pid which (dup2 script plain pid fd to)
  unfolding dup2
  dups_to fd to = opens_step fd _ (λ opened is. either (may_be_descriptor to) _ _ (λ may.
      either (count_of fd == count_of to) _ _ (λ same. step.stays refl) (λ apart. step.shares_over fd to opened is may apart refl)) (λ no. step.stays refl))

  controls : (fd cmd arg : ℤ) → Stepped plain pid which (fcntl script plain pid fd cmd arg)
  unfolding fcntl
  controls fd cmd arg = opens_step fd _ (λ opened is. go opened is (count_of cmd))
    where
      go : (opened : Opened) → opened_at plain.files pid fd ≡ Some opened → (number : ℕ) → Stepped plain pid which (controlled script plain pid (count_of fd) number arg opened)
      go opened is zero = shared fd opened (count_of arg) _ is refl
      go opened is (suc zero) = step.stays refl
      go opened is (suc (suc zero)) = step.marks fd opened (has_flag arg 1) is refl
      go opened is (suc (suc (suc zero))) = step.stays refl
      go opened is (suc (suc (suc (suc zero)))) = step.describes fd opened _ is refl refl (λ number on is_tree dir between. between) refl
      go opened is (suc (suc (suc (suc (suc n))))) = step.stays refl

  seeks : (fd offset whence : ℤ) → Stepped plain pid which (lseek script plain pid fd offset whence)
  unfolding lseek
  seeks fd offset whence = opens_step fd _ (λ opened is. go opened opened.is.target is refl)
    where
      at : (opened : Opened) (number : ℕ) (place : ℤ) → opened_at plain.files pid fd ≡ Some opened → opened.is.target ≡ OnNode number → Stepped plain pid which (seek_to script plain pid opened number place)
      at opened number (negsuc n) is on = step.stays refl
      at opened number (pos place) is on =
          either (nat_lt greatest_offset place) _ _ (λ yes. step.stays refl) (λ no.
          either (is_between_entries plain.files.tree number place) _ _ (λ yes. step.stays refl) (λ no. step.describes fd opened _ is refl refl (sought_between plain.files.tree opened.is number place on no) refl))

      go : (opened : Opened) (target : Target) → opened_at plain.files pid fd ≡ Some opened → opened.is.target ≡ target
          → Stepped plain pid which (seek_target script plain pid opened offset (count_of whence) target)
      go opened (OnNode number) is on = at opened number (pos (origin plain.files.tree opened number (count_of whence)) +ℤ offset) is on
      go opened (OnPipe place) is on = step.stays refl
      go opened (OnSocket place) is on = step.stays refl

  fstats : (fd : ℤ) → Stepped plain pid which (fstat script plain pid fd)
  unfolding fstat
  fstats fd = opens_step fd _ (λ opened is. step.stays refl)

  stats : (path : List ℕ) → Stepped plain pid which (stat script plain pid path)
  unfolding stat
  stats path = go (stat_path plain.files.tree (directory_of plain.table pid) path)
    where
      go : (r : Result StatInfo Errno) → Stepped plain pid which (told_of script plain pid r)
      go (Ok info) = step.stays refl
      go (Err e) = step.stays refl

  enters : (path : List ℕ) → Stepped plain pid which (chdir script plain pid path)
  unfolding chdir
  enters path = go (enter_path plain.files.tree (directory_of plain.table pid) path)
    where
      go : (r : Result ℕ Errno) → Stepped plain pid which (works_from script plain pid r)
      go (Ok number) = step.stays refl
      go (Err e) = step.stays refl

  execs : (path : List ℕ) → Stepped plain pid which (exec script plain pid path)
  unfolding exec
  execs path = go (exec_path plain.files.tree (directory_of plain.table pid) path script.programs)
    where
      go : (r : Result ℕ Errno) → Stepped plain pid which (starts script plain pid r)
      go (Ok place) = step.starts refl
      go (Err e) = step.stays refl

  polls : (timeout : ℤ) (entries : _) → Stepped plain pid which (poll script plain pid timeout entries)
  unfolding poll
  polls timeout entries = either ((hits_of (revents_of plain.files pid entries) == 0) && is_minus_one timeout) _ _ (λ yes. tt) (λ no. step.stays refl)

  -- ---- record locks

  grants : (fd : ℤ) (opened : Opened) (asked : Request) (stopped : Answer) → is_setting which ≡ true → opened_at plain.files pid fd ≡ Some opened → ArePlaces asked
      → Stepped plain pid which stopped → Stepped plain pid which (granted_or script plain pid asked stopped (claimed plain.files opened asked.kind))
  grants fd opened asked stopped sets is places rest = on opened.is.target refl
    where
      may : (number : ℕ) → opened.is.target ≡ OnNode number → is_directory plain.files.tree number ≡ false → (b : Bool) → Stepped plain pid which (granted_or script plain pid asked stopped (cond b (Ok number) (Err EBADF)))
      may number target is_file true = either (is_clear plain.files.locks pid number asked) _ stopped (λ clear. step.locks fd opened number asked sets is target is_file places clear refl) (λ no. rest)
      may number target is_file false = step.stays refl

      file : (number : ℕ) → opened.is.target ≡ OnNode number → (b : Bool) → is_directory plain.files.tree number ≡ b → Stepped plain pid which (granted_or script plain pid asked stopped (claim_of opened.is.access asked.kind (cond b None (Some number))))
      file number target true is_directory_it = step.stays refl
      file number target false is_file = may number target is_file (may_hold opened.is.access asked.kind)

      on : (target : Target) → opened.is.target ≡ target → Stepped plain pid which (granted_or script plain pid asked stopped (claim_of opened.is.access asked.kind (file_of plain.files.tree target)))
      on (OnNode number) target = file number target (is_directory plain.files.tree number) refl
      on (OnPipe place) target = step.stays refl
      on (OnSocket place) target = step.stays refl

  sets_step : (fd kind start size : ℤ) → is_setting which ≡ true → ArePlaces (request_of kind start size) → Stepped plain pid which (setlk script plain pid fd kind start size)
  unfolding setlk
  sets_step fd kind start size sets places = opens_step fd _ (λ opened is. grants fd opened (request_of kind start size) _ sets is places (step.stays refl))

  sets_in_time_step : (fd kind start size : ℤ) → is_setting which ≡ true → ArePlaces (request_of kind start size) → Stepped plain pid which (setlkw script plain pid fd kind start size)
  unfolding setlkw
  sets_in_time_step fd kind start size sets places = opens_step fd _ (λ opened is. grants fd opened (request_of kind start size) _ sets is places
      (either (circles script plain pid) _ _ (λ yes. step.stays refl) (λ no. tt)))

  tells_lock : (fd kind start size : ℤ) → Stepped plain pid which (getlk script plain pid fd kind start size)
  unfolding getlk
  tells_lock fd kind start size = opens_step fd _ (λ opened is. go (file_of plain.files.tree opened.is.target))
    where
      go : (o : Option ℕ) → Stepped plain pid which (on_locks.told_of script plain pid (request_of kind start size) o)
      go None = step.stays refl
      go (Some number) = step.stays refl

  -- ---- processes and memory

  forks_step : which ≡ call.Fork → Stepped plain pid which (fork script plain pid)
  forks_step called = either (is_full plain) _ _ (λ yes. step.stays refl) (λ no. step.forks called refl)

  waits : (wanted options : ℤ) → Stepped plain pid which (waitpid script plain pid wanted options)
  waits wanted options = go (exited_from pid wanted 1 plain.table)
    where
      go : (o : Option Exited) → Stepped plain pid which (waited_for script plain pid wanted options o)
      go None = either (any_from pid wanted 1 plain.table) _ _ (λ some. either (is_nohang options) _ _ (λ yes. step.stays refl) (λ no. tt)) (λ none. step.stays refl)
      go (Some exited) = step.stays refl

  kills : (target signal : ℤ) → may_end_caller which ≡ true → may_end_other which ≡ true → Stepped plain pid which (kill script plain pid target signal)
  kills (negsuc n) signal itself another = step.stays refl
  kills (pos target) signal itself another = go (process_at plain.table target)
    where
      strikes : Stepped plain pid which (struck script plain pid target (count_of signal))
      strikes = either (target == pid) _ _ (λ own. step.ends_caller refl itself refl) (λ other. step.ends_other target another refl)

      go : (o : Option Process) → Stepped plain pid which (sent_to script plain pid target signal o)
      go None = step.stays refl
      go (Some process) = either (is_asking signal) _ _ (λ asks. step.stays refl) (λ strikes_it.
          either (target == 1) _ _ (λ first. step.stays refl) (λ other. either (is_ended_by (count_of signal) process) _ _ (λ yes. strikes) (λ no. step.stays refl)))

  maps : (size : ℤ) → Stepped plain pid which (mmap script plain pid size)
  maps size = go (lowest_run (memory_of plain.table pid) (pages_in (count_of size)))
    where
      go : (o : Option ℕ) → Stepped plain pid which (mapped_from script plain pid (pages_in (count_of size)) o)
      go None = step.stays refl
      go (Some at) = step.stays refl

-- ---- calls of which their step tells what they are

module _ (script : Script) (plain : Plain) (pid : ℕ) where
  writes_ignoring : (fd addr n : ℤ) (done : ℕ) → Stepped plain pid (call.Write fd addr n done) (write_ignoring script plain pid fd addr n done)
  unfolding write_ignoring
  writes_ignoring fd addr n done = opens_step script plain pid _ fd _ (λ opened is. writable script plain pid _ opened _ (λ may.
      bytes_step script plain pid _ addr n _ (write_on script plain pid _ fd addr n done opened opened.is.target refl is refl may (λ number on.
      record { named = is; target = on; writable = may; reached = on_node plain.files (opened_at plain.files pid fd) opened number is on }))))

  writes : (fd addr n : ℤ) (done : ℕ) → Stepped plain pid (call.Write fd addr n done) (write script plain pid fd addr n done)
  writes fd addr n done = of_write script plain pid fd addr n done (Stepped plain pid (call.Write fd addr n done)) (λ ends. step.ends_caller refl refl refl)
      (λ goes. writes_ignoring fd addr n done)

  pwrites : (fd addr n at : ℤ) → Stepped plain pid (call.Pwrite fd addr n at) (pwrite script plain pid fd addr n at)
  unfolding pwrite
  pwrites fd addr n at = opens_step script plain pid _ fd _ (λ opened is. writable script plain pid _ opened _ (λ may. go opened opened.is.target is refl may))
    where
      there : (opened : Opened) (number : ℕ) (r : Result (ℕ × Tree) Errno) → opened_at plain.files pid fd ≡ Some opened → opened.is.target ≡ OnNode number → may_write opened.is.access ≡ true
          → trees.write plain.files.tree number (count_of at) (bytes_left plain pid addr (count_of n) 0) ≡ r
          → Stepped plain pid (call.Pwrite fd addr n at) (wrote_at script plain pid r)
      there opened number (Ok written) is on may wrote_it = step.writes_at fd addr n opened number _ written
          (record { named = is; target = on; writable = may; reached = on_node plain.files (opened_at plain.files pid fd) opened number is on }) wrote_it refl
      there opened number (Err e) is on may wrote_it = step.stays refl

      go : (opened : Opened) (target : Target) → opened_at plain.files pid fd ≡ Some opened → opened.is.target ≡ target → may_write opened.is.access ≡ true
          → Stepped plain pid (call.Pwrite fd addr n at) (pwrite_target script plain pid addr n (count_of at) target)
      go opened (OnNode number) is on may = either script plain pid _ (is_directory plain.files.tree number) _ _ (λ yes. step.stays refl) (λ no.
          bytes_step script plain pid _ addr n _ (there opened number _ is on may refl))
      go opened (OnPipe place) is on may = step.stays refl
      go opened (OnSocket place) is on may = step.stays refl

  truncates : (fd size : ℤ) → Stepped plain pid (call.Ftruncate fd size) (ftruncate script plain pid fd size)
  unfolding ftruncate
  truncates fd size = opens_step script plain pid _ fd _ (λ opened is. go opened opened.is.target is refl)
    where
      sized : (opened : Opened) (number : ℕ) (r : Result Tree Errno) → opened_at plain.files pid fd ≡ Some opened → opened.is.target ≡ OnNode number → may_write opened.is.access ≡ true
          → resize plain.files.tree number (count_of size) ≡ r → Stepped plain pid (call.Ftruncate fd size) (resized_to script plain pid r)
      sized opened number (Ok tree) is on may resized = step.resizes fd opened number _ tree
          (record { named = is; target = on; writable = may; reached = on_node plain.files (opened_at plain.files pid fd) opened number is on }) resized refl
      sized opened number (Err e) is on may resized = step.stays refl

      go : (opened : Opened) (target : Target) → opened_at plain.files pid fd ≡ Some opened → opened.is.target ≡ target
          → Stepped plain pid (call.Ftruncate fd size) (truncate_target script plain pid opened (count_of size) target)
      go opened (OnNode number) is on = either script plain pid _ (is_directory plain.files.tree number) _ _ (λ yes. step.stays refl) (λ no.
          writable script plain pid _ opened _ (λ may. sized opened number _ is on may refl))
      go opened (OnPipe place) is on = step.stays refl
      go opened (OnSocket place) is on = step.stays refl

  opens_file : (path : List ℕ) (flags : ℤ) → Stepped plain pid (call.OpenFile path flags) (open_file script plain pid path flags)
  unfolding open_file
  opens_file path flags = go (opening_at plain.files pid) refl
    where
      -- the end of a FIFO, by the place of its pipe, whether it is waited for the other side or not
      end : (fd : ℕ) (found : ℕ × Tree) (openings : List (Option HalfOpen)) → OpensEnd plain pid (call.OpenFile path flags) path flags fd found → MayWait plain.files pid flags fd found.0 openings
          → (at : Option ℕ) → fifo_at plain.files found.0 ≡ at → IsStep plain pid (call.OpenFile path flags) true (with_openings (end_at plain.files pid flags fd found.0 at) openings)
      end fd found openings right may (Some place) is = step.joins path flags fd place found openings right is may refl
      end fd found openings right may None is = step.begins path flags fd found openings right is may refl

      both : (fd : ℕ) (found : ℕ × Tree) (waits : Bool) → OpensEnd plain pid (call.OpenFile path flags) path flags fd found → fifo_waits (fifo_pipe plain.files found.0) flags ≡ waits
          → Stepped plain pid (call.OpenFile path flags) (cond waits (did_part (with_files plain (end_awaits plain.files pid flags fd found.0)) pid 1)
          (replied script (with_files plain (end_opened plain.files pid flags fd found.0)) pid (Val (pos fd))))
      both fd found true right sleeps = subst (IsStep plain pid (call.OpenFile path flags) true) (ap (with_openings (end_opened plain.files pid flags fd found.0))
          (ap (λ list. with_pid list pid (Some (record { fd = fd; seen = opens_of (fifo_pipe plain.files found.0) (not (may_write (access_of flags))) }))) (sym (end_openings plain.files pid flags fd found.0))))
          (end fd found _ right (step.waits sleeps refl) (fifo_at plain.files found.0) refl)
      both fd found false right sleeps = subst (IsStep plain pid (call.OpenFile path flags) true) (ap (with_openings (end_opened plain.files pid flags fd found.0)) (sym (end_openings plain.files pid flags fd found.0)))
          (end fd found _ right (step.goes sleeps refl) (fifo_at plain.files found.0) refl)

      ends : (fd : ℕ) (found : ℕ × Tree) (fault : Option Errno) → opening_at plain.files pid ≡ None → lowest_free (descriptors_of plain.files pid) ≡ Some fd
          → open_path plain.files.tree (directory_of plain.table pid) path (opening_of flags) ≡ Ok found → is_fifo found.1 found.0 ≡ true
          → fifo_fault (fifo_pipe plain.files found.0) flags ≡ fault → Stepped plain pid (call.OpenFile path flags) (open_end script plain pid flags fd found.0 fault)
      ends fd found (Some e) begins free led fifo is = step.stays refl
      ends fd found None begins free led fifo is = both fd found _ (record { which = refl; begins = begins; free = free; led = led; fifo = fifo; right = is }) refl

      there : (fd : ℕ) (r : Result (ℕ × Tree) Errno) → opening_at plain.files pid ≡ None → lowest_free (descriptors_of plain.files pid) ≡ Some fd
          → open_path plain.files.tree (directory_of plain.table pid) path (opening_of flags) ≡ r → Stepped plain pid (call.OpenFile path flags) (opened_node_as script plain pid flags fd r)
      there fd (Ok found) begins free led = either script plain pid _ (is_fifo found.1 found.0) _ _ (λ fifo. ends fd found _ begins free led fifo refl)
          (λ other. step.opens path flags fd found refl free led other refl)
      there fd (Err e) begins free led = step.stays refl

      at : (o : Option ℕ) → opening_at plain.files pid ≡ None → lowest_free (descriptors_of plain.files pid) ≡ o → Stepped plain pid (call.OpenFile path flags) (open_at script plain pid path flags o)
      at None begins free = step.stays refl
      at (Some fd) begins free = there fd _ begins free refl

      go : (o : Option HalfOpen) → opening_at plain.files pid ≡ o → Stepped plain pid (call.OpenFile path flags) (open_by script plain pid path flags o)
      go None begins = at _ begins refl
      go (Some opening) begun = either script plain pid _ (is_met plain.files pid opening) _ _ (λ met. step.meets path flags opening refl begun refl) (λ not_yet. tt)

  makes_fifo : (path : List ℕ) → Stepped plain pid (call.Mkfifo path) (mkfifo script plain pid path)
  unfolding mkfifo
  makes_fifo path = go _ refl
    where
      go : (r : Result (ℕ × Tree) Errno) → mkfifo_path plain.files.tree (directory_of plain.table pid) path ≡ r → Stepped plain pid (call.Mkfifo path) (made_node script plain pid r)
      go (Ok made) is = step.makes_fifo path made refl is refl
      go (Err e) is = step.stays refl

  makes : (path : List ℕ) → Stepped plain pid (call.Mkdir path) (mkdir script plain pid path)
  unfolding mkdir
  makes path = go _ refl
    where
      go : (r : Result (ℕ × Tree) Errno) → mkdir_path plain.files.tree (directory_of plain.table pid) path ≡ r → Stepped plain pid (call.Mkdir path) (made_node script plain pid r)
      go (Ok made) is = step.makes path made refl is refl
      go (Err e) is = step.stays refl

  removes : (path : List ℕ) → Stepped plain pid (call.Rmdir path) (rmdir script plain pid path)
  unfolding rmdir
  removes path = go _ refl
    where
      go : (r : Result Tree Errno) → rmdir_path plain.files.tree (directory_of plain.table pid) path (is_busy plain) ≡ r → Stepped plain pid (call.Rmdir path) (retreed script plain pid r)
      go (Ok tree) is = step.removes path tree refl is refl
      go (Err e) is = step.stays refl

  links : (old new : List ℕ) → Stepped plain pid (call.Link old new) (link script plain pid old new)
  unfolding link
  links old new = go _ refl
    where
      go : (r : Result Tree Errno) → link_path plain.files.tree (directory_of plain.table pid) old new ≡ r → Stepped plain pid (call.Link old new) (retreed script plain pid r)
      go (Ok tree) is = step.links old new tree refl is refl
      go (Err e) is = step.stays refl

  unlinks : (path : List ℕ) → Stepped plain pid (call.Unlink path) (unlink script plain pid path)
  unfolding unlink
  unlinks path = go _ refl
    where
      go : (r : Result (Option ℕ × Tree) Errno) → unlink_path plain.files.tree (directory_of plain.table pid) path (opens plain.files) ≡ r
          → Stepped plain pid (call.Unlink path) (freed_in script plain pid r)
      go (Ok left) is = step.unlinks path left refl is refl
      go (Err e) is = step.stays refl

  renames : (old new : List ℕ) → Stepped plain pid (call.Rename old new) (rename script plain pid old new)
  unfolding rename
  renames old new = go _ refl
    where
      go : (r : Result (Option ℕ × Tree) Errno) → rename_path plain.files.tree (directory_of plain.table pid) old new (opens plain.files) (is_busy plain) ≡ r
          → Stepped plain pid (call.Rename old new) (freed_in script plain pid r)
      go (Ok left) is = step.renames old new left refl is refl
      go (Err e) is = step.stays refl

  binds : (fd : ℤ) (path : List ℕ) → Stepped plain pid (call.Bind fd path) (bind script plain pid fd path)
  unfolding bind
  binds fd path = socket_step script plain pid _ fd _ (λ opened place is on. without_fault script plain pid _ _ _ (λ fine. go opened place is on fine _ refl))
    where
      go : (opened : Opened) (place : ℕ) → opened_at plain.files pid fd ≡ Some opened → opened.is.target ≡ OnSocket place
          → socket.bind_fault (socket_at plain.files.sockets place) ≡ None
          → (r : Result (ℕ × Tree) Errno) → bind_path plain.files.tree (directory_of plain.table pid) path ≡ r
          → Stepped plain pid (call.Bind fd path) (bound_to script plain pid place r)
      go opened place is on fine (Ok made) led = step.binds fd path opened place made refl is on fine led refl
      go opened place is on fine (Err e) led = step.stays refl

  -- ---- every call

  pub right : (which : Call) → argument_fault which ≡ None → Stepped plain pid which (answer_to script plain pid which)
  right call.Getpid fine = step.stays refl
  right call.Getppid fine = step.stays refl
  right call.SchedYield fine = step.stays refl
  right call.Fork fine = forks_step script plain pid _ refl
  right (call.Exec path) fine = execs script plain pid _ path
  right (call.Exit status) fine = step.ends_caller refl refl refl
  right (call.Waitpid wanted options) fine = waits script plain pid _ wanted options
  right (call.Kill target signal) fine = kills script plain pid _ target signal refl refl
  right (call.Mmap size) fine = maps script plain pid _ size
  right (call.Munmap addr size) fine = step.stays refl
  right (call.Store addr bytes) fine = ranged script plain pid _ addr (length bytes) _ (step.stays refl)
  right (call.Load addr n) fine = ranged script plain pid _ addr (count_of n) _ (step.stays refl)
  right (call.OpenFile path flags) fine = opens_file path flags
  right (call.Close fd) fine = closes script plain pid _ fd
  right (call.Dup fd) fine = dups script plain pid _ fd
  right (call.Dup2 fd to) fine = dups_to script plain pid _ fd to
  right (call.Fcntl fd cmd arg) fine = controls script plain pid _ fd cmd arg
  right (call.Read fd addr n) fine = reads script plain pid _ fd addr n refl
  right (call.Write fd addr n done) fine = writes fd addr n done
  right (call.Pread fd addr n at) fine = preads script plain pid _ fd addr n at
  right (call.Pwrite fd addr n at) fine = pwrites fd addr n at
  right (call.Lseek fd offset whence) fine = seeks script plain pid _ fd offset whence
  right (call.Readdir fd addr n) fine = lists script plain pid _ fd addr n
  right (call.Ftruncate fd size) fine = truncates fd size
  right (call.Fstat fd) fine = fstats script plain pid _ fd
  right (call.Stat path) fine = stats script plain pid _ path
  right (call.Chdir path) fine = enters script plain pid _ path
  right (call.Mkdir path) fine = makes path
  right (call.Rmdir path) fine = removes path
  right (call.Unlink path) fine = unlinks path
  right (call.Link old new) fine = links old new
  right (call.Rename old new) fine = renames old new
  right call.Pipe fine = pipes_step script plain pid _
  right call.Socket fine = sockets_step script plain pid _
  right call.Socketpair fine = pairs_step script plain pid _
  right (call.Bind fd path) fine = binds fd path
  right (call.Listen fd) fine = listens_step script plain pid _ fd
  right (call.Connect fd path) fine = connects script plain pid _ fd path
  right (call.Accept fd) fine = accepts script plain pid _ fd
  right (call.Shutdown fd how) fine = shuts script plain pid _ fd how
  right (call.Poll timeout entries) fine = polls script plain pid _ timeout entries
  right (call.Signal of disposition) fine = step.stays refl
  right (call.Mkfifo path) fine = makes_fifo path
  right (call.Setlk fd kind start size) fine = sets_step script plain pid _ fd kind start size refl (places_of 2 kind start size fine)
  right (call.Setlkw fd kind start size) fine = sets_in_time_step script plain pid _ fd kind start size refl (places_of 2 kind start size fine)
  right (call.Getlk fd kind start size) fine = tells_lock script plain pid _ fd kind start size

-- an answer whose operands aren't wrong is told where none is, and else only an errno
pub step_of : (script : Script) (plain : Plain) (pid : ℕ) (which : Call) → Stepped plain pid which (machine script plain pid which)
step_of script plain pid which = told (argument_fault which) refl
  where
    told : (fault : Option Errno) → argument_fault which ≡ fault → Stepped plain pid which (unless_wrong script plain pid fault (answer_to script plain pid which))
    told None fine = right script plain pid which fine
    told (Some e) wrong = step.stays refl

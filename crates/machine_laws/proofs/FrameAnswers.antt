-- Whatever a call is answered, and whatever comes next in a history, the frames of the account stay frames.
use Rattle.std.proofs.Common.{◌≡◌, ℕ, ◌*◌, ◌/◌, ◌==◌, ℤ, pos, negsuc, Bool, true, false, cond, List, length, take, Option, None, Some, Result, Ok, Err, refl, ap, sym, ◌∙◌, subst, arith}
use Rattle.kabi_types.specs.Arguments.{argument_fault, count_of, page_size}
use Rattle.kabi_types.specs.declared.calls.Call.{Call}
use Rattle.kabi_types.specs.declared.calls.Call.TheVariants as call
use Rattle.kabi_types.specs.declared.errnos.Errno.{Errno}
use Rattle.kabi_types.specs.declared.errnos.Errno.TheVariants as errno
use Rattle.kabi_types.specs.declared.replies.Reply.{Reply}
use Rattle.kabi_types.specs.declared.replies.Reply.TheVariants as reply
use Rattle.kabi_types.specs.declared.entries.Entry.{Entry}
use Rattle.kabi_types.specs.declared.entries.Entry.TheVariants as entry
use Rattle.kabi_types.specs.declared.scripts.Script.{Script}
use Rattle.posix_defs.specs.Account.{forget_dead}
use Rattle.posix_defs.specs.Answer as answer
use Rattle.posix_defs.specs.Answer.{Answer, failed, replied}
use Rattle.posix_defs.specs.Ending.{die, exit_status}
use Rattle.posix_defs.specs.Forking.{is_full}
use Rattle.posix_defs.specs.History as histories
use Rattle.posix_defs.specs.History.{IsRun, MayFollow, Past}
use Rattle.posix_defs.specs.Killing.{is_asking, is_ended_by, kill, sent_to, sigkill, struck}
use Rattle.posix_defs.specs.Machine.{answer_to, machine, unless_wrong}
use Rattle.posix_defs.specs.Memory.{Frames, Unmapped, Zero, after_map, is_mapped_range, lowest_run, with_pages, zero_page}
use Rattle.posix_defs.specs.MemoryCalls.{frames_after, frames_of, in_range, mapped_from, remembered}
use Rattle.posix_defs.specs.Needs.{pages_in, pages_touched}
use Rattle.posix_defs.specs.PathCalls.{enter_path, exec_path, list_node, read_node}
use Rattle.posix_defs.specs.Pipe as pipes
use Rattle.posix_defs.specs.Pipe.{Moving, pipe_read}
use Rattle.posix_defs.specs.Plain.{Plain, answered, call_of, with_files}
use Rattle.posix_defs.specs.Process.{Process, directory_of, is_alive, is_alive_in, memory_of, process_at}
use Rattle.posix_defs.specs.Signals.{sigpipe}
use Rattle.posix_defs.specs.Sockets.{sock_read, socket_at}
use Rattle.posix_defs.specs.Tree.{is_directory}
use Rattle.posix_defs.specs.Waiting.{Exited, any_from, exited_from, is_nohang, waited_for, waitpid}
use Rattle.posix_defs.specs.Files.Descriptions.{Target, OnNode, OnPipe, OnSocket, may_read}
use Rattle.posix_defs.specs.Files.State.{pipe_at}
use Rattle.posix_defs.specs.Calls.Opened.{Opened, answer_on, if_readable, on_open, opened_at}
use Rattle.posix_defs.specs.Calls.OnNames.{chdir, works_from}
use Rattle.posix_defs.specs.Calls.Reading.{is_directory_target, list_target, pread, pread_target, read, read_from_pipe, read_from_socket, read_target, readdir}
use Rattle.posix_defs.specs.Calls.Starting.{exec, starts}
use Rattle.posix_defs.specs.Calls.Writing.{write}
use Rattle.posix_defs.proofs.SignalLemmas.{of_write}
use Rattle.kern_laws.proofs.LivingVictim.{victim_lives}
use Rattle.machine_laws.specs.Framed.{AreFramed, StayUnwritten}
use Rattle.machine_laws.proofs.Framing.{Goes, Holds}
use Rattle.machine_laws.proofs.MemoryMoves.{boot_holds, goes_cleared, goes_disposed, goes_ended, goes_forked, goes_moved, goes_put, goes_quiet, goes_ranged, goes_reaped, goes_same}
use Rattle.machine_laws.proofs.Signalled.{ended_runs}
use Rattle.machine_laws.proofs.Quiet as quiet
use Rattle.machine_laws.proofs.Quiet.{Told, is_quiet, quiet_told, writes_told}

no : {X : Type 0} → false ≡ true → X
no e = absurd (let f = e in cc)

-- a call that leaves the table of processes leaves frames
quiet_frames : (frames : Frames) (pid : ℕ) (which : Call) → is_quiet which ≡ true → (said : Reply) → frames_after frames pid which said ≡ frames
quiet_frames frames pid which is said = by_reply said
  where
    value : (which : Call) → is_quiet which ≡ true → (n : ℕ) → frames_of frames pid which n ≡ frames
    value call.Fork is n = no is
    value (call.Exec path) is n = no is
    value (call.Mmap size) is n = no is
    value (call.Munmap addr size) is n = no is
    value (call.Store addr bytes) is n = no is
    value (call.Read fd addr n) is _ = no is
    value (call.Pread fd addr n at) is _ = no is
    value (call.Readdir fd addr n) is _ = no is
    value (call.Write fd addr n done) is _ = no is
    value _ is n = refl

    by_reply : (said : Reply) → frames_after frames pid which said ≡ frames
    by_reply (reply.Val n) = value which is (count_of n)
    by_reply _ = refl

-- and so does a write
write_frames : (frames : Frames) (pid : ℕ) (fd addr n : ℤ) (done : ℕ) (said : Reply) → frames_after frames pid (call.Write fd addr n done) said ≡ frames
write_frames frames pid fd addr n done (reply.Val told) = refl
write_frames frames pid fd addr n done _ = refl

module _ (script : Script) (plain : Plain) (frames : Frames) (holds : Holds plain frames) (pid : ℕ) (alive : is_alive plain.table pid ≡ true) where
  -- what is asked of an answer to a call
  abbrev Framed : Call → Answer → Type 0
  Framed which answer.Blocked = Unit {0}
  Framed which (answer.Done said next) = Goes plain frames next (forget_dead next (frames_after frames pid which said))
  Framed which (answer.Part moved next) = Goes plain frames next (forget_dead next frames)
  Framed which (answer.Ended status next) = Goes plain frames next (forget_dead next frames)

  either : (which : Call) (b : Bool) (one two : Answer) → Framed which one → Framed which two → Framed which (cond b one two)
  either which true one two this that = this
  either which false one two this that = that

  fails : (which : Call) (e : Errno) → Framed which (failed script plain pid e)
  fails which e = goes_quiet plain frames holds (answered script plain pid (reply.Fail e)) refl

  by_told : (which : Call) → ((said : Reply) → frames_after frames pid which said ≡ frames) → (given : Answer) → Told script plain pid given → Framed which given
  by_told which still _ quiet.blocks = tt
  by_told which still _ (quiet.fails e) = fails which e
  by_told which still _ (quiet.tells files said) =
      let next : Plain = answered script (with_files plain files) pid said in
      subst (λ after. Goes plain frames next (forget_dead next after)) (sym (still said)) (goes_quiet plain frames holds next refl)
  by_told which still _ (quiet.parts files moved) = goes_quiet plain frames holds _ refl

  -- a write leaves frames, whether it ends its caller or not
  writes : (fd addr n : ℤ) (done : ℕ) → Framed (call.Write fd addr n done) (write script plain pid fd addr n done)
  writes fd addr n done = of_write script plain pid fd addr n done (Framed (call.Write fd addr n done)) (λ ends. goes_ended plain frames holds _ pid sigpipe alive refl)
      (λ goes. by_told (call.Write fd addr n done) (write_frames frames pid fd addr n done) _ (writes_told script plain pid fd addr n done))

  -- ---- memory

  ranged : (which : Call) (addr : ℤ) (n : ℕ) (given : Answer) → Framed which given → Framed which (in_range script plain pid addr n given)
  ranged which addr n given rest = either which (is_mapped_range (memory_of plain.table pid) (count_of addr) n) given _ rest (fails which errno.EFAULT)

  maps : (size : ℤ) → Framed (call.Mmap size) (answer_to script plain pid (call.Mmap size))
  maps size = go (lowest_run (memory_of plain.table pid) (pages_in (count_of size)))
    where
      page_of : (first : ℕ) → page_size * first / page_size ≡ first
      page_of first = omega arith

      mapped : ℕ → Plain
      mapped first = answered script (remembered plain pid (with_pages (memory_of plain.table pid) first (pages_in (count_of size)))) pid (reply.Val (pos (page_size * first)))

      go : (o : Option ℕ) → Framed (call.Mmap size) (mapped_from script plain pid (pages_in (count_of size)) o)
      go None = fails (call.Mmap size) errno.EMFILE
      go (Some first) = subst (λ at. Goes plain frames (mapped first) (forget_dead (mapped first) (after_map frames pid at (pages_in (count_of size))))) (sym (page_of first))
          (goes_ranged plain frames holds pid alive (mapped first) first (pages_in (count_of size)) Zero (Some zero_page) (λ frame e. cc) refl refl)

  unmaps : (addr size : ℤ) → Framed (call.Munmap addr size) (answer_to script plain pid (call.Munmap addr size))
  unmaps addr size = goes_ranged plain frames holds pid alive _ (count_of addr / page_size) (pages_touched (count_of addr) (count_of size)) Unmapped None (λ frame e. cc) refl refl

  stores : (addr : ℤ) (bytes : List ℕ) → Framed (call.Store addr bytes) (answer_to script plain pid (call.Store addr bytes))
  stores addr bytes = ranged (call.Store addr bytes) addr (length bytes) _ (goes_put plain frames holds pid alive _ (count_of addr) bytes refl)

  -- ---- reads

  opens : (which : Call) (fd : ℤ) (given : Opened → Answer) → ((opened : Opened) → Framed which (given opened)) → Framed which (on_open script plain pid fd given)
  opens which fd given each = go (opened_at plain.files pid fd)
    where
      go : (o : Option Opened) → Framed which (answer_on script plain pid given o)
      go None = fails which errno.EBADF
      go (Some opened) = each opened

  readable : (which : Call) (opened : Opened) (given : Answer) → Framed which given → Framed which (if_readable script plain pid opened given)
  readable which opened given rest = either which (may_read opened.is.access) given _ rest (fails which errno.EBADF)

  reads : (fd addr n : ℤ) → Framed (call.Read fd addr n) (read script plain pid fd addr n)
  unfolding read
  reads fd addr n = opens asked fd _ (λ opened. readable asked opened _
      (either asked (is_directory_target plain.files.tree opened.is.target) _ _ (fails asked errno.EISDIR)
      (ranged asked addr (count_of n) _ (either asked (count_of n == 0) _ _ (goes_quiet plain frames holds _ refl) (target opened opened.is.target)))))
    where
      asked : Call
      asked = call.Read fd addr n

      from_pipe : (place : ℕ) (moving : Moving) → Framed asked (read_from_pipe script plain pid place addr moving)
      from_pipe place (pipes.Moves k) = goes_put plain frames holds pid alive _ (count_of addr) (take k (pipe_at plain.files place).bytes) refl
      from_pipe place pipes.Blocks = tt
      from_pipe place (pipes.Fails e) = fails asked e

      from_socket : (place : ℕ) (moving : Moving) → Framed asked (read_from_socket script plain pid place addr moving)
      from_socket place (pipes.Moves k) = goes_put plain frames holds pid alive _ (count_of addr) (take k (socket_at plain.files.sockets place).bytes) refl
      from_socket place pipes.Blocks = tt
      from_socket place (pipes.Fails e) = fails asked e

      target : (opened : Opened) (target : Target) → Framed asked (read_target script plain pid opened addr (count_of n) target)
      target opened (OnNode number) = goes_put plain frames holds pid alive _ (count_of addr) (read_node plain.files.tree number opened.is.offset (count_of n)) refl
      target opened (OnPipe place) = from_pipe place (pipe_read (pipe_at plain.files place) opened.is.nonblock (count_of n))
      target opened (OnSocket place) = from_socket place (sock_read plain.files.sockets place opened.is.nonblock (count_of n))

  preads : (fd addr n at : ℤ) → Framed (call.Pread fd addr n at) (pread script plain pid fd addr n at)
  unfolding pread
  preads fd addr n at = opens asked fd _ (λ opened. readable asked opened _ (go opened.is.target))
    where
      asked : Call
      asked = call.Pread fd addr n at

      go : (target : Target) → Framed asked (pread_target script plain pid addr n (count_of at) target)
      go (OnNode number) = either asked (is_directory plain.files.tree number) _ _ (fails asked errno.EISDIR)
          (ranged asked addr (count_of n) _ (either asked (count_of n == 0) _ _ (goes_quiet plain frames holds _ refl)
          (goes_put plain frames holds pid alive _ (count_of addr) (read_node plain.files.tree number (count_of at) (count_of n)) refl)))
      go (OnPipe place) = fails asked errno.ESPIPE
      go (OnSocket place) = fails asked errno.ESPIPE

  lists : (fd addr n : ℤ) → Framed (call.Readdir fd addr n) (readdir script plain pid fd addr n)
  unfolding readdir
  lists fd addr n = opens asked fd _ (λ opened. go opened opened.is.target)
    where
      asked : Call
      asked = call.Readdir fd addr n

      go : (opened : Opened) (target : Target) → Framed asked (list_target script plain pid opened addr n target)
      go opened (OnNode number) = either asked (is_directory plain.files.tree number) _ _
          (ranged asked addr (count_of n) _ (goes_put plain frames holds pid alive _ (count_of addr) (list_node plain.files.tree number opened.is.offset (count_of n)) refl)) (fails asked errno.ENOTDIR)
      go opened (OnPipe place) = fails asked errno.ENOTDIR
      go opened (OnSocket place) = fails asked errno.ENOTDIR

  -- ---- processes

  forks : Framed call.Fork (answer_to script plain pid call.Fork)
  forks = either call.Fork (is_full plain) _ _ (fails call.Fork errno.EAGAIN) (goes_forked plain frames holds pid alive _ refl)

  execs : (path : List ℕ) → Framed (call.Exec path) (exec script plain pid path)
  unfolding exec
  execs path = go (exec_path plain.files.tree (directory_of plain.table pid) path script.programs)
    where
      go : (r : Result ℕ Errno) → Framed (call.Exec path) (starts script plain pid r)
      go (Ok place) = goes_cleared plain frames holds pid alive _ refl
      go (Err e) = fails (call.Exec path) e

  enters : (path : List ℕ) → Framed (call.Chdir path) (chdir script plain pid path)
  unfolding chdir
  enters path = go (enter_path plain.files.tree (directory_of plain.table pid) path)
    where
      go : (r : Result ℕ Errno) → Framed (call.Chdir path) (works_from script plain pid r)
      go (Ok number) = goes_moved plain frames holds pid number alive _ refl
      go (Err e) = fails (call.Chdir path) e

  waits : (wanted options : ℤ) → Framed (call.Waitpid wanted options) (waitpid script plain pid wanted options)
  waits wanted options = go (exited_from pid wanted 1 plain.table)
    where
      asked : Call
      asked = call.Waitpid wanted options

      go : (o : Option Exited) → Framed asked (waited_for script plain pid wanted options o)
      go None = either asked (any_from pid wanted 1 plain.table) _ _ (either asked (is_nohang options) _ answer.Blocked (goes_quiet plain frames holds _ refl) tt) (fails asked errno.ECHILD)
      go (Some exited) = goes_reaped plain frames holds _ exited.pid refl

  kills : (target signal : ℤ) → Framed (call.Kill target signal) (kill script plain pid target signal)
  kills (negsuc n) signal = fails (call.Kill (negsuc n) signal) errno.ESRCH
  kills (pos target) signal = go (process_at plain.table target) refl
    where
      asked : Call
      asked = call.Kill (pos target) signal

      none : Framed asked (replied script plain pid (reply.Val (pos 0)))
      none = goes_quiet plain frames holds _ refl

      strikes : is_alive plain.table target ≡ true → Framed asked (struck script plain pid target (count_of signal))
      strikes lived = either asked (target == pid) _ _ (goes_ended plain frames holds _ pid (count_of signal) alive refl) (goes_ended plain frames holds _ target (count_of signal) lived refl)

      by_life : (b : Bool) → (b ≡ true → is_alive plain.table target ≡ true) → Framed asked (cond b (struck script plain pid target (count_of signal)) (replied script plain pid (reply.Val (pos 0))))
      by_life true lived = strikes (lived refl)
      by_life false over = none

      go : (o : Option Process) → process_at plain.table target ≡ o → Framed asked (sent_to script plain pid target signal o)
      go None is = fails asked errno.ESRCH
      go (Some process) is = either asked (is_asking signal) _ _ none (either asked (target == 1) _ _ (fails asked errno.EPERM) (by_life (is_ended_by (count_of signal) process) (λ ended. ap is_alive_in is ∙ ended_runs (count_of signal) process ended)))

  -- ---- every call

  others : (which : Call) → is_quiet which ≡ true → Framed which (answer_to script plain pid which)
  others which is = by_told which (quiet_frames frames pid which is) (answer_to script plain pid which) (quiet_told script plain pid which is)

  right : (which : Call) → Framed which (answer_to script plain pid which)
  right call.Fork = forks
  right (call.Exec path) = execs path
  right (call.Exit status) = goes_ended plain frames holds _ pid (exit_status status) alive refl
  right (call.Waitpid wanted options) = waits wanted options
  right (call.Kill target signal) = kills target signal
  right (call.Mmap size) = maps size
  right (call.Munmap addr size) = unmaps addr size
  right (call.Store addr bytes) = stores addr bytes
  right (call.Read fd addr n) = reads fd addr n
  right (call.Pread fd addr n at) = preads fd addr n at
  right (call.Readdir fd addr n) = lists fd addr n
  right (call.Chdir path) = enters path
  right call.Getpid = others call.Getpid refl
  right call.Getppid = others call.Getppid refl
  right call.SchedYield = others call.SchedYield refl
  right (call.Load addr n) = others (call.Load addr n) refl
  right (call.OpenFile path flags) = others (call.OpenFile path flags) refl
  right (call.Close fd) = others (call.Close fd) refl
  right (call.Dup fd) = others (call.Dup fd) refl
  right (call.Dup2 fd to) = others (call.Dup2 fd to) refl
  right (call.Fcntl fd cmd arg) = others (call.Fcntl fd cmd arg) refl
  right (call.Write fd addr n done) = writes fd addr n done
  right (call.Pwrite fd addr n at) = others (call.Pwrite fd addr n at) refl
  right (call.Lseek fd offset whence) = others (call.Lseek fd offset whence) refl
  right (call.Ftruncate fd size) = others (call.Ftruncate fd size) refl
  right (call.Fstat fd) = others (call.Fstat fd) refl
  right (call.Stat path) = others (call.Stat path) refl
  right (call.Mkdir path) = others (call.Mkdir path) refl
  right (call.Rmdir path) = others (call.Rmdir path) refl
  right (call.Unlink path) = others (call.Unlink path) refl
  right (call.Link old new) = others (call.Link old new) refl
  right (call.Rename old new) = others (call.Rename old new) refl
  right call.Pipe = others call.Pipe refl
  right call.Socket = others call.Socket refl
  right call.Socketpair = others call.Socketpair refl
  right (call.Bind fd path) = others (call.Bind fd path) refl
  right (call.Listen fd) = others (call.Listen fd) refl
  right (call.Connect fd path) = others (call.Connect fd path) refl
  right (call.Accept fd) = others (call.Accept fd) refl
  right (call.Shutdown fd how) = others (call.Shutdown fd how) refl
  right (call.Poll timeout entries) = others (call.Poll timeout entries) refl
  right (call.Signal which disposition) = goes_disposed plain frames holds pid _ alive _ refl
  right (call.Mkfifo path) = others (call.Mkfifo path) refl
  right (call.Setlk fd kind start size) = others (call.Setlk fd kind start size) refl
  right (call.Setlkw fd kind start size) = others (call.Setlkw fd kind start size) refl
  right (call.Getlk fd kind start size) = others (call.Getlk fd kind start size) refl

  pub answers_framed : (which : Call) → Framed which (machine script plain pid which)
  answers_framed which = go (argument_fault which)
    where
      go : (fault : Option Errno) → Framed which (unless_wrong script plain pid fault (answer_to script plain pid which))
      go None = right which
      go (Some e) = fails which e

-- ---- histories

abbrev Kept : Past → Type 0
Kept past = Holds past.plain past.account.frames

abbrev GoesOn : Past → Past → Type 0
GoesOn past next = Goes past.plain past.account.frames next.plain next.account.frames

goes_next : (script : Script) (past : Past) (added : Entry) (next : Past) → Kept past → MayFollow script past added next → GoesOn past next
goes_next script past (entry.Done pid of_kind said) next kept is = let may = is.may_run in
    subst (GoesOn past) (sym is.leads) (subst (Framed script past.plain past.account.frames kept pid may.alive (call_of script past.plain pid)) is.answers
    (answers_framed script past.plain past.account.frames kept pid may.alive (call_of script past.plain pid)))
goes_next script past (entry.Part pid of_kind moved) next kept is = let may = is.may_run in
    subst (GoesOn past) (sym is.leads) (subst (Framed script past.plain past.account.frames kept pid may.alive (call_of script past.plain pid)) is.answers
    (answers_framed script past.plain past.account.frames kept pid may.alive (call_of script past.plain pid)))
goes_next script past (entry.Ended pid of_kind status) next kept is = let may = is.may_run in
    subst (GoesOn past) (sym is.leads) (subst (Framed script past.plain past.account.frames kept pid may.alive (call_of script past.plain pid)) is.answers
    (answers_framed script past.plain past.account.frames kept pid may.alive (call_of script past.plain pid)))
goes_next script past (entry.Slept pid of_kind) next kept is = subst (GoesOn past) (sym is.leads) (goes_same past.plain past.account.frames kept past.plain refl)
goes_next script past (entry.Refused pid of_kind asked) next kept is = subst (GoesOn past) (sym is.leads) (goes_same past.plain past.account.frames kept _ refl)
goes_next script past (entry.Gone pid of_kind) next kept is = subst (GoesOn past) (sym is.leads) (goes_same past.plain past.account.frames kept past.plain refl)
goes_next script past (entry.Killed pid waiter need live) next kept is = subst (GoesOn past) (sym is.leads)
    (goes_ended past.plain past.account.frames kept (die past.plain pid sigkill) pid sigkill (let lives = victim_lives script.policy past.plain past.account pid is.victim in lives.0) refl)
goes_next script past (entry.Evicted what) next kept is = subst (GoesOn past) (sym is.leads) (goes_same past.plain past.account.frames kept past.plain refl)

run_holds : {script : Script} {history : List Entry} {past : Past} → IsRun script history past → Kept past
run_holds {script} histories.boots = boot_holds script
run_holds {script} (histories.goes_on history past next added before follows) = let goes = goes_next script past added next (run_holds before) follows in goes.holds

pub run_framed : {script : Script} {history : List Entry} {past : Past} → IsRun script history past → AreFramed past.plain past.account.frames
run_framed run = let holds = run_holds run in holds.framed

pub follows_unwritten : {script : Script} {history : List Entry} {past : Past} (added : Entry) (next : Past) → IsRun script history past → MayFollow script past added next
    → StayUnwritten past.plain past.account.frames next.plain next.account.frames
follows_unwritten {script} {history} {past} added next run follows = let goes = goes_next script past added next (run_holds run) follows in goes.unwritten

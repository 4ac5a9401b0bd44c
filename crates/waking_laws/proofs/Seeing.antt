-- Of two machines that a process sees as the same, its next call blocks in both or in neither.
use Rattle.std.proofs.Common.{◌≡◌, ℕ, pos, negsuc, ℤ, ◌+◌, ◌-◌, ◌==◌, ◌&&◌, ◌||◌, not, nat_lt, min, Bool, true, false, if◌then◌else◌, List, [], ◌∷◌, length, map, Option, None, Some, is_some, Result, Ok, Err, refl, ap, ap₂, sym, ◌∙◌}
use Rattle.std.specs.List.{AllByRecursion}
use Rattle.std.specs.Option.{option_map}
use Rattle.kabi_types.specs.Arguments.{argument_fault, count_of, is_minus_one}
use Rattle.kabi_types.specs.declared.calls.Call.{Call}
use Rattle.kabi_types.specs.declared.calls.Call.TheVariants as call
use Rattle.kabi_types.specs.declared.errnos.Errno.{Errno}
use Rattle.kabi_types.specs.declared.errnos.Errno.TheVariants.{ECHILD, EFAULT, EISDIR, EPIPE}
use Rattle.kabi_types.specs.declared.replies.Reply.TheVariants.{Polled, Val}
use Rattle.kabi_types.specs.declared.short_lists.PollEntry.{PollEntry}
use Rattle.kabi_types.specs.declared.scripts.Script.{Script}
use Rattle.answer_laws.specs.Shapes.{may_block}
use Rattle.answer_laws.proofs.Blocking.{blocked_may}
use Rattle.machine_laws.proofs.LockLess.{nothing_in_way}
use Rattle.posix_defs.proofs.SignalLemmas.{write_blocks}
use Rattle.posix_defs.specs.Answer.{Answer, Blocked, failed, replied}
use Rattle.posix_defs.specs.Control as program
use Rattle.posix_defs.specs.Calls.OnFiles.{end_awaits, end_opened, fifo_fault, fifo_pipe, fifo_waits, is_met, open_at, open_by, open_end, open_fifo, open_file, open_node, opened_node_as, opening_of, others_opened, others_opens}
use Rattle.posix_defs.specs.Calls.OnSockets.{accept, accept_at, accepted_under, socket_target}
use Rattle.posix_defs.specs.Calls.Opened.{Opened, answer_on, opened_at}
use Rattle.posix_defs.specs.Calls.Polling.{hits_of, poll, polled, polled_at, polled_opened, polled_target, revents_of}
use Rattle.posix_defs.specs.Calls.Reading.{is_directory_target, of_bytes, read, read_from_pipe, read_from_socket, read_target, unless_directory}
use Rattle.posix_defs.specs.Calls.Writing.{bytes_left, did_part, put_in_socket, put_in_pipe, write, write_ignoring, write_queue, write_target, wrote}
use Rattle.posix_defs.specs.Files.Descriptors.{lowest_free}
use Rattle.posix_defs.specs.Files.Descriptions.{Target, OnNode, OnPipe, OnSocket, may_read, may_write}
use Rattle.posix_defs.specs.Files.State.{Files, HalfOpen, descriptors_of, opening_at, pipe_at, with_opening}
use Rattle.posix_defs.specs.Machine.{blocks, machine, unless_wrong, would_block}
use Rattle.posix_defs.specs.Memory.{is_mapped_range}
use Rattle.posix_defs.specs.Pipe.{Moving, Moves, Blocks, Fails, is_asked, not_now, opens_of, pipe_read, pipe_write, polled_to_read, polled_to_write}
use Rattle.posix_defs.specs.Plain.{Plain, call_of, control_of, with_files}
use Rattle.posix_defs.specs.PathCalls.{is_fifo, open_path}
use Rattle.posix_defs.specs.Process.{directory_of, memory_of}
use Rattle.posix_defs.specs.Socket.{Accepting, Stage, Idle, Listening, Connected, Takes, Waits, Refuses, accept as accept_in, is_connected, is_shut_read, is_shut_write}
use Rattle.posix_defs.specs.Sockets.{Sockets, free_at, polled_in_stage, read_in_stage, sock_polled, sock_read, sock_write, socket_at, stage_at, write_in_stage, write_within}
use Rattle.posix_defs.specs.Tree.{Tree, is_directory}
use Rattle.posix_defs.specs.Waiting.{Exited, any_from, exited_from, is_nohang, not_yet, waited_for, waitpid}
use Rattle.waking_laws.specs.Waking.{awaited, target_at}

-- ---- what a process sees of a machine

-- two descriptors are open on the same and for the same, and both wait or neither; or neither is open
abbrev pub SameOpened : Option Opened → Option Opened → Type 0
SameOpened None None = Unit {0}
SameOpened (Some was) (Some now) = (now.is.target ≡ was.is.target) × (now.is.access ≡ was.is.access) × (now.is.nonblock ≡ was.is.nonblock)
SameOpened None (Some now) = ⊥
SameOpened (Some was) None = ⊥

-- The sockets of all places have come as far, and have the same bytes to read. Their names are no part of this.
pub record SameSockets (old new : Sockets) : Type 0 where
  pub stage : (place : ℕ) → stage_at new place ≡ stage_at old place
  pub bytes : (place : ℕ) → (socket_at new place).bytes ≡ (socket_at old place).bytes

-- All that the next call of a process may wait for, but for queues; nobody holds a lock.
pub record SeesSame (who : ℕ) (old new : Plain) : Type 0 where
  pub control : control_of new who ≡ control_of old who
  pub memory : memory_of new.table who ≡ memory_of old.table who
  pub exited : (which : ℤ) → exited_from who which 1 new.table ≡ exited_from who which 1 old.table
  pub any : (which : ℤ) → any_from who which 1 new.table ≡ any_from who which 1 old.table
  pub numbers : descriptors_of new.files who ≡ descriptors_of old.files who
  pub opened : (fd : ℤ) → SameOpened (opened_at old.files who fd) (opened_at new.files who fd)
  pub waits : opening_at new.files who ≡ opening_at old.files who
  pub opens : (place : ℕ) (writing : Bool) → opens_of (pipe_at new.files place) writing ≡ opens_of (pipe_at old.files place) writing
  pub unlocked : (old.files.locks ≡ []) × (new.files.locks ≡ [])

-- of what a number is open on, where that is a queue: it is the same, or all sockets are
abbrev pub SeesQueue : Files → Files → Option Target → Type 0
SeesQueue old new None = Unit {0}
SeesQueue old new (Some (OnNode number)) = Unit {0}
SeesQueue old new (Some (OnPipe place)) = pipe_at new place ≡ pipe_at old place
SeesQueue old new (Some (OnSocket place)) = SameSockets old.sockets new.sockets

-- so it is of each of these numbers of a process
abbrev pub SeesQueues : ℕ → Files → Files → List ℤ → Type 0
SeesQueues who old new fds = AllByRecursion (λ fd. SeesQueue old new (target_at old who fd)) fds

-- ---- what it is answered

-- of two answers both are that the call would block, or neither
abbrev Agree : Answer → Answer → Type 0
Agree one other = blocks one ≡ blocks other

fork : (one other : Bool) (a b c d : Answer) → one ≡ other → Agree a c → Agree b d → Agree (if one then a else b) (if other then c else d)
fork true true a b c d same e f = e
fork false false a b c d same e f = f
fork true false a b c d same e f = cc
fork false true a b c d same e f = cc

both : {X : Type 0} {b : Bool} → b ≡ true → b ≡ false → X
both e f = cc

-- ---- sockets

module _ (old new : Sockets) (same : SameSockets old new) where
  shut_write : (peer : ℕ) → is_shut_write (stage_at new peer) ≡ is_shut_write (stage_at old peer)
  shut_write peer = ap is_shut_write (same.stage peer)

  free : (peer : ℕ) → free_at new peer ≡ free_at old peer
  free peer = ap (λ bytes. 4096 - length bytes) (same.bytes peer)

  reads_in : (stage : Stage) (bytes : List ℕ) (nonblock : Bool) (n : ℕ) → read_in_stage new stage bytes nonblock n ≡ read_in_stage old stage bytes nonblock n
  reads_in Idle bytes nonblock n = refl
  reads_in (Listening waiting) bytes nonblock n = refl
  reads_in (Connected None shut_read shut_written) bytes nonblock n = refl
  reads_in (Connected (Some peer) shut_read shut_written) bytes nonblock n =
      ap (λ (shut : Bool). if shut_read then Moves 0 else (if nat_lt 0 (length bytes) then Moves (min n (length bytes)) else (if shut then Moves 0 else not_now nonblock))) (shut_write peer)

  reads : (place : ℕ) (nonblock : Bool) (n : ℕ) → sock_read new place nonblock n ≡ sock_read old place nonblock n
  reads place nonblock n =
      ap (λ stage. read_in_stage new stage (socket_at new place).bytes nonblock n) (same.stage place)
      ∙ ap (λ bytes. read_in_stage new (stage_at old place) bytes nonblock n) (same.bytes place)
      ∙ reads_in (stage_at old place) (socket_at old place).bytes nonblock n

  writes_in : (stage : Stage) (nonblock : Bool) (m : ℕ) → write_in_stage new stage nonblock m ≡ write_in_stage old stage nonblock m
  writes_in Idle nonblock m = refl
  writes_in (Listening waiting) nonblock m = refl
  writes_in (Connected None shut_read shut_written) nonblock m = refl
  writes_in (Connected (Some peer) shut_read shut_written) nonblock m =
      ap (λ (stage : Stage). if shut_written then Fails EPIPE else (if is_shut_read stage then Fails EPIPE else write_within (free_at new peer) nonblock m)) (same.stage peer)
      ∙ ap (λ room. if shut_written then Fails EPIPE else (if is_shut_read (stage_at old peer) then Fails EPIPE else write_within room nonblock m)) (free peer)

  writes : (place : ℕ) (nonblock : Bool) (m : ℕ) → sock_write new place nonblock m ≡ sock_write old place nonblock m
  writes place nonblock m = ap (λ stage. write_in_stage new stage nonblock m) (same.stage place) ∙ writes_in (stage_at old place) nonblock m

  polls_in : (stage : Stage) (bytes : List ℕ) (events : ℤ) → polled_in_stage new stage bytes events ≡ polled_in_stage old stage bytes events
  polls_in Idle bytes events = refl
  polls_in (Listening waiting) bytes events = refl
  polls_in (Connected None shut_read shut_written) bytes events = refl
  polls_in (Connected (Some peer) shut_read shut_written) bytes events =
      ap (λ (shut : Bool). (if is_asked events 1 && (nat_lt 0 (length bytes) || shut) then 1 else 0) + (if is_asked events 4 && nat_lt 0 (free_at new peer) then 4 else 0)) (shut_write peer)
      ∙ ap (λ room. (if is_asked events 1 && (nat_lt 0 (length bytes) || is_shut_write (stage_at old peer)) then 1 else 0) + (if is_asked events 4 && nat_lt 0 room then 4 else 0)) (free peer)

  polls : (place : ℕ) (events : ℤ) → sock_polled new place events ≡ sock_polled old place events
  polls place events =
      ap (λ stage. polled_in_stage new stage (socket_at new place).bytes events) (same.stage place)
      ∙ ap (λ bytes. polled_in_stage new (stage_at old place) bytes events) (same.bytes place)
      ∙ polls_in (stage_at old place) (socket_at old place).bytes events

-- ---- the calls that may block

module _ (script : Script) (who : ℕ) (old new : Plain) (same : SeesSame who old new) where
  waits_or_not : (nohang : Bool) → Agree (if nohang then replied script new who (Val (pos 0)) else Blocked) (if nohang then replied script old who (Val (pos 0)) else Blocked)
  waits_or_not true = refl
  waits_or_not false = refl

  child_waits : (which options : ℤ) → Agree (waitpid script new who which options) (waitpid script old who which options)
  child_waits which options =
      ap (λ found. blocks (waited_for script new who which options found)) (same.exited which) ∙ by (exited_from who which 1 old.table)
    where
      by : (found : Option Exited) → Agree (waited_for script new who which options found) (waited_for script old who which options found)
      by (Some exited) = refl
      by None =
          fork (any_from who which 1 new.table) (any_from who which 1 old.table) (not_yet script new who options) (failed script new who ECHILD)
          (not_yet script old who options) (failed script old who ECHILD) (same.any which) (waits_or_not (is_nohang options)) refl

  -- a queue that is the same, or isn't one
  abbrev Queue : Option Target → Type 0
  Queue target = SeesQueue old.files new.files target

  on_opened : (f g : Opened → Answer) (was now : Option Opened) → SameOpened was now → Queue (option_map (λ (it : Opened). it.is.target) was)
      → ((it other : Opened) → SameOpened (Some it) (Some other) → Queue (Some it.is.target) → Agree (f other) (g it))
      → Agree (answer_on script new who f now) (answer_on script old who g was)
  on_opened f g None None alike queue each = refl
  on_opened f g (Some it) (Some other) alike queue each = each it other alike queue
  on_opened f g None (Some other) alike queue each = absurd alike
  on_opened f g (Some it) None alike queue each = absurd alike

  bytes_wait : (addr n : ℤ) (a b : Answer) → Agree a b → Agree (of_bytes script new who addr n a) (of_bytes script old who addr n b)
  bytes_wait addr n a b e = fork _ _ _ _ _ _ (ap (λ memory. is_mapped_range memory (count_of addr) (count_of n)) same.memory) (some (count_of n == 0)) refl
    where
      some : (none : Bool) → Agree (if none then replied script new who (Val (pos 0)) else a) (if none then replied script old who (Val (pos 0)) else b)
      some true = refl
      some false = e

  pipe_read_waits : (place : ℕ) (addr : ℤ) (moving : Moving)
      → Agree (read_from_pipe script new who place addr moving) (read_from_pipe script old who place addr moving)
  pipe_read_waits place addr (Moves k) = refl
  pipe_read_waits place addr Blocks = refl
  pipe_read_waits place addr (Fails errno) = refl

  socket_read_waits : (place : ℕ) (addr : ℤ) (moving : Moving)
      → Agree (read_from_socket script new who place addr moving) (read_from_socket script old who place addr moving)
  socket_read_waits place addr (Moves k) = refl
  socket_read_waits place addr Blocks = refl
  socket_read_waits place addr (Fails errno) = refl

  target_read_waits : (was now : Opened) (addr : ℤ) (n : ℕ) (target : Target) → now.is.nonblock ≡ was.is.nonblock → Queue (Some target)
      → Agree (read_target script new who now addr n target) (read_target script old who was addr n target)
  target_read_waits was now addr n (OnNode number) alike queue = refl
  target_read_waits was now addr n (OnPipe place) alike queue =
      ap (λ moving. blocks (read_from_pipe script new who place addr moving)) (ap₂ (λ pipe nonblock. pipe_read pipe nonblock n) queue alike) ∙ pipe_read_waits place addr _
  target_read_waits was now addr n (OnSocket place) alike queue =
      ap (λ moving. blocks (read_from_socket script new who place addr moving))
      (reads old.files.sockets new.files.sockets queue place now.is.nonblock n ∙ ap (λ nonblock. sock_read old.files.sockets place nonblock n) alike)
      ∙ socket_read_waits place addr _

  -- a directory isn't read, and nothing else that a descriptor may be open on is one
  unless_directory_waits : (was now : Opened) (a b : Answer) (target : Target) → now.is.target ≡ target → was.is.target ≡ target → Agree a b
      → ((number : ℕ) → target ≡ OnNode number → blocks a ≡ false) → ((number : ℕ) → target ≡ OnNode number → blocks b ≡ false)
      → Agree (unless_directory script new who now a) (unless_directory script old who was b)
  unless_directory_waits was now a b target here there e f g =
      ap (λ t. blocks (if is_directory_target new.files.tree t then failed script new who EISDIR else a)) here
      ∙ by target f g
      ∙ sym (ap (λ t. blocks (if is_directory_target old.files.tree t then failed script old who EISDIR else b)) there)
    where
      none : (test : Bool) (fault rest : Answer) → blocks fault ≡ false → blocks rest ≡ false → blocks (if test then fault else rest) ≡ false
      none true fault rest x y = x
      none false fault rest x y = y

      by : (target : Target) → ((number : ℕ) → target ≡ OnNode number → blocks a ≡ false) → ((number : ℕ) → target ≡ OnNode number → blocks b ≡ false)
          → blocks (if is_directory_target new.files.tree target then failed script new who EISDIR else a)
          ≡ blocks (if is_directory_target old.files.tree target then failed script old who EISDIR else b)
      by (OnNode number) f g =
          none (is_directory new.files.tree number) (failed script new who EISDIR) a refl (f number refl)
          ∙ sym (none (is_directory old.files.tree number) (failed script old who EISDIR) b refl (g number refl))
      by (OnPipe place) f g = e
      by (OnSocket place) f g = e

  file_goes_on : (plain : Plain) (opened : Opened) (addr n : ℤ) (target : Target) (number : ℕ) → target ≡ OnNode number
      → blocks (of_bytes script plain who addr n (read_target script plain who opened addr (count_of n) target)) ≡ false
  file_goes_on plain opened addr n (OnNode other) number is = go (is_mapped_range (memory_of plain.table who) (count_of addr) (count_of n)) (count_of n == 0)
    where
      go : (mapped none : Bool) → blocks (if mapped then (if none then replied script plain who (Val (pos 0)) else read_target script plain who opened addr (count_of n) (OnNode other)) else failed script plain who EFAULT) ≡ false
      go true true = refl
      go true false = refl
      go false none = refl
  file_goes_on plain opened addr n (OnPipe place) number is = cc
  file_goes_on plain opened addr n (OnSocket place) number is = cc

  read_waits : (fd addr n : ℤ) → Queue (target_at old.files who fd) → Agree (read script new who fd addr n) (read script old who fd addr n)
  unfolding read
  read_waits fd addr n sees = on_opened _ _ (opened_at old.files who fd) (opened_at new.files who fd) (same.opened fd) sees (λ it other alike queue.
      fork _ _ _ _ _ _ (ap may_read alike.1)
      (unless_directory_waits it other _ _ it.is.target alike.0 refl
      (bytes_wait addr n _ _
      (ap (λ target. blocks (read_target script new who other addr (count_of n) target)) alike.0 ∙ target_read_waits it other addr (count_of n) it.is.target alike.2 queue))
      (λ number on. file_goes_on new other addr n other.is.target number (alike.0 ∙ on))
      (λ number on. file_goes_on old it addr n it.is.target number on))
      refl)

  file_write_waits : (was now : Opened) (at_place at_other : ℕ) (written changed : Result (ℕ × Tree) Errno)
      → Agree (wrote script new who now at_place written) (wrote script old who was at_other changed)
  file_write_waits was now at_place at_other (Ok it) (Ok other) = refl
  file_write_waits was now at_place at_other (Err errno) (Ok other) = refl
  file_write_waits was now at_place at_other (Ok it) (Err other) = refl
  file_write_waits was now at_place at_other (Err errno) (Err other) = refl

  -- a write of a queue blocks where nothing can move, whatever else it would come to
  abbrev queue_blocks : (plain : Plain) (nonblock : Bool) (n done : ℕ) (next : ℕ → Files) (moving : Moving) → Bool
  queue_blocks plain nonblock n done next moving = blocks (write_queue script plain who nonblock n done next moving)

  queue_goes : (plain : Plain) (nonblock : Bool) (n done k : ℕ) (next : ℕ → Files) → queue_blocks plain nonblock n done next (Moves k) ≡ false
  queue_goes plain nonblock n done k next = go (k == n - done) nonblock
    where
      go : (all early : Bool) → blocks (if all then replied script (with_files plain (next k)) who (Val (pos n)) else (if early then replied script (with_files plain (next k)) who (Val (pos (done + k))) else did_part (with_files plain (next k)) who k)) ≡ false
      go true early = refl
      go false true = refl
      go false false = refl

  queue_stops : (plain : Plain) (nonblock : Bool) (n done : ℕ) (next : ℕ → Files) (errno : Errno) → queue_blocks plain nonblock n done next (Fails errno) ≡ false
  queue_stops plain nonblock n done next errno = go (done == 0)
    where
      go : (none : Bool) → blocks (if none then failed script plain who errno else replied script plain who (Val (pos done))) ≡ false
      go true = refl
      go false = refl

  queue_write_waits : (nonblock early : Bool) (n done : ℕ) (next other : ℕ → Files) (moving : Moving)
      → Agree (write_queue script new who nonblock n done next moving) (write_queue script old who early n done other moving)
  queue_write_waits nonblock early n done next other (Moves k) = queue_goes new nonblock n done k next ∙ sym (queue_goes old early n done k other)
  queue_write_waits nonblock early n done next other Blocks = refl
  queue_write_waits nonblock early n done next other (Fails errno) = queue_stops new nonblock n done next errno ∙ sym (queue_stops old early n done other errno)

  target_write_waits : (was now : Opened) (addr : ℤ) (n done : ℕ) (target : Target) → now.is.nonblock ≡ was.is.nonblock → Queue (Some target)
      → Agree (write_target script new who now addr n done target) (write_target script old who was addr n done target)
  target_write_waits was now addr n done (OnNode number) alike queue = file_write_waits was now _ _ _ _
  target_write_waits was now addr n done (OnPipe place) alike queue =
      ap (λ moving. blocks (write_queue script new who now.is.nonblock n done (put_in_pipe new.files place (bytes_left new who addr n done)) moving))
      (ap₂ (λ pipe nonblock. pipe_write pipe nonblock n (n - done)) queue alike)
      ∙ queue_write_waits now.is.nonblock was.is.nonblock n done _ _ _
  target_write_waits was now addr n done (OnSocket place) alike queue =
      fork _ _ _ _ _ _ (ap is_connected (queue.stage place))
      (ap (λ moving. blocks (write_queue script new who now.is.nonblock n done (put_in_socket new.files place (bytes_left new who addr n done)) moving))
      (writes old.files.sockets new.files.sockets queue place now.is.nonblock (n - done) ∙ ap (λ nonblock. sock_write old.files.sockets place nonblock (n - done)) alike)
      ∙ queue_write_waits now.is.nonblock was.is.nonblock n done _ _ _)
      refl

  write_waits : (fd addr n : ℤ) (done : ℕ) → Queue (target_at old.files who fd) → Agree (write_ignoring script new who fd addr n done) (write_ignoring script old who fd addr n done)
  unfolding write_ignoring
  write_waits fd addr n done sees = on_opened _ _ (opened_at old.files who fd) (opened_at new.files who fd) (same.opened fd) sees (λ it other alike queue.
      fork _ _ _ _ _ _ (ap may_write alike.1)
      (bytes_wait addr n _ _
      (ap (λ target. blocks (write_target script new who other addr (count_of n) done target)) alike.0 ∙ target_write_waits it other addr (count_of n) done it.is.target alike.2 queue))
      refl)

  -- one that ends its caller doesn't block, and so it is of all
  any_write_waits : (fd addr n : ℤ) (done : ℕ) → Queue (target_at old.files who fd) → Agree (write script new who fd addr n done) (write script old who fd addr n done)
  any_write_waits fd addr n done sees = write_blocks script new who fd addr n done ∙ write_waits fd addr n done sees ∙ sym (write_blocks script old who fd addr n done)

  peer_waits : (listener : ℕ) (fd : Option ℕ) (accepting : Accepting)
      → Agree (accepted_under script new who listener fd accepting) (accepted_under script old who listener fd accepting)
  peer_waits listener (Some fd) (Takes taken) = refl
  peer_waits listener None (Takes taken) = refl
  peer_waits listener fd Waits = refl
  peer_waits listener fd (Refuses errno) = refl

  socket_waits : (f g : ℕ → Answer) (target : Target) → Queue (Some target) → ((place : ℕ) → SameSockets old.files.sockets new.files.sockets → Agree (f place) (g place))
      → Agree (socket_target script new who f target) (socket_target script old who g target)
  socket_waits f g (OnNode number) queue each = refl
  socket_waits f g (OnPipe place) queue each = refl
  socket_waits f g (OnSocket place) queue each = each place queue

  accept_waits : (fd : ℤ) → Queue (target_at old.files who fd) → Agree (accept script new who fd) (accept script old who fd)
  unfolding accept
  accept_waits fd sees = on_opened _ _ (opened_at old.files who fd) (opened_at new.files who fd) (same.opened fd) sees (λ it other alike queue.
      ap (λ target. blocks (socket_target script new who (accept_at script new who (lowest_free (descriptors_of new.files who)) other) target)) alike.0
      ∙ socket_waits _ _ it.is.target queue (λ listener sockets.
      ap (λ free. blocks (accepted_under script new who listener free (accept_in (stage_at new.files.sockets listener) (is_some free) other.is.nonblock))) (ap lowest_free same.numbers)
      ∙ ap₂ (λ stage nonblock. blocks (accepted_under script new who listener (lowest_free (descriptors_of old.files who)) (accept_in stage (is_some (lowest_free (descriptors_of old.files who))) nonblock)))
      (sockets.stage listener) alike.2
      ∙ peer_waits listener _ _))

  target_polls : (was now : Opened) (events : ℤ) (target : Target) → now.is.access ≡ was.is.access → Queue (Some target)
      → polled_target new.files now.is events target ≡ polled_target old.files was.is events target
  target_polls was now events (OnNode number) alike queue = refl
  target_polls was now events (OnPipe place) alike queue =
      ap₂ (λ access pipe. if may_write access then polled_to_write pipe events else polled_to_read pipe events) alike queue
  target_polls was now events (OnSocket place) alike queue = polls old.files.sockets new.files.sockets queue place events

  entry_polls : (fd events : ℤ) → Queue (target_at old.files who fd) → polled_at new.files who fd events ≡ polled_at old.files who fd events
  entry_polls (negsuc n) events sees = refl
  entry_polls (pos fd) events sees = go (opened_at old.files who (pos fd)) (opened_at new.files who (pos fd)) (same.opened (pos fd)) sees
    where
      go : (was now : Option Opened) → SameOpened was now → Queue (option_map (λ (it : Opened). it.is.target) was)
          → polled_opened new.files events now ≡ polled_opened old.files events was
      go None None alike queue = refl
      go (Some it) (Some other) alike queue = ap (polled_target new.files other.is events) alike.0 ∙ target_polls it other events it.is.target alike.1 queue
      go None (Some other) alike queue = absurd alike
      go (Some it) None alike queue = absurd alike

  all_poll : (entries : List PollEntry) → SeesQueues who old.files new.files (map (λ entry. entry.fd) entries) → revents_of new.files who entries ≡ revents_of old.files who entries
  all_poll [] sees = refl
  all_poll (entry ∷ entries) sees = ap₂ (λ one rest. one ∷ rest) (entry_polls entry.fd entry.events sees.0) (all_poll entries sees.1)

  polled_waits : (timeout : ℤ) (revents : List ℕ) → Agree (polled script new who timeout revents) (polled script old who timeout revents)
  polled_waits timeout revents = go ((hits_of revents == 0) && is_minus_one timeout)
    where
      go : (none : Bool) → Agree (if none then Blocked else replied script new who (Polled (record { hits = hits_of revents; revents = revents })))
          (if none then Blocked else replied script old who (Polled (record { hits = hits_of revents; revents = revents })))
      go true = refl
      go false = refl

  poll_waits : (timeout : ℤ) (entries : List PollEntry) → SeesQueues who old.files new.files (map (λ entry. entry.fd) entries)
      → Agree (poll script new who timeout entries) (poll script old who timeout entries)
  unfolding poll
  poll_waits timeout entries sees = ap (λ revents. blocks (polled script new who timeout revents)) (all_poll entries sees) ∙ polled_waits timeout (revents_of old.files who entries)

  -- an open that begins goes on
  begins_on : (plain : Plain) (path : List ℕ) (flags : ℤ) → blocks (open_by script plain who path flags None) ≡ false
  begins_on plain path flags = at (lowest_free (descriptors_of plain.files who))
    where
      end : (fd number : ℕ) (fault : Option Errno) → blocks (open_end script plain who flags fd number fault) ≡ false
      end fd number (Some errno) = refl
      end fd number None = go (fifo_waits (fifo_pipe plain.files number) flags)
        where
          go : (b : Bool) → blocks (if b then did_part (with_files plain (end_awaits plain.files who flags fd number)) who 1
              else replied script (with_files plain (end_opened plain.files who flags fd number)) who (Val (pos fd))) ≡ false
          go true = refl
          go false = refl

      there : (fd : ℕ) (r : Result (ℕ × Tree) Errno) → blocks (opened_node_as script plain who flags fd r) ≡ false
      there fd (Err errno) = refl
      there fd (Ok found) = go (is_fifo found.1 found.0)
        where
          go : (b : Bool) → blocks (if b then open_fifo script plain who flags fd found.0 else open_node script plain who flags fd found.0 found.1) ≡ false
          go true = end fd found.0 (fifo_fault (fifo_pipe plain.files found.0) flags)
          go false = refl

      at : (o : Option ℕ) → blocks (open_at script plain who path flags o) ≡ false
      at None = refl
      at (Some fd) = there fd (open_path plain.files.tree (directory_of plain.table who) path (opening_of flags))

  again : (plain : Plain) (path : List ℕ) (flags : ℤ) (opening : HalfOpen) → blocks (open_by script plain who path flags (Some opening)) ≡ not (is_met plain.files who opening)
  again plain path flags opening = go (is_met plain.files who opening)
    where
      go : (b : Bool) → blocks (if b then replied script (with_files plain (with_opening plain.files who None)) who (Val (pos opening.fd)) else Blocked) ≡ not b
      go true = refl
      go false = refl

  -- the other side was opened as often
  met_alike : (opening : HalfOpen) → is_met new.files who opening ≡ is_met old.files who opening
  met_alike opening = ap (λ n. nat_lt opening.seen n) (go (opened_at old.files who (pos opening.fd)) (opened_at new.files who (pos opening.fd)) (same.opened (pos opening.fd)))
    where
      by_target : (was now : Opened) (target : Target) → now.is.access ≡ was.is.access → others_opens new.files now.is target ≡ others_opens old.files was.is target
      by_target was now (OnNode number) access = refl
      by_target was now (OnPipe place) access = same.opens place (not (may_write now.is.access)) ∙ ap (λ a. opens_of (pipe_at old.files place) (not (may_write a))) access
      by_target was now (OnSocket place) access = refl

      go : (was now : Option Opened) → SameOpened was now → others_opened new.files now ≡ others_opened old.files was
      go None None alike = refl
      go (Some it) (Some other) alike = ap (others_opens new.files other.is) alike.0 ∙ by_target it other it.is.target alike.1
      go None (Some other) alike = absurd alike
      go (Some it) None alike = absurd alike

  open_waits : (path : List ℕ) (flags : ℤ) → Agree (open_file script new who path flags) (open_file script old who path flags)
  unfolding open_file
  open_waits path flags = ap (λ o. blocks (open_by script new who path flags o)) same.waits ∙ go (opening_at old.files who)
    where
      go : (o : Option HalfOpen) → Agree (open_by script new who path flags o) (open_by script old who path flags o)
      go None = begins_on new path flags ∙ sym (begins_on old path flags)
      go (Some opening) = again new path flags opening ∙ ap not (met_alike opening) ∙ sym (again old path flags opening)

  right_or_wrong : (fault : Option Errno) (a b : Answer) → Agree a b → Agree (unless_wrong script new who fault a) (unless_wrong script old who fault b)
  right_or_wrong None a b e = e
  right_or_wrong (Some errno) a b e = refl

  -- a call that may not block goes on
  goes_on_in : (plain : Plain) (which : Call) → may_block which ≡ false → blocks (machine script plain who which) ≡ false
  goes_on_in plain which never = go (machine script plain who which) refl
    where
      go : (answer : Answer) → machine script plain who which ≡ answer → blocks answer ≡ false
      go Blocked is = both (blocked_may script plain who which is) never
      go _ is = refl

  quiet : (which : Call) → may_block which ≡ false → Agree (machine script new who which) (machine script old who which)
  quiet which never = goes_on_in new which never ∙ sym (goes_on_in old which never)

  -- where nobody holds a lock nobody waits for one
  waits_for_none : (plain : Plain) (fd kind start size : ℤ) → plain.files.locks ≡ [] → blocks (machine script plain who (call.Setlkw fd kind start size)) ≡ false
  waits_for_none plain fd kind start size none = ap blocks (nothing_in_way script plain who fd kind start size none) ∙ goes_on_in plain (call.Setlk fd kind start size) refl

  all_agree : (which : Call) → SeesQueues who old.files new.files (awaited which) → Agree (machine script new who which) (machine script old who which)
  all_agree (call.Waitpid child options) sees = right_or_wrong (argument_fault (call.Waitpid child options)) _ _ (child_waits child options)
  all_agree (call.Read fd addr n) sees = right_or_wrong (argument_fault (call.Read fd addr n)) _ _ (read_waits fd addr n sees.0)
  all_agree (call.Write fd addr n done) sees = right_or_wrong (argument_fault (call.Write fd addr n done)) _ _ (any_write_waits fd addr n done sees.0)
  all_agree (call.Accept fd) sees = right_or_wrong (argument_fault (call.Accept fd)) _ _ (accept_waits fd sees.0)
  all_agree (call.Poll timeout entries) sees = right_or_wrong (argument_fault (call.Poll timeout entries)) _ _ (poll_waits timeout entries sees)
  all_agree (call.OpenFile path flags) sees = right_or_wrong (argument_fault (call.OpenFile path flags)) _ _ (open_waits path flags)
  all_agree (call.Setlkw fd kind start size) sees = waits_for_none new fd kind start size same.unlocked.1 ∙ sym (waits_for_none old fd kind start size same.unlocked.0)
  all_agree which sees = quiet which refl

  -- its next call blocks in both or in neither, where what that waits for is the same
  pub blocks_alike : SeesQueues who old.files new.files (awaited (call_of script old who)) → would_block script new who ≡ would_block script old who
  blocks_alike sees = ap (λ control. blocks (machine script new who (program.call_of script control))) same.control ∙ all_agree (call_of script old who) sees

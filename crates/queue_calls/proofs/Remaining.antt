-- What an answer of a call that goes by what is open leaves of the machine, where that is no node.
use Rattle.std.proofs.Common.{◌≡◌, ℕ, zero, suc, ◌+◌, ◌-◌, ◌≤◌, ◌++◌, ◌==◌, ◌&&◌, ℤ, pos, Bool, true, false, cond, List, [], ◌∷◌, drop, take, Option, None, Some, is_some, unwrap_or, refl, ap, sym, ◌∙◌, arith, inl, inr}
use Rattle.std.specs.Prelude.{nat_le, slice_index_or, slice_set}
use Rattle.std.specs.Option.{option_and_then}
use Rattle.std.proofs.lemmas.Bool.Decides.{eqb_tells, leb_tells}
use Rattle.kabi_types.specs.Arguments.{count_of, is_minus_one}
use Rattle.kabi_types.specs.declared.errnos.Errno.TheVariants.{EAGAIN, EBADF, EFAULT, EISDIR, ENOTCONN, EPIPE}
use Rattle.kabi_types.specs.declared.replies.Reply.{Reply}
use Rattle.kabi_types.specs.declared.replies.Reply.TheVariants.{Fail, Polled, Val}
use Rattle.kabi_types.specs.declared.short_lists.PollEntry.{PollEntry}
use Rattle.kabi_types.specs.declared.scripts.Script.{Script}
use Rattle.kern_laws.proofs.Remembering.{remembers_family}
use Rattle.posix_defs.specs.Answer.{Answer, Blocked, Done, Ended, Part, replied}
use Rattle.posix_defs.specs.Calls.Opened.{Opened, answer_on, if_readable, if_writable, opened_at}
use Rattle.posix_defs.specs.Calls.Polling.{hits_of, poll, revents_of}
use Rattle.posix_defs.specs.Calls.Reading.{is_directory_target, of_bytes, put, read, read_from_pipe, read_from_socket, read_target, unless_directory}
use Rattle.posix_defs.specs.Calls.Writing.{bytes_left, did_part, put_in_pipe, put_in_socket, write_ignoring, write_queue, write_target}
use Rattle.posix_defs.specs.Family.{IsFamily}
use Rattle.posix_defs.specs.Files.Descriptions.{Target, OnNode, OnPipe, OnSocket, may_read, may_write}
use Rattle.posix_defs.specs.Files.State.{Files, node_of, pipe_at, with_pipe, with_sockets}
use Rattle.posix_defs.specs.Memory.{Memory, is_mapped_range, stored}
use Rattle.posix_defs.specs.Pipe.{Moving, Moves, Blocks, Fails, Pipe, after_read, after_write, fifo_of, free_in, new_pipe, not_now, pipe_read, pipe_write, whole}
use Rattle.posix_defs.specs.Plain.{Plain, with_files}
use Rattle.posix_defs.specs.Process.{memory_of}
use Rattle.proc_files.proofs.Openings.{same_nodes}
use Rattle.proc_numbers.specs.Found.{is_in_tree, number_in}
use Rattle.posix_defs.specs.Socket.{Stage, Idle, Listening, Connected, is_connected, is_shut_read, peer_of}
use Rattle.posix_defs.specs.Sockets.{Sockets, after_read as socket_after_read, after_write as socket_after_write, free_at, sent_to, sock_read, sock_write, socket_at, stage_at, write_in_stage, write_to, write_within}
use Rattle.posix_defs.specs.World.{directories_of}
use Rattle.store_objects.proofs.WorkingOn.{works_remembered}
use Rattle.store_objects.proofs.Leaving.{LeavesNodes, files_in, same_named, same_opened}

-- The machine becomes another: who is whose child, who works where, the tree, which nodes of it are open, the names of sockets, and
-- the locks of files are what they were.
pub record Remains (plain next : Plain) : Type 0 where
  pub family : IsFamily plain.table → IsFamily next.table
  pub works : directories_of next.table ≡ directories_of plain.table
  pub nodes : LeavesNodes plain.files next.files
  pub locks : next.files.locks ≡ plain.files.locks

-- so does whatever an answer leads to, whose caller doesn't end; of the parts that a call does this is true
abbrev pub Leaves : (ℕ → Type 0) → Plain → Answer → Type 0
Leaves Parts plain Blocked = Unit {0}
Leaves Parts plain (Done reply next) = Remains plain next
Leaves Parts plain (Part moved next) = Parts moved × Remains plain next
Leaves Parts plain (Ended status next) = ⊥

-- so the files that it leads to have the same nodes
pub nodes_left : (Parts : ℕ → Type 0) (plain : Plain) (answer : Answer) → Leaves Parts plain answer → LeavesNodes plain.files (files_in plain.files answer)
nodes_left Parts plain Blocked leaves = record { tree = refl; opens = refl; names = λ place. refl }
nodes_left Parts plain (Done reply next) leaves = leaves.nodes
nodes_left Parts plain (Part moved next) leaves = leaves.1.nodes
nodes_left Parts plain (Ended status next) leaves = absurd leaves

-- of bytes that go as far as there is room none is more than are left
fits_within : (free m k : ℕ) (nonblock : Bool) → cond (nat_le m free) (Moves m) (cond (free == 0) (not_now nonblock) (Moves free)) ≡ Moves k → k ≤ m
fits_within free m k nonblock = by_room (nat_le m free) refl (free == 0)
  where
    same : (a : ℕ) → Moves a ≡ Moves k → a ≡ k
    same a e = cc

    not_yet : (b : Bool) → cond b (Fails EAGAIN) Blocks ≡ Moves k → k ≤ m
    not_yet true e = cc
    not_yet false e = cc

    by_room : (fits : Bool) → nat_le m free ≡ fits → (none : Bool) → cond fits (Moves m) (cond none (not_now nonblock) (Moves free)) ≡ Moves k → k ≤ m
    by_room true is none e = let s : m ≡ k = same m e in omega arith
    by_room false is true e = not_yet nonblock e
    by_room false is false e = elim (leb_tells m free) [
      | inl less ↦ absurd (let g : true ≡ false = sym less.0 ∙ is in cc)
      | inr more ↦ (let s : free ≡ k = same free e in let l = more.1 in omega arith)
    ]

-- a write of a pipe moves no more than is left
pipe_within : (pipe : Pipe) (nonblock : Bool) (n m k : ℕ) → pipe_write pipe nonblock n m ≡ Moves k → k ≤ m
pipe_within pipe nonblock n m k = by_readers (pipe.readers == 0)
  where
    all : Moves m ≡ Moves k → k ≤ m
    all e = let s : m ≡ k = cc in omega arith

    not_yet : (b : Bool) → cond b (Fails EAGAIN) Blocks ≡ Moves k → k ≤ m
    not_yet true e = cc
    not_yet false e = cc

    by_fit : (fits : Bool) → cond fits (Moves m) (not_now nonblock) ≡ Moves k → k ≤ m
    by_fit true e = all e
    by_fit false e = not_yet nonblock e

    by_size : (small : Bool)
        → cond small (cond (nat_le n (free_in pipe)) (Moves m) (not_now nonblock))
        (cond (nat_le m (free_in pipe)) (Moves m) (cond (free_in pipe == 0) (not_now nonblock) (Moves (free_in pipe)))) ≡ Moves k → k ≤ m
    by_size true e = by_fit (nat_le n (free_in pipe)) e
    by_size false e = fits_within (free_in pipe) m k nonblock e

    by_readers : (gone : Bool)
        → cond gone (Fails EPIPE)
        (cond (nat_le n whole) (cond (nat_le n (free_in pipe)) (Moves m) (not_now nonblock))
        (cond (nat_le m (free_in pipe)) (Moves m) (cond (free_in pipe == 0) (not_now nonblock) (Moves (free_in pipe))))) ≡ Moves k → k ≤ m
    by_readers true e = cc
    by_readers false e = by_size (nat_le n whole) e

-- nor does one of a socket
socket_within : (sockets : Sockets) (place : ℕ) (nonblock : Bool) (m k : ℕ) → sock_write sockets place nonblock m ≡ Moves k → k ≤ m
socket_within sockets place nonblock m k = by_stage (stage_at sockets place)
  where
    by_peer : (deaf : Bool) (peer : ℕ) → cond deaf (Fails EPIPE) (write_within (free_at sockets peer) nonblock m) ≡ Moves k → k ≤ m
    by_peer true peer e = cc
    by_peer false peer e = fits_within (free_at sockets peer) m k nonblock e

    by_shut : (shut : Bool) (peer : Option ℕ) → cond shut (Fails EPIPE) (write_to sockets peer nonblock m) ≡ Moves k → k ≤ m
    by_shut true peer e = cc
    by_shut false None e = cc
    by_shut false (Some peer) e = by_peer (is_shut_read (stage_at sockets peer)) peer e

    by_stage : (stage : Stage) → write_in_stage sockets stage nonblock m ≡ Moves k → k ≤ m
    by_stage Idle e = cc
    by_stage (Listening waiting) e = cc
    by_stage (Connected peer shut_read shut_write) e = by_shut shut_write peer e

-- a pipe that becomes another of the same FIFO, or of none, leaves which node each target has
fifo_kept : (o : Option Pipe) (pipe : Pipe) → pipe.node ≡ (unwrap_or o new_pipe).node → option_and_then fifo_of (Some pipe) ≡ option_and_then fifo_of o
fifo_kept None pipe same = ap (λ n. cond (n == 0) None (Some n)) same
fifo_kept (Some was) pipe same = ap (λ n. cond (n == 0) None (Some n)) same

set_fifo : (pipes : List (Option Pipe)) (place : ℕ) (pipe : Pipe) → pipe.node ≡ (unwrap_or (slice_index_or pipes place None) new_pipe).node → (at : ℕ)
    → option_and_then fifo_of (slice_index_or (slice_set pipes place (Some pipe)) at None) ≡ option_and_then fifo_of (slice_index_or pipes at None)
set_fifo [] place pipe same at = refl
set_fifo (first ∷ pipes) zero pipe same zero = fifo_kept first pipe same
set_fifo (first ∷ pipes) zero pipe same (suc at) = refl
set_fifo (first ∷ pipes) (suc place) pipe same zero = refl
set_fifo (first ∷ pipes) (suc place) pipe same (suc at) = set_fifo pipes place pipe same at

repiped : (files : Files) (place : ℕ) (pipe : Pipe) → pipe.node ≡ (pipe_at files place).node → (what : Target) → node_of (with_pipe files place (Some pipe)) what ≡ node_of files what
repiped files place pipe same (OnNode number) = refl
repiped files place pipe same (OnPipe at) = set_fifo files.pipes place pipe same at
repiped files place pipe same (OnSocket sock) = refl

module _ (Parts : ℕ → Type 0) (script : Script) (plain : Plain) (pid : ℕ) where
  abbrev Left : Answer → Type 0
  Left answer = Leaves Parts plain answer

  choose : (b : Bool) (one two : Answer) → Left one → Left two → Left (cond b one two)
  choose true one two first second = first
  choose false one two first second = second

  -- what changes the caller's control alone
  tells : (reply : Reply) → Left (replied script plain pid reply)
  tells reply = record { family = λ is. is; works = refl; nodes = record { tree = refl; opens = refl; names = λ place. refl }; locks = refl }

  -- and what changes pipes or sockets
  tells_with : (files : Files) (reply : Reply) → LeavesNodes plain.files files → files.locks ≡ plain.files.locks → Left (replied script (with_files plain files) pid reply)
  tells_with files reply nodes locks =
      record { family = λ is. is; works = refl; nodes = record { tree = nodes.tree; opens = nodes.opens; names = nodes.names }; locks = locks }

  -- and what puts bytes in memory
  puts : (files : Files) (addr : ℤ) (bytes : List ℕ) → LeavesNodes plain.files files → files.locks ≡ plain.files.locks → Left (put script (with_files plain files) pid addr bytes)
  puts files addr bytes nodes locks =
      let memory : Memory = stored (memory_of plain.table pid) (count_of addr) bytes in record {
        family = λ is. remembers_family plain.table pid memory is;
        works = works_remembered plain.table pid memory;
        nodes = record { tree = nodes.tree; opens = nodes.opens; names = nodes.names };
        locks = locks;
      }

  -- a pipe with other bytes leaves them
  in_pipe : (place : ℕ) (pipe : Pipe) → pipe.node ≡ (pipe_at plain.files place).node → LeavesNodes plain.files (with_pipe plain.files place (Some pipe))
  in_pipe place pipe same = record {
    tree = refl;
    opens = same_nodes (with_pipe plain.files place (Some pipe)) plain.files plain.files.descriptions (λ at d there. repiped plain.files place pipe same d.target);
    names = λ at. refl;
  }

  -- and so do sockets with other bytes
  in_sockets : (sockets : Sockets) → ((place : ℕ) → (socket_at sockets place).node ≡ (socket_at plain.files.sockets place).node)
      → LeavesNodes plain.files (with_sockets plain.files sockets)
  in_sockets sockets named = record { tree = refl; opens = same_opened plain.files (with_sockets plain.files sockets) refl refl; names = named }

  read_named : (place k at : ℕ) → (socket_at (socket_after_read plain.files.sockets place k) at).node ≡ (socket_at plain.files.sockets at).node
  read_named place k at =
      let socket = socket_at plain.files.sockets place in same_named plain.files.sockets place (record socket { bytes = drop k socket.bytes }) refl at

  sent_named : (peer : Option ℕ) (bytes : List ℕ) (at : ℕ) → (socket_at (sent_to plain.files.sockets peer bytes) at).node ≡ (socket_at plain.files.sockets at).node
  sent_named None bytes at = refl
  sent_named (Some peer) bytes at =
      let socket = socket_at plain.files.sockets peer in same_named plain.files.sockets peer (record socket { bytes = socket.bytes ++ bytes }) refl at

  -- ---- poll

  pub poll_leaves : (timeout : ℤ) (entries : List PollEntry) → Left (poll script plain pid timeout entries)
  unfolding poll
  poll_leaves timeout entries =
      let revents = revents_of plain.files pid entries in
      choose ((hits_of revents == 0) && is_minus_one timeout) Blocked _ tt (tells (Polled (record { hits = hits_of revents; revents = revents })))

  module _ (fd : ℤ) (off : is_in_tree (opened_at plain.files pid fd) ≡ false) where
    -- what is open is open on a pipe or a socket
    on_queue : (opened : Opened) (on : Target) (X : Target → Type 0) → opened_at plain.files pid fd ≡ Some opened → opened.is.target ≡ on
        → ((place : ℕ) → X (OnPipe place)) → ((place : ℕ) → X (OnSocket place)) → X on
    on_queue opened (OnNode number) X is at by_pipe by_socket =
        absurd (let both : true ≡ false = sym (ap is_in_tree is ∙ ap (λ what. is_some (number_in what)) at) ∙ off in cc)
    on_queue opened (OnPipe place) X is at by_pipe by_socket = by_pipe place
    on_queue opened (OnSocket place) X is at by_pipe by_socket = by_socket place

    -- ---- read

    from_pipe : (place : ℕ) (addr : ℤ) (moving : Moving) → Left (read_from_pipe script plain pid place addr moving)
    from_pipe place addr (Moves k) =
        let pipe = pipe_at plain.files place in
        puts (with_pipe plain.files place (Some (after_read pipe k))) addr (take k pipe.bytes) (in_pipe place (after_read pipe k) refl) refl
    from_pipe place addr Blocks = tt
    from_pipe place addr (Fails errno) = tells (Fail errno)

    from_socket : (place : ℕ) (addr : ℤ) (moving : Moving) → Left (read_from_socket script plain pid place addr moving)
    from_socket place addr (Moves k) =
        puts (with_sockets plain.files (socket_after_read plain.files.sockets place k)) addr (take k (socket_at plain.files.sockets place).bytes)
        (in_sockets (socket_after_read plain.files.sockets place k) (read_named place k)) refl
    from_socket place addr Blocks = tt
    from_socket place addr (Fails errno) = tells (Fail errno)

    pub read_leaves : (addr n : ℤ) → Left (read script plain pid fd addr n)
    unfolding read
    read_leaves addr n = by_opened (opened_at plain.files pid fd) refl
      where
        by_opened : (o : Option Opened) → opened_at plain.files pid fd ≡ o
            → Left (answer_on script plain pid
            (λ opened. if_readable script plain pid opened
            (unless_directory script plain pid opened
            (of_bytes script plain pid addr n (read_target script plain pid opened addr (count_of n) opened.is.target)))) o)
        by_opened None is = tells (Fail EBADF)
        by_opened (Some opened) is =
            choose (may_read opened.is.access) _ _
            (choose (is_directory_target plain.files.tree opened.is.target) _ _ (tells (Fail EISDIR))
            (choose (is_mapped_range (memory_of plain.table pid) (count_of addr) (count_of n)) _ _
            (choose (count_of n == 0) _ _ (tells (Val (pos 0)))
            (on_queue opened opened.is.target (λ on. Left (read_target script plain pid opened addr (count_of n) on)) is refl
            (λ place. from_pipe place addr (pipe_read (pipe_at plain.files place) opened.is.nonblock (count_of n)))
            (λ place. from_socket place addr (sock_read plain.files.sockets place opened.is.nonblock (count_of n)))))
            (tells (Fail EFAULT))))
            (tells (Fail EBADF))

    -- ---- write

    -- k of the bytes that are left were put in a queue
    put_k : (files : Files) (n done k : ℕ) (nonblock : Bool) → LeavesNodes plain.files files → files.locks ≡ plain.files.locks
        → ((moved : ℕ) → done + moved ≤ n → Parts moved) → k ≤ n - done → (all : Bool) → (k == n - done) ≡ all
        → Left (cond all (replied script (with_files plain files) pid (Val (pos n)))
        (cond nonblock (replied script (with_files plain files) pid (Val (pos (done + k)))) (did_part (with_files plain files) pid k)))
    put_k files n done k nonblock nodes locks parts less true is = tells_with files (Val (pos n)) nodes locks
    put_k files n done k true nodes locks parts less false is = tells_with files (Val (pos (done + k))) nodes locks
    put_k files n done k false nodes locks parts less false is = (
      parts k (elim (eqb_tells k (n - done)) [
        | inl same ↦ absurd (let g : true ≡ false = sym same.0 ∙ is in cc)
        | inr other ↦ (let apart = other.1 in omega arith)
      ]),
      record { family = λ is. is; works = refl; nodes = record { tree = nodes.tree; opens = nodes.opens; names = nodes.names }; locks = locks },
    )

    to_pipe : (place : ℕ) (n done : ℕ) (nonblock : Bool) (bytes : List ℕ) → ((moved : ℕ) → done + moved ≤ n → Parts moved)
        → (moving : Moving) → pipe_write (pipe_at plain.files place) nonblock n (n - done) ≡ moving
        → Left (write_queue script plain pid nonblock n done (put_in_pipe plain.files place bytes) moving)
    to_pipe place n done nonblock bytes parts (Moves k) is =
        put_k (put_in_pipe plain.files place bytes k) n done k nonblock (in_pipe place (after_write (pipe_at plain.files place) bytes k) refl) refl parts (pipe_within (pipe_at plain.files place) nonblock n (n - done) k is) (k == n - done) refl
    to_pipe place n done nonblock bytes parts Blocks is = tt
    to_pipe place n done nonblock bytes parts (Fails errno) is = choose (done == 0) _ _ (tells (Fail errno)) (tells (Val (pos done)))

    to_socket : (place : ℕ) (n done : ℕ) (nonblock : Bool) (bytes : List ℕ) → ((moved : ℕ) → done + moved ≤ n → Parts moved)
        → (moving : Moving) → sock_write plain.files.sockets place nonblock (n - done) ≡ moving
        → Left (write_queue script plain pid nonblock n done (put_in_socket plain.files place bytes) moving)
    to_socket place n done nonblock bytes parts (Moves k) is =
        put_k (put_in_socket plain.files place bytes k) n done k nonblock
        (in_sockets (socket_after_write plain.files.sockets place bytes k) (sent_named (peer_of (stage_at plain.files.sockets place)) (take k bytes))) refl parts (socket_within plain.files.sockets place nonblock (n - done) k is) (k == n - done) refl
    to_socket place n done nonblock bytes parts Blocks is = tt
    to_socket place n done nonblock bytes parts (Fails errno) is = choose (done == 0) _ _ (tells (Fail errno)) (tells (Val (pos done)))

    pub write_leaves : (addr n : ℤ) (done : ℕ) → ((moved : ℕ) → done + moved ≤ count_of n → Parts moved) → Left (write_ignoring script plain pid fd addr n done)
    unfolding write_ignoring
    write_leaves addr n done parts = by_opened (opened_at plain.files pid fd) refl
      where
        by_opened : (o : Option Opened) → opened_at plain.files pid fd ≡ o
            → Left (answer_on script plain pid
            (λ opened. if_writable script plain pid opened
            (of_bytes script plain pid addr n (write_target script plain pid opened addr (count_of n) done opened.is.target))) o)
        by_opened None is = tells (Fail EBADF)
        by_opened (Some opened) is =
            choose (may_write opened.is.access) _ _
            (choose (is_mapped_range (memory_of plain.table pid) (count_of addr) (count_of n)) _ _
            (choose (count_of n == 0) _ _ (tells (Val (pos 0)))
            (on_queue opened opened.is.target (λ on. Left (write_target script plain pid opened addr (count_of n) done on)) is refl
            (λ place. to_pipe place (count_of n) done opened.is.nonblock (bytes_left plain pid addr (count_of n) done) parts
            (pipe_write (pipe_at plain.files place) opened.is.nonblock (count_of n) (count_of n - done)) refl)
            (λ place. choose (is_connected (stage_at plain.files.sockets place)) _ _
            (to_socket place (count_of n) done opened.is.nonblock (bytes_left plain pid addr (count_of n) done) parts
            (sock_write plain.files.sockets place opened.is.nonblock (count_of n - done)) refl)
            (tells (Fail ENOTCONN)))))
            (tells (Fail EFAULT)))
            (tells (Fail EBADF))

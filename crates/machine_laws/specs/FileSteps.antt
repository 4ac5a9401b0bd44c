-- How files change in one call: by one step, whatever the machine answers.
use Rattle.std.specs.Prelude.{ℕ, ◌≡◌, ◌≤◌, ◌-◌, ◌%◌, ◌==◌, ◌||◌, not, ℤ, Bool, true, false, List, [], ◌∷◌, ◌++◌, length, Option, None, Some, Ok}
use Rattle.kabi_types.specs.Arguments.{count_of, may_be_descriptor}
use Rattle.kabi_types.specs.declared.calls.Call.{Call}
use Rattle.kabi_types.specs.declared.calls.Call.TheVariants as calls
use Rattle.kabi_types.specs.Ranges.{greatest}
use Rattle.posix_defs.specs.Answer.{Answer, Blocked, Done, Part, Ended}
use Rattle.posix_defs.specs.Ending.{closed_by}
use Rattle.posix_defs.specs.ByPid.{with_pid}
use Rattle.posix_defs.specs.Locks.{Request, after_set}
use Rattle.posix_defs.specs.Pipe.{Moves, after_read, opens_of, pipe_read, pipe_write, unopened, with_end}
use Rattle.posix_defs.specs.Plain.{Plain}
use Rattle.posix_defs.specs.Process.{directory_of}
use Rattle.posix_defs.specs.Reaching.{names_node}
use Rattle.posix_defs.specs.Socket.{Takes, accept as accept_in, bind_fault, connect_fault, listen_fault, shutdown_fault}
use Rattle.posix_defs.specs.Sockets.{socket_at, stage_at, sock_read, sock_write, with_name, after_connect, after_listen, after_read as socket_after_read, after_shut, is_refused}
use Rattle.posix_defs.specs.IsTree.{IsTree}
use Rattle.posix_defs.specs.Tree.{Tree, is_directory}
use Rattle.posix_defs.specs.TreeChanges.{resize, write}
use Rattle.posix_defs.specs.PathCalls.{bind_path, is_fifo, link_path, mkdir_path, mkfifo_path, open_path, rename_path, rmdir_path, unlink_path}
use Rattle.posix_defs.specs.Files.Closing.{after_close, after_exec_of}
use Rattle.posix_defs.specs.Files.Descriptors.{Two, descriptor_at, lowest_free, lowest_free_from, two_lowest_free}
use Rattle.posix_defs.specs.Files.Descriptions.{OnNode, OnPipe, OnSocket, Description, access_of, at_offset, has_flag, may_read, may_write, o_cloexec}
use Rattle.posix_defs.specs.Files.SocketNames.{listener_at}
use Rattle.posix_defs.specs.Files.State.{Files, HalfOpen, described_as, descriptors_of, opened_as, opening_at, opens as is_opened, pipe_at, with_heir, with_locks, with_open, with_opening, with_openings, with_pipe, with_pipes, with_sockets, with_tree}
use Rattle.posix_defs.specs.Calls.Opened.{Opened, opened_at}
use Rattle.posix_defs.specs.Calls.OnDescriptors.{cloexec_set, shared_at}
use Rattle.posix_defs.specs.Calls.OnFiles.{description_for, description_on, fifo_at, fifo_fault, fifo_pipe, fifo_waits, opening_of}
use Rattle.posix_defs.specs.Calls.OnLocks.{is_clear}
use Rattle.posix_defs.specs.Calls.OnNames.{is_busy, renamed}
use Rattle.posix_defs.specs.Calls.OnPipes.{piped}
use Rattle.posix_defs.specs.Calls.OnSockets.{accepted, paired, socketed}
use Rattle.posix_defs.specs.Calls.Writing.{bytes_left, put_in_pipe, put_in_socket}

-- what holds of the machine that an answer leads to
abbrev pub LeadsTo : (Plain → Type 0) → Answer → Type 0
LeadsTo Holds Blocked = Unit {0}
LeadsTo Holds (Done reply next) = Holds next
LeadsTo Holds (Part moved next) = Holds next
LeadsTo Holds (Ended status next) = Holds next

-- the calls that may end their caller
abbrev pub may_end_caller : Call → Bool
may_end_caller (calls.Exit status) = true
may_end_caller (calls.Kill target signal) = true
may_end_caller (calls.Write fd addr n done) = true
may_end_caller _ = false

-- the calls that may end another process
abbrev pub may_end_other : Call → Bool
may_end_other (calls.Kill target signal) = true
may_end_other _ = false

-- the calls that may end a process
abbrev pub is_ending : Call → Bool
is_ending call = may_end_caller call || may_end_other call

-- the calls that may hold places of a file, or let them go
abbrev pub is_setting : Call → Bool
is_setting (calls.Setlk fd kind start size) = true
is_setting (calls.Setlkw fd kind start size) = true
is_setting _ = false

-- the places that are asked for are some of a file
abbrev pub ArePlaces : Request → Type 0
ArePlaces asked = (asked.start ≤ asked.last) × (asked.last ≤ greatest)

-- a call's descriptor is open on a node, for writing
pub record WritesNode (plain : Plain) (pid : ℕ) (call : Call) (fd : ℤ) (opened : Opened) (number : ℕ) : Type 0 where
  pub named : opened_at plain.files pid fd ≡ Some opened
  pub target : opened.is.target ≡ OnNode number
  pub writable : may_write opened.is.access ≡ true
  pub reached : names_node plain.files pid call ≡ true

-- Where a description is open on a directory, and its offset stood between two entries of 32 bytes, another stands so too.
abbrev pub StaysBetween : Tree → Description → ℕ → Type 0
StaysBetween tree was offset =
    (number : ℕ) → was.target ≡ OnNode number → IsTree tree → is_directory tree number ≡ true → was.offset % 32 ≡ 0 → offset % 32 ≡ 0

-- An open by the lowest descriptor that is free leads to a FIFO, which may be opened so; the process doesn't wait in one already.
pub record OpensEnd (plain : Plain) (pid : ℕ) (call : Call) (path : List ℕ) (flags : ℤ) (fd : ℕ) (there : ℕ × Tree) : Type 0 where
  pub which : call ≡ calls.OpenFile path flags
  pub begins : opening_at plain.files pid ≡ None
  pub free : lowest_free (descriptors_of plain.files pid) ≡ Some fd
  pub led : open_path plain.files.tree (directory_of plain.table pid) path (opening_of flags) ≡ Ok there
  pub fifo : is_fifo there.1 there.0 ≡ true
  pub right : fifo_fault (fifo_pipe plain.files there.0) flags ≡ None

-- The open is over; or it waits until the other side of the FIFO is opened once more.
pub data MayWait (files : Files) (pid : ℕ) (flags : ℤ) (fd number : ℕ) (openings : List (Option HalfOpen)) : Type 0 where
  goes : fifo_waits (fifo_pipe files number) flags ≡ false → openings ≡ files.openings → MayWait files pid flags fd number openings
  waits : fifo_waits (fifo_pipe files number) flags ≡ true
      → openings ≡ with_pid files.openings pid (Some (record { fd = fd; seen = opens_of (fifo_pipe files number) (not (may_write (access_of flags))) }))
      → MayWait files pid flags fd number openings

-- Of files nothing else changes in a call than this, whose caller goes on behind it or has ended.
pub data IsStep (plain : Plain) (pid : ℕ) (call : Call) (goes_on : Bool) (next : Files) : Type 0 where
  -- nothing
  stays : next ≡ plain.files → IsStep plain pid call goes_on next
  -- ---- descriptors and descriptions

  -- the lowest descriptor from a number on that is free names what another names
  shares : (fd : ℤ) (opened : Opened) (from to : ℕ) → opened_at plain.files pid fd ≡ Some opened
      → lowest_free_from (descriptors_of plain.files pid) from ≡ Some to → next ≡ shared_at plain.files pid opened to → IsStep plain pid call goes_on next
  -- a given descriptor names what another names, and is closed before
  shares_over : (fd to : ℤ) (opened : Opened) → opened_at plain.files pid fd ≡ Some opened
      → may_be_descriptor to ≡ true → (count_of fd == count_of to) ≡ false
      → next ≡ shared_at (after_close plain.files pid (count_of to)) pid opened (count_of to) → IsStep plain pid call goes_on next
  -- a descriptor is closed by `exec` from now on, or isn't
  marks : (fd : ℤ) (opened : Opened) (cloexec : Bool) → opened_at plain.files pid fd ≡ Some opened
      → next ≡ with_open plain.files pid (count_of fd) (cloexec_set cloexec (descriptor_at (descriptors_of plain.files pid) (count_of fd)))
      → IsStep plain pid call goes_on next
  -- a descriptor is closed
  closes : (fd : ℤ) (opened : Opened) → opened_at plain.files pid fd ≡ Some opened
      → next ≡ after_close plain.files pid (count_of fd) → IsStep plain pid call goes_on next
  -- a description gets another offset or other flags, and stays open on what it was, for what it was; in a directory between
  -- two entries
  describes : (fd : ℤ) (opened : Opened) (description : Description) → opened_at plain.files pid fd ≡ Some opened
      → description.target ≡ opened.is.target → description.access ≡ opened.is.access → StaysBetween plain.files.tree opened.is description.offset
      → next ≡ described_as plain.files opened.place description → IsStep plain pid call goes_on next
  -- ---- the tree

  -- what a path leads to is opened, and is no FIFO
  opens : (path : List ℕ) (flags : ℤ) (fd : ℕ) (there : ℕ × Tree) → call ≡ calls.OpenFile path flags → lowest_free (descriptors_of plain.files pid) ≡ Some fd
      → open_path plain.files.tree (directory_of plain.table pid) path (opening_of flags) ≡ Ok there → is_fifo there.1 there.0 ≡ false
      → next ≡ opened_as (with_tree plain.files there.1) pid fd (has_flag flags o_cloexec) (description_for there.0 flags) → IsStep plain pid call goes_on next
  -- a file is written, and the offset moves
  writes : (fd addr n : ℤ) (done : ℕ) (opened : Opened) (number at offset : ℕ) (written : ℕ × Tree) → WritesNode plain pid call fd opened number
      → write plain.files.tree number at (bytes_left plain pid addr (count_of n) done) ≡ Ok written
      → next ≡ described_as (with_tree plain.files written.1) opened.place (at_offset opened.is offset) → IsStep plain pid call goes_on next
  -- a file is written at a place
  writes_at : (fd addr n : ℤ) (opened : Opened) (number at : ℕ) (written : ℕ × Tree) → WritesNode plain pid call fd opened number
      → write plain.files.tree number at (bytes_left plain pid addr (count_of n) 0) ≡ Ok written → next ≡ with_tree plain.files written.1 → IsStep plain pid call goes_on next
  -- a file gets another size
  resizes : (fd : ℤ) (opened : Opened) (number size : ℕ) (tree : Tree) → WritesNode plain pid call fd opened number
      → resize plain.files.tree number size ≡ Ok tree → next ≡ with_tree plain.files tree → IsStep plain pid call goes_on next
  -- a directory or a FIFO is made, or a directory goes
  makes : (path : List ℕ) (made : ℕ × Tree) → call ≡ calls.Mkdir path → mkdir_path plain.files.tree (directory_of plain.table pid) path ≡ Ok made
      → next ≡ with_tree plain.files made.1 → IsStep plain pid call goes_on next
  makes_fifo : (path : List ℕ) (made : ℕ × Tree) → call ≡ calls.Mkfifo path → mkfifo_path plain.files.tree (directory_of plain.table pid) path ≡ Ok made
      → next ≡ with_tree plain.files made.1 → IsStep plain pid call goes_on next
  removes : (path : List ℕ) (tree : Tree) → call ≡ calls.Rmdir path → rmdir_path plain.files.tree (directory_of plain.table pid) path (is_busy plain) ≡ Ok tree
      → next ≡ with_tree plain.files tree → IsStep plain pid call goes_on next
  -- a name is put beside another, goes, or becomes another
  links : (old new : List ℕ) (tree : Tree) → call ≡ calls.Link old new → link_path plain.files.tree (directory_of plain.table pid) old new ≡ Ok tree
      → next ≡ with_tree plain.files tree → IsStep plain pid call goes_on next
  unlinks : (path : List ℕ) (left : Option ℕ × Tree) → call ≡ calls.Unlink path
      → unlink_path plain.files.tree (directory_of plain.table pid) path (is_opened plain.files) ≡ Ok left
      → next ≡ renamed plain.files left.0 left.1 → IsStep plain pid call goes_on next
  renames : (old new : List ℕ) (left : Option ℕ × Tree) → call ≡ calls.Rename old new
      → rename_path plain.files.tree (directory_of plain.table pid) old new (is_opened plain.files) (is_busy plain) ≡ Ok left
      → next ≡ renamed plain.files left.0 left.1 → IsStep plain pid call goes_on next
  -- ---- pipes

  -- a pipe is made
  pipes : (two : Two) → two_lowest_free (descriptors_of plain.files pid) ≡ Some two → next ≡ piped plain.files pid two → IsStep plain pid call goes_on next
  -- a pipe's first bytes are taken
  takes : (fd addr n : ℤ) (opened : Opened) (place k : ℕ) → call ≡ calls.Read fd addr n → opened_at plain.files pid fd ≡ Some opened → opened.is.target ≡ OnPipe place
      → may_read opened.is.access ≡ true → pipe_read (pipe_at plain.files place) opened.is.nonblock (count_of n) ≡ Moves k
      → next ≡ with_pipe plain.files place (Some (after_read (pipe_at plain.files place) k)) → IsStep plain pid call goes_on next
  -- bytes are put behind those of a pipe
  puts : (fd addr n : ℤ) (done : ℕ) (opened : Opened) (place k : ℕ) → call ≡ calls.Write fd addr n done → opened_at plain.files pid fd ≡ Some opened
      → opened.is.target ≡ OnPipe place → may_write opened.is.access ≡ true
      → pipe_write (pipe_at plain.files place) opened.is.nonblock (count_of n) (count_of n - done) ≡ Moves k
      → next ≡ put_in_pipe plain.files place (bytes_left plain pid addr (count_of n) done) k → IsStep plain pid call goes_on next
  -- ---- FIFOs

  -- a further end of a FIFO's pipe is opened
  joins : (path : List ℕ) (flags : ℤ) (fd place : ℕ) (there : ℕ × Tree) (openings : List (Option HalfOpen)) → OpensEnd plain pid call path flags fd there
      → fifo_at plain.files there.0 ≡ Some place → MayWait plain.files pid flags fd there.0 openings
      → next ≡ with_openings (opened_as (with_pipe plain.files place (Some (with_end (pipe_at plain.files place) (may_write (access_of flags))))) pid fd (has_flag flags o_cloexec) (description_on (OnPipe place) flags)) openings
      → IsStep plain pid call goes_on next
  -- the first end is, with which the pipe is made
  begins : (path : List ℕ) (flags : ℤ) (fd : ℕ) (there : ℕ × Tree) (openings : List (Option HalfOpen)) → OpensEnd plain pid call path flags fd there
      → fifo_at plain.files there.0 ≡ None → MayWait plain.files pid flags fd there.0 openings
      → next ≡ with_openings (opened_as (with_pipes plain.files (plain.files.pipes ++ Some (with_end (unopened there.0) (may_write (access_of flags))) ∷ [])) pid fd (has_flag flags o_cloexec)
      (description_on (OnPipe (length plain.files.pipes)) flags)) openings → IsStep plain pid call goes_on next
  -- an open that waited is over
  meets : (path : List ℕ) (flags : ℤ) (opening : HalfOpen) → call ≡ calls.OpenFile path flags → opening_at plain.files pid ≡ Some opening
      → next ≡ with_opening plain.files pid None → IsStep plain pid call goes_on next
  -- ---- sockets

  -- a socket is made, or two that are connected
  sockets : (fd : ℕ) → lowest_free (descriptors_of plain.files pid) ≡ Some fd → next ≡ socketed plain.files pid fd → IsStep plain pid call goes_on next
  pairs : (two : Two) → two_lowest_free (descriptors_of plain.files pid) ≡ Some two → next ≡ paired plain.files pid two → IsStep plain pid call goes_on next
  -- a socket gets a new name of the tree
  binds : (fd : ℤ) (path : List ℕ) (opened : Opened) (place : ℕ) (made : ℕ × Tree) → call ≡ calls.Bind fd path → opened_at plain.files pid fd ≡ Some opened
      → opened.is.target ≡ OnSocket place → bind_fault (socket_at plain.files.sockets place) ≡ None
      → bind_path plain.files.tree (directory_of plain.table pid) path ≡ Ok made
      → next ≡ with_sockets (with_tree plain.files made.1) (with_name plain.files.sockets place (Some made.0)) → IsStep plain pid call goes_on next
  -- a socket listens
  listens : (fd : ℤ) (opened : Opened) (place : ℕ) → opened_at plain.files pid fd ≡ Some opened → opened.is.target ≡ OnSocket place
      → listen_fault (socket_at plain.files.sockets place) ≡ None
      → next ≡ with_sockets plain.files (after_listen plain.files.sockets place) → IsStep plain pid call goes_on next
  -- a connected socket reads or writes no more
  shuts : (fd how : ℤ) (opened : Opened) (place : ℕ) → opened_at plain.files pid fd ≡ Some opened → opened.is.target ≡ OnSocket place
      → shutdown_fault (stage_at plain.files.sockets place) ≡ None
      → next ≡ with_sockets plain.files (after_shut plain.files.sockets place how) → IsStep plain pid call goes_on next
  -- a peer of a socket is made, which waits
  connects : (fd : ℤ) (opened : Opened) (place number listener : ℕ) → opened_at plain.files pid fd ≡ Some opened → opened.is.target ≡ OnSocket place
      → connect_fault (stage_at plain.files.sockets place) ≡ None → listener_at plain.files.sockets number ≡ Some listener
      → is_refused plain.files.sockets (Some listener) ≡ false
      → next ≡ with_sockets plain.files (after_connect plain.files.sockets place listener (length plain.files.sockets)) → IsStep plain pid call goes_on next
  -- one that waits is accepted
  accepts : (fd : ℤ) (opened : Opened) (place to taken : ℕ) → opened_at plain.files pid fd ≡ Some opened → opened.is.target ≡ OnSocket place
      → lowest_free (descriptors_of plain.files pid) ≡ Some to → accept_in (stage_at plain.files.sockets place) true opened.is.nonblock ≡ Takes taken
      → next ≡ accepted plain.files pid place to taken → IsStep plain pid call goes_on next
  -- a socket's first bytes are taken
  receives : (fd addr n : ℤ) (opened : Opened) (place k : ℕ) → call ≡ calls.Read fd addr n → opened_at plain.files pid fd ≡ Some opened → opened.is.target ≡ OnSocket place
      → sock_read plain.files.sockets place opened.is.nonblock (count_of n) ≡ Moves k
      → next ≡ with_sockets plain.files (socket_after_read plain.files.sockets place k) → IsStep plain pid call goes_on next
  -- bytes are put behind those of a socket's peer
  sends : (fd addr n : ℤ) (done : ℕ) (opened : Opened) (place k : ℕ) → call ≡ calls.Write fd addr n done → opened_at plain.files pid fd ≡ Some opened
      → opened.is.target ≡ OnSocket place → sock_write plain.files.sockets place opened.is.nonblock (count_of n - done) ≡ Moves k
      → next ≡ put_in_socket plain.files place (bytes_left plain pid addr (count_of n) done) k → IsStep plain pid call goes_on next
  -- ---- record locks

  -- a process holds places of a file as it asks to, or lets them go, where nothing of another is in the way
  locks : (fd : ℤ) (opened : Opened) (number : ℕ) (asked : Request) → is_setting call ≡ true → opened_at plain.files pid fd ≡ Some opened → opened.is.target ≡ OnNode number
      → is_directory plain.files.tree number ≡ false → ArePlaces asked → is_clear plain.files.locks pid number asked ≡ true
      → next ≡ with_locks plain.files (after_set plain.files.locks pid number asked) → IsStep plain pid call goes_on next
  -- ---- processes

  -- a program starts, and its descriptors with FD_CLOEXEC are closed
  starts : next ≡ after_exec_of plain.files pid → IsStep plain pid call goes_on next
  -- a child has open what its parent has
  forks : call ≡ calls.Fork → next ≡ with_heir plain.files pid → IsStep plain pid call goes_on next
  -- its caller ends, and what it has open is closed
  ends_caller : goes_on ≡ false → may_end_caller call ≡ true → next ≡ closed_by plain.files pid → IsStep plain pid call goes_on next
  -- another process ends, and what that one has open is closed
  ends_other : (who : ℕ) → may_end_other call ≡ true → next ≡ closed_by plain.files who → IsStep plain pid call goes_on next

-- what a call leads to is one step: of a caller that goes on where it is answered, and of one that has ended where it ends
abbrev pub Steps : Plain → ℕ → Call → Answer → Type 0
Steps plain pid call Blocked = Unit {0}
Steps plain pid call (Done reply next) = IsStep plain pid call true next.files
Steps plain pid call (Part moved next) = IsStep plain pid call true next.files
Steps plain pid call (Ended status next) = IsStep plain pid call false next.files

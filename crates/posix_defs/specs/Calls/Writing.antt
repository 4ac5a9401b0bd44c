-- The calls that write: `write` and `pwrite`.
use Rattle.std.specs.Prelude.{ℕ, ◌+◌, ◌-◌, ◌==◌, ◌&&◌, ◌||◌, ℤ, pos, Bool, false, not, if◌then◌else◌, List, Option, None, Some, Result, Ok, Err}
use Rattle.kabi_types.specs.Arguments.{count_of}
use Rattle.kabi_types.specs.declared.errnos.Errno.{Errno}
use Rattle.kabi_types.specs.declared.errnos.Errno.TheVariants.{EISDIR, ENOTCONN, ESPIPE}
use Rattle.kabi_types.specs.declared.replies.Reply.TheVariants.{Val}
use Rattle.kabi_types.specs.declared.scripts.Script.{Script}
use Rattle.posix_defs.specs.Pipe.{Moving, Moves, Blocks, Fails, pipe_write, after_write}
use Rattle.posix_defs.specs.Socket.{Stage, Idle, Listening, Connected, is_connected}
use Rattle.posix_defs.specs.Sockets.{Sockets, stage_at, reads_no_more, sock_write, after_write as socket_after_write}
use Rattle.posix_defs.specs.Tree.{Tree, size_at, is_directory}
use Rattle.posix_defs.specs.TreeChanges.{write as tree_write}
use Rattle.posix_defs.specs.Control.{after_part}
use Rattle.posix_defs.specs.Memory.{is_mapped_range, loaded}
use Rattle.posix_defs.specs.Process.{ignores_of, memory_of}
use Rattle.posix_defs.specs.Plain.{Plain, control_of, with_control, with_files}
use Rattle.posix_defs.specs.Answer.{Answer, Blocked, Ended, Part, failed, replied}
use Rattle.posix_defs.specs.Ending.{die}
use Rattle.posix_defs.specs.Signals.{sigpipe}
use Rattle.posix_defs.specs.Files.Descriptions.{Target, OnNode, OnPipe, OnSocket, at_offset, may_write}
use Rattle.posix_defs.specs.Files.State.{Files, with_pipe, pipe_at, with_sockets, with_tree, described_as}
use Rattle.posix_defs.specs.Calls.Opened.{Opened, on_open, opened_at, if_writable}
use Rattle.posix_defs.specs.Calls.Reading.{of_bytes}

-- ---- files

-- with O_APPEND a write goes to the end, else to the offset
abbrev pub place_of_write : Tree → Opened → ℕ → ℕ
place_of_write tree opened number = if opened.is.append then size_at tree number else opened.is.offset

-- so many bytes were written at a place of a file, and the offset moves behind them
abbrev pub wrote : Script → Plain → ℕ → Opened → ℕ → Result (ℕ × Tree) Errno → Answer
wrote script plain pid opened at (Ok written) =
    replied script
    (with_files plain (described_as (with_tree plain.files written.1) opened.place (at_offset opened.is (at + written.0))))
    pid (Val (pos written.0))
wrote script plain pid opened at (Err errno) = failed script plain pid errno

-- as many of the bytes as there is room for
abbrev pub write_file : Script → Plain → ℕ → Opened → ℕ → List ℕ → Answer
write_file script plain pid opened number bytes =
    let at = place_of_write plain.files.tree opened number in
    wrote script plain pid opened at (tree_write plain.files.tree number at bytes)

-- ---- queues

-- a write that can't go on is answered what is done of it, or with this errno where that is nothing
abbrev pub stopped : Script → Plain → ℕ → ℕ → Errno → Answer
stopped script plain pid done errno = if done == 0 then failed script plain pid errno else replied script plain pid (Val (pos done))

-- a part of a write was done, and its caller goes on with the rest
abbrev pub did_part : Plain → ℕ → ℕ → Answer
did_part plain pid moved = Part moved (with_control plain pid (after_part (control_of plain pid) moved))

-- of n bytes, of which `done` were moved before, k more were moved: that is all, or all that one who doesn't wait gets, or a part
abbrev pub put_in_queue : Script → Plain → ℕ → Bool → ℕ → ℕ → ℕ → Answer
put_in_queue script plain pid nonblock n done k =
    if k == n - done then replied script plain pid (Val (pos n))
    else (if nonblock then replied script plain pid (Val (pos (done + k))) else did_part plain pid k)

-- what a write of a queue comes to, where `next` is what there is of files after so many bytes
abbrev pub write_queue : Script → Plain → ℕ → Bool → ℕ → ℕ → (ℕ → Files) → Moving → Answer
write_queue script plain pid nonblock n done next (Moves k) = put_in_queue script (with_files plain (next k)) pid nonblock n done k
write_queue script plain pid nonblock n done next Blocks = Blocked
write_queue script plain pid nonblock n done next (Fails errno) = stopped script plain pid done errno

-- the files after the first k of these bytes were put in a pipe, behind those that are there
abbrev pub put_in_pipe : Files → ℕ → List ℕ → ℕ → Files
put_in_pipe files place bytes k = with_pipe files place (Some (after_write (pipe_at files place) bytes k))

-- the files after the first k of these bytes were put in a socket, for its peer to read
abbrev pub put_in_socket : Files → ℕ → List ℕ → ℕ → Files
put_in_socket files place bytes k = with_sockets files (socket_after_write files.sockets place bytes k)

-- ---- the calls

-- the bytes of memory that a write has still to move
abbrev pub bytes_left : Plain → ℕ → ℤ → ℕ → ℕ → List ℕ
bytes_left plain pid addr n done = loaded (memory_of plain.table pid) (count_of addr + done) (n - done)

-- A file takes what there is room for. A pipe takes up to 512 bytes whole or not at all, and of more as many as there is room
-- for; a socket that always. ENOTCONN is answered whatever is done.
abbrev pub write_target : Script → Plain → ℕ → Opened → ℤ → ℕ → ℕ → Target → Answer
write_target script plain pid opened addr n done (OnNode number) =
    write_file script plain pid opened number (bytes_left plain pid addr n done)
write_target script plain pid opened addr n done (OnPipe place) =
    write_queue script plain pid opened.is.nonblock n done (put_in_pipe plain.files place (bytes_left plain pid addr n done))
    (pipe_write (pipe_at plain.files place) opened.is.nonblock n (n - done))
write_target script plain pid opened addr n done (OnSocket place) =
    if is_connected (stage_at plain.files.sockets place)
    then write_queue script plain pid opened.is.nonblock n done (put_in_socket plain.files place (bytes_left plain pid addr n done))
    (sock_write plain.files.sockets place opened.is.nonblock (n - done))
    else failed script plain pid ENOTCONN

-- n bytes of memory go to what a descriptor is open on, of which some were moved before: the whole of `write` to who ignores SIGPIPE
unfoldable pub write_ignoring : Script → Plain → ℕ → ℤ → ℤ → ℤ → ℕ → Answer
write_ignoring script plain pid fd addr n done =
    on_open script plain pid fd (λ opened.
    if_writable script plain pid opened
    (of_bytes script plain pid addr n (write_target script plain pid opened addr (count_of n) done opened.is.target)))

-- one that is connected was shut for writing, or its peer takes nothing more
abbrev pub is_unread_in : Sockets → Stage → Bool
is_unread_in sockets Idle = false
is_unread_in sockets (Listening waiting) = false
is_unread_in sockets (Connected peer shut_read shut_write) = shut_write || reads_no_more sockets peer

-- nobody can read what is put there: it is a pipe without a reader, or such a socket
abbrev pub is_unread : Files → Target → Bool
is_unread files (OnNode number) = false
is_unread files (OnPipe place) = (pipe_at files place).readers == 0
is_unread files (OnSocket place) = is_unread_in files.sockets (stage_at files.sockets place)

-- a write of these bytes has nothing else to be told than that nobody reads them: they are there, and what is open may be written
abbrev pub is_broken : Plain → ℕ → ℤ → ℤ → Option Opened → Bool
is_broken plain pid addr n None = false
is_broken plain pid addr n (Some opened) =
    may_write opened.is.access && is_mapped_range (memory_of plain.table pid) (count_of addr) (count_of n) && not (count_of n == 0)
    && is_unread plain.files opened.is.target

-- a write ends its caller: nobody reads it, nothing of it was moved before, and its caller doesn't ignore SIGPIPE
abbrev pub write_ends : Plain → ℕ → ℤ → ℤ → ℤ → ℕ → Bool
write_ends plain pid fd addr n done =
    not (ignores_of plain.table pid).broken_pipe && (done == 0) && is_broken plain pid addr n (opened_at plain.files pid fd)

-- A write that nobody reads, as of a pipe without a reader, is answered what was moved of it; where that is nothing EPIPE to who
-- ignores SIGPIPE, and any other it ends by that signal, the first process too (POSIX write).
unfoldable pub write : Script → Plain → ℕ → ℤ → ℤ → ℤ → ℕ → Answer
write script plain pid fd addr n done =
    if write_ends plain pid fd addr n done then Ended sigpipe (die plain pid sigpipe) else write_ignoring script plain pid fd addr n done

-- so many bytes were written at a place, and the offset stays
abbrev pub wrote_at : Script → Plain → ℕ → Result (ℕ × Tree) Errno → Answer
wrote_at script plain pid (Ok written) = replied script (with_files plain (with_tree plain.files written.1)) pid (Val (pos written.0))
wrote_at script plain pid (Err errno) = failed script plain pid errno

-- a file has places; a pipe and a socket don't, and a directory isn't written
abbrev pub pwrite_target : Script → Plain → ℕ → ℤ → ℤ → ℕ → Target → Answer
pwrite_target script plain pid addr n at (OnNode number) =
    if is_directory plain.files.tree number then failed script plain pid EISDIR
    else of_bytes script plain pid addr n
    (wrote_at script plain pid (tree_write plain.files.tree number at (bytes_left plain pid addr (count_of n) 0)))
pwrite_target script plain pid addr n at (OnPipe place) = failed script plain pid ESPIPE
pwrite_target script plain pid addr n at (OnSocket place) = failed script plain pid ESPIPE

-- bytes go to a place of a file, whatever O_APPEND says, and the offset stays (POSIX pwrite)
unfoldable pub pwrite : Script → Plain → ℕ → ℤ → ℤ → ℤ → ℤ → Answer
pwrite script plain pid fd addr n at =
    on_open script plain pid fd (λ opened.
    if_writable script plain pid opened (pwrite_target script plain pid addr n (count_of at) opened.is.target))

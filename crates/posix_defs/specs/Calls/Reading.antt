-- The calls that read: `read`, `pread` and `readdir`.
use Rattle.std.specs.Prelude.{ℕ, ◌+◌, ◌==◌, ℤ, pos, Bool, false, if◌then◌else◌, List, length, take, Some}
use Rattle.kabi_types.specs.Arguments.{count_of}
use Rattle.kabi_types.specs.declared.errnos.Errno.TheVariants.{EISDIR, ENOTDIR, ESPIPE}
use Rattle.kabi_types.specs.declared.replies.Reply.TheVariants.{Val}
use Rattle.kabi_types.specs.declared.scripts.Script.{Script}
use Rattle.posix_defs.specs.Pipe.{Moving, Moves, Blocks, Fails, pipe_read, after_read}
use Rattle.posix_defs.specs.Sockets.{socket_at, sock_read, after_read as socket_after_read}
use Rattle.posix_defs.specs.Tree.{Tree, is_directory}
use Rattle.posix_defs.specs.PathCalls.{read_node, list_node}
use Rattle.posix_defs.specs.Memory.{stored}
use Rattle.posix_defs.specs.Process.{memory_of}
use Rattle.posix_defs.specs.Plain.{Plain, with_files}
use Rattle.posix_defs.specs.Answer.{Answer, Blocked, failed, replied}
use Rattle.posix_defs.specs.MemoryCalls.{in_range, remembered}
use Rattle.posix_defs.specs.Files.Descriptions.{Target, OnNode, OnPipe, OnSocket}
use Rattle.posix_defs.specs.Files.State.{with_pipe, pipe_at, with_sockets}
use Rattle.posix_defs.specs.Calls.Opened.{Opened, on_open, if_readable, moved_to}

-- bytes were read: they are put in the caller's memory, and their number is told
abbrev pub put : Script → Plain → ℕ → ℤ → List ℕ → Answer
put script plain pid addr bytes =
    replied script (remembered plain pid (stored (memory_of plain.table pid) (count_of addr) bytes)) pid (Val (pos (length bytes)))

-- the target is a directory of this tree
abbrev pub is_directory_target : Tree → Target → Bool
is_directory_target tree (OnNode number) = is_directory tree number
is_directory_target tree (OnPipe place) = false
is_directory_target tree (OnSocket place) = false

-- an answer for what isn't a directory; EISDIR for one
abbrev pub unless_directory : Script → Plain → ℕ → Opened → Answer → Answer
unless_directory script plain pid opened answer =
    if is_directory_target plain.files.tree opened.is.target then failed script plain pid EISDIR else answer

-- an answer that moves bytes of memory: EFAULT where a page of theirs isn't mapped, and 0 for no bytes
abbrev pub of_bytes : Script → Plain → ℕ → ℤ → ℤ → Answer → Answer
of_bytes script plain pid addr n answer =
    in_range script plain pid addr (count_of n) (if count_of n == 0 then replied script plain pid (Val (pos 0)) else answer)

-- a file from the offset on, at most to its end; the offset moves behind what was read
abbrev pub read_file : Script → Plain → ℕ → Opened → ℕ → ℤ → ℕ → Answer
read_file script plain pid opened number addr n =
    let bytes = read_node plain.files.tree number opened.is.offset n in
    put script (moved_to plain opened (opened.is.offset + length bytes)) pid addr bytes

-- a pipe's first bytes, which are there no more then
abbrev pub read_from_pipe : Script → Plain → ℕ → ℕ → ℤ → Moving → Answer
read_from_pipe script plain pid place addr (Moves k) =
    let pipe = pipe_at plain.files place in
    put script (with_files plain (with_pipe plain.files place (Some (after_read pipe k)))) pid addr (take k pipe.bytes)
read_from_pipe script plain pid place addr Blocks = Blocked
read_from_pipe script plain pid place addr (Fails errno) = failed script plain pid errno

-- a socket's first bytes, which are there no more then
abbrev pub read_from_socket : Script → Plain → ℕ → ℕ → ℤ → Moving → Answer
read_from_socket script plain pid place addr (Moves k) =
    let socket = socket_at plain.files.sockets place in
    put script (with_files plain (with_sockets plain.files (socket_after_read plain.files.sockets place k))) pid addr (take k socket.bytes)
read_from_socket script plain pid place addr Blocks = Blocked
read_from_socket script plain pid place addr (Fails errno) = failed script plain pid errno

-- at most n bytes: of a file from the offset on, of a pipe or a socket those that came first
abbrev pub read_target : Script → Plain → ℕ → Opened → ℤ → ℕ → Target → Answer
read_target script plain pid opened addr n (OnNode number) = read_file script plain pid opened number addr n
read_target script plain pid opened addr n (OnPipe place) =
    read_from_pipe script plain pid place addr (pipe_read (pipe_at plain.files place) opened.is.nonblock n)
read_target script plain pid opened addr n (OnSocket place) =
    read_from_socket script plain pid place addr (sock_read plain.files.sockets place opened.is.nonblock n)

-- at most n bytes of what a descriptor is open on: those that are there (POSIX read)
unfoldable pub read : Script → Plain → ℕ → ℤ → ℤ → ℤ → Answer
read script plain pid fd addr n =
    on_open script plain pid fd (λ opened.
    if_readable script plain pid opened
    (unless_directory script plain pid opened
    (of_bytes script plain pid addr n (read_target script plain pid opened addr (count_of n) opened.is.target))))

-- a file has places; a pipe and a socket don't, and a directory isn't read
abbrev pub pread_target : Script → Plain → ℕ → ℤ → ℤ → ℕ → Target → Answer
pread_target script plain pid addr n at (OnNode number) =
    if is_directory plain.files.tree number then failed script plain pid EISDIR
    else of_bytes script plain pid addr n (put script plain pid addr (read_node plain.files.tree number at (count_of n)))
pread_target script plain pid addr n at (OnPipe place) = failed script plain pid ESPIPE
pread_target script plain pid addr n at (OnSocket place) = failed script plain pid ESPIPE

-- the bytes of a file from a place on, and the offset stays (POSIX pread)
unfoldable pub pread : Script → Plain → ℕ → ℤ → ℤ → ℤ → ℤ → Answer
pread script plain pid fd addr n at =
    on_open script plain pid fd (λ opened.
    if_readable script plain pid opened (pread_target script plain pid addr n (count_of at) opened.is.target))

-- whole entries from the offset on, as many as n bytes and the end allow
abbrev pub list_directory : Script → Plain → ℕ → Opened → ℕ → ℤ → ℕ → Answer
list_directory script plain pid opened number addr n =
    let bytes = list_node plain.files.tree number opened.is.offset n in
    put script (moved_to plain opened (opened.is.offset + length bytes)) pid addr bytes

-- ENOTDIR for what is no directory, then EFAULT where a page of the n bytes isn't mapped, then whole entries from the offset on
abbrev pub list_target : Script → Plain → ℕ → Opened → ℤ → ℤ → Target → Answer
list_target script plain pid opened addr n (OnNode number) =
    if is_directory plain.files.tree number then in_range script plain pid addr (count_of n) (list_directory script plain pid opened number addr (count_of n))
    else failed script plain pid ENOTDIR
list_target script plain pid opened addr n (OnPipe place) = failed script plain pid ENOTDIR
list_target script plain pid opened addr n (OnSocket place) = failed script plain pid ENOTDIR

-- entries of a directory, 32 bytes each, in the order in which they stand; their bytes' number, 0 at the end
unfoldable pub readdir : Script → Plain → ℕ → ℤ → ℤ → ℤ → Answer
readdir script plain pid fd addr n =
    on_open script plain pid fd (λ opened. list_target script plain pid opened addr n opened.is.target)

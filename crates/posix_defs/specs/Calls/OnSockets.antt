-- The calls on sockets: `socket`, `socketpair`, `bind`, `listen`, `connect`, `accept` and `shutdown`.
use Rattle.std.specs.Prelude.{ℕ, ◌+◌, ℤ, pos, false, if◌then◌else◌, List, length, Option, None, Some, is_some, Result, Ok, Err}
use Rattle.kabi_types.specs.declared.errnos.Errno.{Errno}
use Rattle.kabi_types.specs.declared.errnos.Errno.TheVariants.{ECONNREFUSED, EMFILE, ENOTSOCK}
use Rattle.kabi_types.specs.declared.replies.Reply.TheVariants.{Val, Pair}
use Rattle.kabi_types.specs.declared.scripts.Script.{Script}
use Rattle.posix_defs.specs.Socket.{Accepting, Takes, Waits, Refuses, accept as accept_in, bind_fault, connect_fault, listen_fault, shutdown_fault}
use Rattle.posix_defs.specs.Sockets.{Sockets, socket_at, stage_at, with_name, with_new, with_pair, after_accept, after_connect, after_listen, after_shut, is_refused}
use Rattle.posix_defs.specs.Tree.{Tree}
use Rattle.posix_defs.specs.PathCalls.{bind_path, find_socket}
use Rattle.posix_defs.specs.Process.{directory_of}
use Rattle.posix_defs.specs.Plain.{Plain, with_files}
use Rattle.posix_defs.specs.Answer.{Answer, Blocked, failed, replied}
use Rattle.posix_defs.specs.Files.Descriptors.{Two, lowest_free, two_lowest_free}
use Rattle.posix_defs.specs.Files.Descriptions.{Target, OnNode, OnPipe, OnSocket, ReadWrite, Description, new_description}
use Rattle.posix_defs.specs.Files.State.{Files, descriptors_of, opened_as, with_sockets, with_tree}
use Rattle.posix_defs.specs.Files.SocketNames.{listener_at}
use Rattle.posix_defs.specs.Calls.Opened.{Opened, on_open}

-- a new description of a socket
abbrev pub description_of : ℕ → Description
description_of place = new_description (OnSocket place) ReadWrite

-- ---- socket, socketpair

-- a new socket under this descriptor, without flags
abbrev pub socketed : Files → ℕ → ℕ → Files
socketed files pid fd =
    opened_as (with_sockets files (with_new files.sockets (length files.sockets))) pid fd false (description_of (length files.sockets))

-- the free descriptor, by which a new socket is named; EMFILE where none is free
abbrev pub socketed_under : Script → Plain → ℕ → Option ℕ → Answer
socketed_under script plain pid None = failed script plain pid EMFILE
socketed_under script plain pid (Some fd) = replied script (with_files plain (socketed plain.files pid fd)) pid (Val (pos fd))

-- the lowest descriptor that is free names a new socket (POSIX socket)
unfoldable pub socket : Script → Plain → ℕ → Answer
socket script plain pid = socketed_under script plain pid (lowest_free (descriptors_of plain.files pid))

-- two new sockets, each the other's peer
abbrev pub paired : Files → ℕ → Two → Files
paired files pid two =
    opened_as
    (opened_as (with_sockets files (with_pair files.sockets (length files.sockets) (length files.sockets + 1))) pid two.first false
    (description_of (length files.sockets)))
    pid two.second false (description_of (length files.sockets + 1))

-- both descriptors of two new sockets, the lower one first; EMFILE where two aren't free
abbrev pub paired_under : Script → Plain → ℕ → Option Two → Answer
paired_under script plain pid None = failed script plain pid EMFILE
paired_under script plain pid (Some two) = replied script (with_files plain (paired plain.files pid two)) pid (Pair two.first two.second)

-- the two lowest descriptors that are free name two connected sockets; EMFILE where fewer are (POSIX socketpair)
unfoldable pub socketpair : Script → Plain → ℕ → Answer
socketpair script plain pid = paired_under script plain pid (two_lowest_free (descriptors_of plain.files pid))

-- ---- what is a socket

-- an answer that goes by the place of a socket; ENOTSOCK for anything else
abbrev pub socket_target : Script → Plain → ℕ → (ℕ → Answer) → Target → Answer
socket_target script plain pid answer (OnNode number) = failed script plain pid ENOTSOCK
socket_target script plain pid answer (OnPipe place) = failed script plain pid ENOTSOCK
socket_target script plain pid answer (OnSocket place) = answer place

-- an answer that goes by a socket and by the description that names it; ENOTSOCK where a descriptor is open on something else
abbrev pub on_socket : Script → Plain → ℕ → ℤ → (Opened → ℕ → Answer) → Answer
on_socket script plain pid fd answer =
    on_open script plain pid fd (λ opened. socket_target script plain pid (answer opened) opened.is.target)

-- an answer where there is no fault
abbrev pub unless_fault : Script → Plain → ℕ → Option Errno → Answer → Answer
unless_fault script plain pid None answer = answer
unless_fault script plain pid (Some errno) answer = failed script plain pid errno

-- other sockets, and 0 is told
abbrev pub resocketed : Script → Plain → ℕ → Sockets → Answer
resocketed script plain pid sockets = replied script (with_files plain (with_sockets plain.files sockets)) pid (Val (pos 0))

-- ---- bind, listen, shutdown

-- the socket is bound to its new name, and 0 is told; or the fault of the path
abbrev pub bound_to : Script → Plain → ℕ → ℕ → Result (ℕ × Tree) Errno → Answer
bound_to script plain pid place (Ok made) =
    replied script (with_files plain (with_sockets (with_tree plain.files made.1) (with_name plain.files.sockets place (Some made.0)))) pid (Val (pos 0))
bound_to script plain pid place (Err errno) = failed script plain pid errno

-- EINVAL of a socket that is bound, then EISCONN of one that is connected, and only then the faults of the path
abbrev pub bind_at : Script → Plain → ℕ → List ℕ → ℕ → Answer
bind_at script plain pid path place =
    unless_fault script plain pid (bind_fault (socket_at plain.files.sockets place))
    (bound_to script plain pid place (bind_path plain.files.tree (directory_of plain.table pid) path))

-- a socket gets a new name in the tree (POSIX bind)
unfoldable pub bind : Script → Plain → ℕ → ℤ → List ℕ → Answer
bind script plain pid fd path = on_socket script plain pid fd (λ opened. bind_at script plain pid path)

-- EINVAL of a socket that is connected, then EDESTADDRREQ of one that isn't bound; else it listens, and 0 is told
abbrev pub listen_at : Script → Plain → ℕ → ℕ → Answer
listen_at script plain pid place =
    unless_fault script plain pid (listen_fault (socket_at plain.files.sockets place))
    (resocketed script plain pid (after_listen plain.files.sockets place))

-- a socket listens from now on; one that listens goes on (POSIX listen)
unfoldable pub listen : Script → Plain → ℕ → ℤ → Answer
listen script plain pid fd = on_socket script plain pid fd (λ opened. listen_at script plain pid)

-- ENOTCONN of a socket that isn't connected; else it is shut, and 0 is told
abbrev pub shutdown_at : Script → Plain → ℕ → ℤ → ℕ → Answer
shutdown_at script plain pid how place =
    unless_fault script plain pid (shutdown_fault (stage_at plain.files.sockets place))
    (resocketed script plain pid (after_shut plain.files.sockets place how))

-- a connected socket reads no more, writes no more, or both (POSIX shutdown)
unfoldable pub shutdown : Script → Plain → ℕ → ℤ → ℤ → Answer
shutdown script plain pid fd how = on_socket script plain pid fd (λ opened. shutdown_at script plain pid how)

-- ---- connect, accept

-- the socket that listens under what a path leads to, if that is a socket's name
abbrev pub listener_under : Sockets → Option ℕ → Option ℕ
listener_under sockets None = None
listener_under sockets (Some number) = listener_at sockets number

-- nobody listens there, or as many wait as may
abbrev pub connected_under : Script → Plain → ℕ → ℕ → Option ℕ → Answer
connected_under script plain pid place None = failed script plain pid ECONNREFUSED
connected_under script plain pid place (Some listener) =
    if is_refused plain.files.sockets (Some listener) then failed script plain pid ECONNREFUSED
    else resocketed script plain pid (after_connect plain.files.sockets place listener (length plain.files.sockets))

-- the fault of the path, ENOENT for a free name; then ECONNREFUSED, also where the path leads to no socket's name
abbrev pub connected_by : Script → Plain → ℕ → ℕ → Result (Option ℕ) Errno → Answer
connected_by script plain pid place (Ok number) = connected_under script plain pid place (listener_under plain.files.sockets number)
connected_by script plain pid place (Err errno) = failed script plain pid errno

-- EISCONN of a socket that is connected, EOPNOTSUPP of one that listens, and only then the faults of the path
abbrev pub connect_at : Script → Plain → ℕ → List ℕ → ℕ → Answer
connect_at script plain pid path place =
    unless_fault script plain pid (connect_fault (stage_at plain.files.sockets place))
    (connected_by script plain pid place (find_socket plain.files.tree (directory_of plain.table pid) path))

-- a peer is made, which waits for whoever listens under the path (POSIX connect)
unfoldable pub connect : Script → Plain → ℕ → ℤ → List ℕ → Answer
connect script plain pid fd path = on_socket script plain pid fd (λ opened. connect_at script plain pid path)

-- a description of the socket that waited first, under this descriptor
abbrev pub accepted : Files → ℕ → ℕ → ℕ → ℕ → Files
accepted files pid listener fd taken =
    opened_as (with_sockets files (after_accept files.sockets listener)) pid fd false (description_of taken)

-- the free descriptor, by which the socket that waited first is named; it blocks where none waits; or the fault
abbrev pub accepted_under : Script → Plain → ℕ → ℕ → Option ℕ → Accepting → Answer
accepted_under script plain pid listener (Some fd) (Takes taken) =
    replied script (with_files plain (accepted plain.files pid listener fd taken)) pid (Val (pos fd))
accepted_under script plain pid listener None (Takes taken) = failed script plain pid EMFILE
accepted_under script plain pid listener fd Waits = Blocked
accepted_under script plain pid listener fd (Refuses errno) = failed script plain pid errno

-- EINVAL of a socket that doesn't listen, then EMFILE; then the first that waits; where none does, EAGAIN with O_NONBLOCK, else
-- it blocks
abbrev pub accept_at : Script → Plain → ℕ → Option ℕ → Opened → ℕ → Answer
accept_at script plain pid fd opened listener =
    accepted_under script plain pid listener fd (accept_in (stage_at plain.files.sockets listener) (is_some fd) opened.is.nonblock)

-- the first that waits for a listening socket gets the lowest descriptor that is free (POSIX accept)
unfoldable pub accept : Script → Plain → ℕ → ℤ → Answer
accept script plain pid fd = on_socket script plain pid fd (accept_at script plain pid (lowest_free (descriptors_of plain.files pid)))

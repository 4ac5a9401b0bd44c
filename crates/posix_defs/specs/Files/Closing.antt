-- Closing, one descriptor at a time.
use Rattle.std.specs.Prelude.{ℕ, ◌∷◌, [], if◌then◌else◌, List, length, Option, None, Some}
use Rattle.std.specs.List.{filter, range_with_len}
use Rattle.kabi_types.specs.Arguments.{most_descriptors}
use Rattle.posix_defs.specs.Locks.{Locks}
use Rattle.posix_defs.specs.Pipe.{after_close as pipe_after_close}
use Rattle.posix_defs.specs.Sockets.{after_close as sockets_after_close}
use Rattle.posix_defs.specs.TreeChanges.{closed}
use Rattle.posix_defs.specs.Files.Descriptors.{Descriptor, descriptor_at, is_named, is_cloexec}
use Rattle.posix_defs.specs.Files.Descriptions.{Target, OnNode, OnPipe, OnSocket, Access, Description, description_at, with_description, may_write}
use Rattle.posix_defs.specs.Files.State.{Files, with_descriptions, with_tree, with_sockets, with_open, descriptors_of, let_go, node_of, opened_file, opens, pipe_at, with_locks, with_opening, with_pipe}

-- no description opens a node any more: a file without links goes, and so does a FIFO
abbrev pub left_node : Files → ℕ → Files
left_node files number = if opens files number then files else with_tree files (closed files.tree number)

-- where an end of a pipe was closed: if it was a FIFO's, that node is left
abbrev pub left_fifo : Files → Option ℕ → Files
left_fifo files None = files
left_fifo files (Some number) = left_node files number

-- what a description was open on is closed: a node, an end of a pipe with the FIFO that it may be of, a socket with those that wait
-- for it
abbrev pub target_closed : Files → Access → Target → Files
target_closed files access (OnNode number) = left_node files number
target_closed files access (OnPipe place) =
    left_fifo (with_pipe files place (pipe_after_close (pipe_at files place) (may_write access))) (node_of files (OnPipe place))
target_closed files access (OnSocket place) = with_sockets files (sockets_after_close files.sockets place)

-- the description of this place goes, if it is there, and then what it was open on is closed
abbrev pub gone_in : Files → ℕ → Option Description → Files
gone_in files place None = files
gone_in files place (Some description) =
    target_closed (with_descriptions files (with_description files.descriptions place None)) description.access description.target

-- a description that no descriptor names any more goes, and what it was open on is closed
abbrev pub description_gone : Files → ℕ → Files
description_gone files place = gone_in files place (description_at files.descriptions place)

-- a descriptor has gone, and with the last that names it its description
abbrev pub released : Files → ℕ → Files
released files place = if is_named files.descriptors place then files else description_gone files place

-- a process has no lock any more of the file that a description opens, if it opens one
abbrev pub unlocked_by : Files → ℕ → Option Description → Locks
unlocked_by files pid description = let_go files.locks pid (opened_file description)

-- This descriptor goes, and with the last that names it its description; nothing changes where it isn't open. The process's locks of
-- what it was open on go with it, whatever else has that open (POSIX fcntl, on closing).
abbrev pub close_in : Files → ℕ → ℕ → Option Descriptor → Files
close_in files pid fd None = files
close_in files pid fd (Some descriptor) =
    with_locks (released (with_open files pid fd None) descriptor.description)
    (unlocked_by files pid (description_at files.descriptions descriptor.description))

-- after a process has closed a descriptor; one that isn't open changes nothing
abbrev pub after_close : Files → ℕ → ℕ → Files
after_close files pid fd = close_in files pid fd (descriptor_at (descriptors_of files pid) fd)

-- after it has closed these, one after another
abbrev pub after_closes : Files → ℕ → List ℕ → Files
after_closes files pid [] = files
after_closes files pid (fd ∷ fds) = after_closes (after_close files pid fd) pid fds

-- the numbers of descriptors, rising
abbrev pub all_numbers : List ℕ
all_numbers = range_with_len 0 most_descriptors

-- after a process has closed all that it has open, by rising number, and sleeps in no open any more
unfoldable pub after_end_of : Files → ℕ → Files
after_end_of files pid = with_opening (after_closes files pid all_numbers) pid None

-- after these processes have, one after another
abbrev pub after_ends_of : Files → List ℕ → Files
after_ends_of files [] = files
after_ends_of files (pid ∷ pids) = after_ends_of (after_end_of files pid) pids

-- after all processes have, by rising pid
abbrev pub after_all_end : Files → Files
after_all_end files = after_ends_of files (range_with_len 1 (length files.descriptors))

-- after an `exec` has closed those with FD_CLOEXEC, by rising number
unfoldable pub after_exec_of : Files → ℕ → Files
after_exec_of files pid = after_closes files pid (filter (is_cloexec (descriptors_of files pid)) all_numbers)

-- The calls that make a description of a file or a FIFO, and that ask for or change its offset, its size and what it is: `open`,
-- `lseek`, `ftruncate` and `fstat`.
use Rattle.std.specs.Prelude.{ℕ, zero, suc, ◌%◌, ◌==◌, ◌&&◌, not, nat_le, nat_lt, ℤ, pos, negsuc, ◌+ℤ◌, Bool, if◌then◌else◌, List, [], ◌∷◌, ◌++◌, length, Option, None, Some, Result, Ok, Err}
use Rattle.std.specs.List.{position_from}
use Rattle.kabi_types.specs.Arguments.{count_of}
use Rattle.kabi_types.specs.declared.errnos.Errno.{Errno}
use Rattle.kabi_types.specs.declared.errnos.Errno.TheVariants.{EAGAIN, EINVAL, EMFILE, ENXIO, EOVERFLOW, ESPIPE}
use Rattle.kabi_types.specs.declared.replies.NodeKind.{NodeKind}
use Rattle.kabi_types.specs.declared.replies.NodeKind.TheVariants as kinds
use Rattle.kabi_types.specs.declared.replies.Reply.TheVariants.{Val, Stat}
use Rattle.kabi_types.specs.declared.replies.StatInfo.{StatInfo}
use Rattle.kabi_types.specs.declared.scripts.Script.{Script}
use Rattle.posix_defs.specs.Pipe.{Pipe, ends_of, is_of_fifo, opens_of, unopened, with_end}
use Rattle.posix_defs.specs.Tree.{Tree, is_directory, size_at}
use Rattle.posix_defs.specs.TreeChanges.{resize}
use Rattle.posix_defs.specs.PathCalls.{Opening, is_fifo, open_path, stat_info}
use Rattle.posix_defs.specs.Process.{directory_of}
use Rattle.posix_defs.specs.Plain.{Plain, with_files}
use Rattle.posix_defs.specs.Answer.{Answer, Blocked, failed, replied}
use Rattle.posix_defs.specs.Files.Descriptors.{lowest_free}
use Rattle.posix_defs.specs.Files.Descriptions.{Target, OnNode, OnPipe, OnSocket, Access, Description, access_of, has_flag, may_read, may_write, o_append, o_cloexec, o_creat, o_excl, o_nonblock, o_trunc}
use Rattle.posix_defs.specs.Files.State.{Files, HalfOpen, descriptors_of, node_of, opened_as, opening_at, pipe_at, with_opening, with_pipe, with_pipes, with_tree}
use Rattle.posix_defs.specs.Calls.Opened.{Opened, on_open, opened_at, if_writable, moved_to}
use Rattle.posix_defs.specs.Calls.Writing.{did_part}

-- ---- open

-- what the flags ask of the tree
abbrev pub opening_of : ℤ → Opening
opening_of flags = record {
  writes = may_write (access_of flags);
  creates = has_flag flags o_creat;
  excludes = has_flag flags o_excl;
  truncates = has_flag flags o_trunc;
}

-- a new description of a target, at its beginning, as the flags ask
abbrev pub description_on : Target → ℤ → Description
description_on target flags = record {
  target = target;
  offset = 0;
  access = access_of flags;
  append = has_flag flags o_append;
  nonblock = has_flag flags o_nonblock;
}

-- a new description of a node
abbrev pub description_for : ℕ → ℤ → Description
description_for number flags = description_on (OnNode number) flags

-- ---- open of a FIFO

-- the place of the pipe of a FIFO; None where no description opens it
abbrev pub fifo_at : Files → ℕ → Option ℕ
fifo_at files number = position_from (is_of_fifo number) 0 files.pipes

-- the pipe of a FIFO, by its place; without one nobody has it open
abbrev pub fifo_there : Files → ℕ → Option ℕ → Pipe
fifo_there files number None = unopened number
fifo_there files number (Some place) = pipe_at files place

-- the pipe of a FIFO
abbrev pub fifo_pipe : Files → ℕ → Pipe
fifo_pipe files number = fifo_there files number (fifo_at files number)

-- the place that the pipe of a FIFO has or gets
abbrev pub fifo_place : Files → Option ℕ → ℕ
fifo_place files None = length files.pipes
fifo_place files (Some place) = place

-- the pipe of a FIFO becomes another, at its place or behind all others
abbrev pub with_fifo : Files → Option ℕ → Pipe → Files
with_fifo files None pipe = with_pipes files (files.pipes ++ Some pipe ∷ [])
with_fifo files (Some place) pipe = with_pipe files place (Some pipe)

-- how often one side of a FIFO may be opened while it has a pipe
abbrev pub most_opens : ℕ
most_opens = 4294967295

-- the access is for both
abbrev pub is_for_both : Access → Bool
is_for_both access = may_read access && may_write access

-- Why a FIFO with this pipe isn't opened: EINVAL to read and write; ENXIO to write without waiting where nobody has it open to read;
-- EAGAIN where that side was opened as often as may be.
abbrev pub fifo_fault : Pipe → ℤ → Option Errno
fifo_fault pipe flags =
    if is_for_both (access_of flags) then Some EINVAL
    else (if may_write (access_of flags) && has_flag flags o_nonblock && (pipe.readers == 0) then Some ENXIO
    else (if nat_le most_opens (opens_of pipe (may_write (access_of flags))) then Some EAGAIN else None))

-- an open waits where the other side has no end, but with O_NONBLOCK
abbrev pub fifo_waits : Pipe → ℤ → Bool
fifo_waits pipe flags = not (has_flag flags o_nonblock) && (ends_of pipe (not (may_write (access_of flags))) == 0)

-- the descriptor names a new end of a FIFO
abbrev pub end_opened : Files → ℕ → ℤ → ℕ → ℕ → Files
end_opened files pid flags fd number =
    let at = fifo_at files number in
    opened_as (with_fifo files at (with_end (fifo_there files number at) (may_write (access_of flags)))) pid fd (has_flag flags o_cloexec)
    (description_on (OnPipe (fifo_place files at)) flags)

-- the descriptor names a new end, and the open waits until the other side is opened once more
abbrev pub end_awaits : Files → ℕ → ℤ → ℕ → ℕ → Files
end_awaits files pid flags fd number =
    with_opening (end_opened files pid flags fd number) pid
    (Some (record { fd = fd; seen = opens_of (fifo_pipe files number) (not (may_write (access_of flags))) }))

-- an open of a FIFO by the descriptor that is free: a fault; or the end is there, and the descriptor is told, or the other side is
-- waited for
abbrev pub open_end : Script → Plain → ℕ → ℤ → ℕ → ℕ → Option Errno → Answer
open_end script plain pid flags fd number (Some errno) = failed script plain pid errno
open_end script plain pid flags fd number None =
    if fifo_waits (fifo_pipe plain.files number) flags then did_part (with_files plain (end_awaits plain.files pid flags fd number)) pid 1
    else replied script (with_files plain (end_opened plain.files pid flags fd number)) pid (Val (pos fd))

-- the same, where the FIFO is there
abbrev pub open_fifo : Script → Plain → ℕ → ℤ → ℕ → ℕ → Answer
open_fifo script plain pid flags fd number =
    open_end script plain pid flags fd number (fifo_fault (fifo_pipe plain.files number) flags)

-- how often the other side was opened of the FIFO that a description has an end of
abbrev pub others_opens : Files → Description → Target → ℕ
others_opens files description (OnNode number) = 0
others_opens files description (OnPipe place) = opens_of (pipe_at files place) (not (may_write description.access))
others_opens files description (OnSocket place) = 0

-- the same of what a process has open; 0 where nothing is
abbrev pub others_opened : Files → Option Opened → ℕ
others_opened files None = 0
others_opened files (Some opened) = others_opens files opened.is opened.is.target

-- the other side was opened since, whoever is there now
abbrev pub is_met : Files → ℕ → HalfOpen → Bool
is_met files pid opening = nat_lt opening.seen (others_opened files (opened_at files pid (pos opening.fd)))

-- an open that waits for the other side: once that was opened the descriptor is told
abbrev pub open_again : Script → Plain → ℕ → HalfOpen → Answer
open_again script plain pid opening =
    if is_met plain.files pid opening
    then replied script (with_files plain (with_opening plain.files pid None)) pid (Val (pos opening.fd))
    else Blocked

-- ---- open of all else

-- the descriptor names a new description of the node that is open now, and is told
abbrev pub open_node : Script → Plain → ℕ → ℤ → ℕ → ℕ → Tree → Answer
open_node script plain pid flags fd number tree =
    replied script
    (with_files plain (opened_as (with_tree plain.files tree) pid fd (has_flag flags o_cloexec) (description_for number flags)))
    pid (Val (pos fd))

-- the node that is open now, which may be a FIFO; or the fault of the path
abbrev pub opened_node_as : Script → Plain → ℕ → ℤ → ℕ → Result (ℕ × Tree) Errno → Answer
opened_node_as script plain pid flags fd (Ok there) =
    if is_fifo there.1 there.0 then open_fifo script plain pid flags fd there.0
    else open_node script plain pid flags fd there.0 there.1
opened_node_as script plain pid flags fd (Err errno) = failed script plain pid errno

-- an open by the descriptor that is free; EMFILE where none is, before the path is walked
abbrev pub open_at : Script → Plain → ℕ → List ℕ → ℤ → Option ℕ → Answer
open_at script plain pid path flags None = failed script plain pid EMFILE
open_at script plain pid path flags (Some fd) =
    opened_node_as script plain pid flags fd (open_path plain.files.tree (directory_of plain.table pid) path (opening_of flags))

-- an open that begins, or one that has made its end of a FIFO already
abbrev pub open_by : Script → Plain → ℕ → List ℕ → ℤ → Option HalfOpen → Answer
open_by script plain pid path flags None = open_at script plain pid path flags (lowest_free (descriptors_of plain.files pid))
open_by script plain pid path flags (Some opening) = open_again script plain pid opening

-- the lowest descriptor that is free names a new description of what the path leads to, which O_CREAT may make; EMFILE where
-- none is free, before the path is walked (POSIX open)
unfoldable pub open_file : Script → Plain → ℕ → List ℕ → ℤ → Answer
open_file script plain pid path flags = open_by script plain pid path flags (opening_at plain.files pid)

-- ---- lseek

-- the greatest offset
abbrev pub greatest_offset : ℕ
greatest_offset = 9223372036854775807

-- the place from which an offset counts: SEEK_SET 0 the beginning, SEEK_CUR 1 the offset, SEEK_END 2 the end
abbrev pub origin : Tree → Opened → ℕ → ℕ → ℕ
origin tree opened number zero = 0
origin tree opened number (suc zero) = opened.is.offset
origin tree opened number (suc (suc _)) = size_at tree number

-- a directory's offset stands between two entries of 32 bytes
abbrev pub is_between_entries : Tree → ℕ → ℕ → Bool
is_between_entries tree number offset = is_directory tree number && not (offset % 32 == 0)

-- EINVAL below 0, EOVERFLOW above the greatest offset, then EINVAL in a directory for what is no multiple of 32; else the
-- offset is set and told
abbrev pub seek_to : Script → Plain → ℕ → Opened → ℕ → ℤ → Answer
seek_to script plain pid opened number (negsuc _) = failed script plain pid EINVAL
seek_to script plain pid opened number (pos offset) =
    if nat_lt greatest_offset offset then failed script plain pid EOVERFLOW
    else (if is_between_entries plain.files.tree number offset then failed script plain pid EINVAL
    else replied script (moved_to plain opened offset) pid (Val (pos offset)))

-- the offset of a file or a directory, counted from its origin; ESPIPE of a pipe and a socket
abbrev pub seek_target : Script → Plain → ℕ → Opened → ℤ → ℕ → Target → Answer
seek_target script plain pid opened offset whence (OnNode number) =
    seek_to script plain pid opened number (pos (origin plain.files.tree opened number whence) +ℤ offset)
seek_target script plain pid opened offset whence (OnPipe place) = failed script plain pid ESPIPE
seek_target script plain pid opened offset whence (OnSocket place) = failed script plain pid ESPIPE

-- the description's offset becomes another, which is told (POSIX lseek)
unfoldable pub lseek : Script → Plain → ℕ → ℤ → ℤ → ℤ → Answer
lseek script plain pid fd offset whence =
    on_open script plain pid fd (λ opened. seek_target script plain pid opened offset (count_of whence) opened.is.target)

-- ---- ftruncate

-- the file has its new size, and 0 is told; or the fault of that size
abbrev pub resized_to : Script → Plain → ℕ → Result Tree Errno → Answer
resized_to script plain pid (Ok tree) = replied script (with_files plain (with_tree plain.files tree)) pid (Val (pos 0))
resized_to script plain pid (Err errno) = failed script plain pid errno

-- EINVAL for all but a file, then EBADF where it isn't open for writing, then EFBIG, then ENOSPC
abbrev pub truncate_target : Script → Plain → ℕ → Opened → ℕ → Target → Answer
truncate_target script plain pid opened size (OnNode number) =
    if is_directory plain.files.tree number then failed script plain pid EINVAL
    else if_writable script plain pid opened (resized_to script plain pid (resize plain.files.tree number size))
truncate_target script plain pid opened size (OnPipe place) = failed script plain pid EINVAL
truncate_target script plain pid opened size (OnSocket place) = failed script plain pid EINVAL

-- a file gets this size; EINVAL for what isn't a regular file, also where it isn't open for writing (POSIX ftruncate)
unfoldable pub ftruncate : Script → Plain → ℕ → ℤ → ℤ → Answer
ftruncate script plain pid fd size =
    on_open script plain pid fd (λ opened. truncate_target script plain pid opened (count_of size) opened.is.target)

-- ---- fstat

-- what has no node has no number, no links and no size
abbrev pub without_node : NodeKind → StatInfo
without_node kind = record { kind = kind; number = 0; nlink = 0; size = 0 }

-- of an end of a pipe: all of the FIFO's node, and of a pipe that `pipe` made only that it is one
abbrev pub end_info : Tree → Option ℕ → StatInfo
end_info tree None = without_node kinds.Pipe
end_info tree (Some number) = stat_info tree number

-- what fstat tells: all of a node, a FIFO's too, and of another pipe or a socket only that it is one
abbrev pub info_of : Files → Target → StatInfo
info_of files (OnNode number) = stat_info files.tree number
info_of files (OnPipe place) = end_info files.tree (node_of files (OnPipe place))
info_of files (OnSocket place) = without_node kinds.Sock

-- what a descriptor is open on (POSIX fstat)
unfoldable pub fstat : Script → Plain → ℕ → ℤ → Answer
fstat script plain pid fd =
    on_open script plain pid fd (λ opened. replied script plain pid (Stat (info_of plain.files opened.is.target)))

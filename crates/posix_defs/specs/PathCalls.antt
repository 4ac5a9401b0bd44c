-- What the calls on paths answer, as far as the tree decides it. What descriptions open, and who works in a directory, come
-- in as tests; descriptors, offsets and processes do not occur.
use Rattle.std.specs.Prelude.{ℕ, ◌*◌, ◌/◌, ◌==◌, ◌&&◌, ◌||◌, not, Bool, true, false, if◌then◌else◌, List, [], ◌∷◌, ◌++◌, length, take, drop, nat_eq, Option, None, Some, Result, Ok, Err, codes}
use Rattle.std.specs.List.{last_or, flat_map, position_from, starts_with}
use Rattle.std.specs.Option.{option_map_or, ok_or}
use Rattle.std.specs.Str.{bytes_eq}
use Rattle.kabi_types.specs.PathParts.{components}
use Rattle.kabi_types.specs.declared.errnos.Errno.{Errno}
use Rattle.kabi_types.specs.declared.errnos.Errno.TheVariants.{EACCES, EADDRINUSE, EBUSY, EEXIST, EINVAL, EISDIR, ENOENT, ENOEXEC, ENOSPC, ENOTDIR, ENOTEMPTY, EOPNOTSUPP, EPERM}
use Rattle.kabi_types.specs.declared.inodes.DirEntry.{DirEntry}
use Rattle.kabi_types.specs.declared.replies.NodeKind.{NodeKind}
use Rattle.kabi_types.specs.declared.replies.NodeKind.TheVariants as kinds
use Rattle.kabi_types.specs.declared.replies.StatInfo.{StatInfo}
use Rattle.kabi_types.specs.declared.scripts.Program.{Program}
use Rattle.posix_defs.specs.declared.walked.Walked.{Walked}
use Rattle.posix_defs.specs.declared.walked.Walked.TheVariants as walked
use Rattle.posix_defs.specs.DiskFormat.{entry_bytes}
use Rattle.posix_defs.specs.DiskContents.{entry_for, own_name, parent_name}
use Rattle.posix_defs.specs.FileBytes.{resized}
use Rattle.posix_defs.specs.Tree.{Content, File, Directory, SocketName, Fifo, Node, Tree, node_at, is_directory, links_at, entries_at, parent_at, size_at}
use Rattle.posix_defs.specs.TreeChanges.{with_bytes, make, link, unlink, rename_over, rename_to, takes_entry, is_at_or_above}
use Rattle.posix_defs.specs.Paths.{resolve}

-- a fault where a test holds, else what follows
abbrev pub unless : {A : Type 0} → Bool → Errno → Result A Errno → Result A Errno
unless bad errno further = if bad then Err errno else further

-- the node that a path leads to; a free name leads to none
abbrev pub node_led : Walked → Result ℕ Errno
node_led (walked.Node number) = Ok number
node_led (walked.Named _ _ number _) = Ok number
node_led (walked.Free _ _ _) = Err ENOENT
node_led (walked.Fail errno) = Err errno

-- the kind of a node, as stat tells it, by what it holds
abbrev pub kind_of_content : Content → NodeKind
kind_of_content (File _) = kinds.File
kind_of_content (Directory _ _) = kinds.Dir
kind_of_content SocketName = kinds.Sock
kind_of_content Fifo = kinds.Fifo

-- the kind of a node in use; a free one, to which no path leads, is taken for a file
abbrev pub kind_in : Option Node → NodeKind
kind_in None = kinds.File
kind_in (Some node) = kind_of_content node.content

-- the kind is that of a socket
abbrev pub is_socket_kind : NodeKind → Bool
is_socket_kind kinds.Sock = true
is_socket_kind _ = false

-- the node is a socket's name
abbrev pub is_socket : Tree → ℕ → Bool
is_socket tree number = is_socket_kind (kind_in (node_at tree number))

-- the kind is that of a FIFO
abbrev pub is_fifo_kind : NodeKind → Bool
is_fifo_kind kinds.Fifo = true
is_fifo_kind _ = false

-- the node is a FIFO
abbrev pub is_fifo : Tree → ℕ → Bool
is_fifo tree number = is_fifo_kind (kind_in (node_at tree number))

-- what stat tells of a node
abbrev pub stat_info : Tree → ℕ → StatInfo
stat_info tree number = record { kind = kind_in (node_at tree number); number = number; nlink = links_at tree number; size = size_at tree number }

-- ---- stat, chdir, connect

-- what stat tells of the node that was found, or the fault of its path
abbrev pub stat_found : Tree → Result ℕ Errno → Result StatInfo Errno
stat_found tree (Ok number) = Ok (stat_info tree number)
stat_found tree (Err errno) = Err errno

-- what stat tells of the node that a path leads to; ENOENT for a free name (POSIX stat)
abbrev pub stat_path : Tree → ℕ → List ℕ → Result StatInfo Errno
stat_path tree cwd path = stat_found tree (node_led (resolve tree cwd path))

-- the node that was found, if it is a directory, else ENOTDIR; the fault of the path comes first
abbrev pub entered : Tree → Result ℕ Errno → Result ℕ Errno
entered tree (Ok number) = unless (not (is_directory tree number)) ENOTDIR (Ok number)
entered tree (Err errno) = Err errno

-- the new working directory
abbrev pub enter_path : Tree → ℕ → List ℕ → Result ℕ Errno
enter_path tree cwd path = entered tree (node_led (resolve tree cwd path))

-- the node that was found, if it is a socket's name; the fault of the path comes first
abbrev pub socket_found : Tree → Result ℕ Errno → Result (Option ℕ) Errno
socket_found tree (Ok number) = Ok (if is_socket tree number then Some number else None)
socket_found tree (Err errno) = Err errno

-- the socket's name that a path leads to; None where the node is something else
abbrev pub find_socket : Tree → ℕ → List ℕ → Result (Option ℕ) Errno
find_socket tree cwd path = socket_found tree (node_led (resolve tree cwd path))

-- ---- open

-- what the flags of an open ask
pub record Opening : Type 0 where
  pub writes : Bool
  pub creates : Bool
  pub excludes : Bool
  pub truncates : Bool

-- a node that is there; O_TRUNC takes the bytes of a file, and has no effect on a FIFO, whose node has none
abbrev pub open_there : Tree → Opening → ℕ → Result (ℕ × Tree) Errno
open_there tree how number =
    unless (how.creates && how.excludes) EEXIST
    (unless (is_directory tree number && (how.writes || how.creates)) EISDIR
    (unless (is_socket tree number) EOPNOTSUPP
    (Ok (number, if how.truncates then with_bytes tree number (resized 0) else tree))))

-- an open where a path has led: a node that is there is opened; a free name is ENOENT without O_CREAT or with a slash behind
-- it, and else an empty file is made, where there is room
abbrev pub open_led : Tree → Opening → Walked → Result (ℕ × Tree) Errno
open_led tree how (walked.Node number) = open_there tree how number
open_led tree how (walked.Named _ _ number _) = open_there tree how number
open_led tree how (walked.Free dir name slashed) = unless (not how.creates || slashed) ENOENT (make tree dir name (File []))
open_led tree how (walked.Fail errno) = Err errno

-- the node that an open leads to, and the tree then
abbrev pub open_path : Tree → ℕ → List ℕ → Opening → Result (ℕ × Tree) Errno
open_path tree cwd path how = open_led tree how (resolve tree cwd path)

-- ---- mkdir, mkfifo, bind, rmdir, unlink

-- a mkdir where a path has led: EEXIST for all that is there; a free name may have a slash behind it
abbrev pub mkdir_led : Tree → Walked → Result (ℕ × Tree) Errno
mkdir_led tree (walked.Node _) = Err EEXIST
mkdir_led tree (walked.Named _ _ _ _) = Err EEXIST
mkdir_led tree (walked.Free dir name _) = make tree dir name (Directory dir [])
mkdir_led tree (walked.Fail errno) = Err errno

-- the number of the new directory, and the tree then (POSIX mkdir)
abbrev pub mkdir_path : Tree → ℕ → List ℕ → Result (ℕ × Tree) Errno
mkdir_path tree cwd path = mkdir_led tree (resolve tree cwd path)

-- a mkfifo where a path has led: EEXIST for all that is there, ENOENT for a free name with a slash behind it
abbrev pub mkfifo_led : Tree → Walked → Result (ℕ × Tree) Errno
mkfifo_led tree (walked.Node _) = Err EEXIST
mkfifo_led tree (walked.Named _ _ _ _) = Err EEXIST
mkfifo_led tree (walked.Free dir name slashed) = unless slashed ENOENT (make tree dir name Fifo)
mkfifo_led tree (walked.Fail errno) = Err errno

-- the number of the new FIFO, and the tree then (POSIX mkfifo)
abbrev pub mkfifo_path : Tree → ℕ → List ℕ → Result (ℕ × Tree) Errno
mkfifo_path tree cwd path = mkfifo_led tree (resolve tree cwd path)

-- a bind where a path has led: EADDRINUSE for all that is there, ENOENT for a free name with a slash behind it
abbrev pub bind_led : Tree → Walked → Result (ℕ × Tree) Errno
bind_led tree (walked.Node _) = Err EADDRINUSE
bind_led tree (walked.Named _ _ _ _) = Err EADDRINUSE
bind_led tree (walked.Free dir name slashed) = unless slashed ENOENT (make tree dir name SocketName)
bind_led tree (walked.Fail errno) = Err errno

-- the number of the new socket's name, and the tree then (POSIX bind)
abbrev pub bind_path : Tree → ℕ → List ℕ → Result (ℕ × Tree) Errno
bind_path tree cwd path = bind_led tree (resolve tree cwd path)

-- a directory has no entry but `.` and `..`
abbrev pub is_empty : Tree → ℕ → Bool
is_empty tree number = length (entries_at tree number) == 0

-- the path's last component is this one
abbrev pub ends_in : List ℕ → List ℕ → Bool
ends_in name path = option_map_or (λ last. bytes_eq last name) (last_or None (components path)) false

-- `busy` where a description opens a directory or a process works in it. A path of slashes alone leads to the root.
abbrev pub rmdir_led : Tree → (ℕ → Bool) → Walked → Result Tree Errno
rmdir_led tree busy (walked.Node _) = Err EBUSY
rmdir_led tree busy (walked.Named dir name number _) =
    unless (not (is_directory tree number)) ENOTDIR
    (unless (not (is_empty tree number)) ENOTEMPTY
    (unless (busy number) EBUSY
    (Ok (unlink tree dir name number false))))
rmdir_led tree busy (walked.Free _ _ _) = Err ENOENT
rmdir_led tree busy (walked.Fail errno) = Err errno

-- the tree without the directory; a last component `.` is EINVAL and `..` ENOTEMPTY, before the path is walked (POSIX rmdir)
abbrev pub rmdir_path : Tree → ℕ → List ℕ → (ℕ → Bool) → Result Tree Errno
rmdir_path tree cwd path busy =
    unless (ends_in own_name path) EINVAL (unless (ends_in parent_name path) ENOTEMPTY (rmdir_led tree busy (resolve tree cwd path)))

-- a file and a FIFO stay while a description opens them, a socket's name doesn't
abbrev pub is_held : Tree → (ℕ → Bool) → ℕ → Bool
is_held tree opened number = opened number && not (is_directory tree number || is_socket tree number)

-- a node that loses a link: its number where it is the name of a socket and the link is the last, since that is freed then
abbrev pub freed_by : Tree → ℕ → Option ℕ
freed_by tree number = if is_socket tree number && links_at tree number == 1 then Some number else None

-- an unlink where a path has led: EPERM for a directory, ENOENT for a free name; else the name goes, and a link of its node
abbrev pub unlink_led : Tree → (ℕ → Bool) → Walked → Result (Option ℕ × Tree) Errno
unlink_led tree opened (walked.Node _) = Err EPERM
unlink_led tree opened (walked.Named dir name number _) =
    unless (is_directory tree number) EPERM (Ok (freed_by tree number, unlink tree dir name number (is_held tree opened number)))
unlink_led tree opened (walked.Free _ _ _) = Err ENOENT
unlink_led tree opened (walked.Fail errno) = Err errno

-- the number of a socket's name that was freed, and the tree then
abbrev pub unlink_path : Tree → ℕ → List ℕ → (ℕ → Bool) → Result (Option ℕ × Tree) Errno
unlink_path tree cwd path opened = unlink_led tree opened (resolve tree cwd path)

-- ---- link

-- the new path of a link: its own fault, EEXIST for all that is there, ENOENT for a free name with a slash behind it
abbrev pub link_to : Tree → ℕ → Walked → Result Tree Errno
link_to tree number (walked.Node _) = Err EEXIST
link_to tree number (walked.Named _ _ _ _) = Err EEXIST
link_to tree number (walked.Free dir name slashed) = unless slashed ENOENT (link tree dir name number)
link_to tree number (walked.Fail errno) = Err errno

-- the old path of a link: its own fault, then EPERM for a directory, before anything is told of the new path
abbrev pub link_from : Tree → Result ℕ Errno → Walked → Result Tree Errno
link_from tree (Ok number) new = unless (is_directory tree number) EPERM (link_to tree number new)
link_from tree (Err errno) new = Err errno

-- the tree in which the node of the old path has the new name too (POSIX link)
abbrev pub link_path : Tree → ℕ → List ℕ → List ℕ → Result Tree Errno
link_path tree cwd old new = link_from tree (node_led (resolve tree cwd old)) (resolve tree cwd new)

-- ---- rename

-- over a name that is there
abbrev pub rename_onto : Tree → (ℕ → Bool) → (ℕ → Bool) → ℕ → List ℕ → ℕ → ℕ → List ℕ → ℕ → Result (Option ℕ × Tree) Errno
rename_onto tree opened busy dir name number to new replaced =
    if number == replaced then Ok (None, tree)
    else unless (is_directory tree replaced && not (is_directory tree number)) EISDIR
    (unless (is_directory tree number && not (is_directory tree replaced)) ENOTDIR
    (unless (is_directory tree replaced && not (is_empty tree replaced)) ENOTEMPTY
    (unless (is_directory tree replaced && busy replaced) EBUSY
    (Ok (freed_by tree replaced, rename_over tree dir name number to new replaced (is_held tree opened replaced))))))

-- to a name that is missing: an entry is needed in another directory
abbrev pub rename_away : Tree → ℕ → List ℕ → ℕ → ℕ → List ℕ → Bool → Result (Option ℕ × Tree) Errno
rename_away tree dir name number to new slashed =
    unless (slashed && not (is_directory tree number)) ENOTDIR
    (unless (not (dir == to) && not (takes_entry tree to 0)) ENOSPC
    (Ok (None, rename_to tree dir name number to new)))

-- a directory doesn't go to itself or below
abbrev pub goes_below : Tree → ℕ → ℕ → Bool
goes_below tree number to = is_directory tree number && is_at_or_above tree number to

-- the name of the old path, and where the new one leads. One of slashes alone leads to the root.
abbrev pub rename_named : Tree → (ℕ → Bool) → (ℕ → Bool) → ℕ → List ℕ → ℕ → Walked → Result (Option ℕ × Tree) Errno
rename_named tree opened busy dir name number (walked.Node _) = Err EBUSY
rename_named tree opened busy dir name number (walked.Named to new replaced _) =
    unless (goes_below tree number to) EINVAL (rename_onto tree opened busy dir name number to new replaced)
rename_named tree opened busy dir name number (walked.Free to new slashed) =
    unless (goes_below tree number to) EINVAL (rename_away tree dir name number to new slashed)
rename_named tree opened busy dir name number (walked.Fail errno) = Err errno

-- the root is the old path, unless the walk of the new one fails
abbrev pub rename_root : Walked → Result (Option ℕ × Tree) Errno
rename_root (walked.Fail errno) = Err errno
rename_root _ = Err EBUSY

-- a rename where both paths have led: the fault of the old one comes first, also ENOENT for its free name
abbrev pub rename_led : Tree → (ℕ → Bool) → (ℕ → Bool) → Walked → Walked → Result (Option ℕ × Tree) Errno
rename_led tree opened busy (walked.Node _) new = rename_root new
rename_led tree opened busy (walked.Named dir name number _) new = rename_named tree opened busy dir name number new
rename_led tree opened busy (walked.Free _ _ _) new = Err ENOENT
rename_led tree opened busy (walked.Fail errno) new = Err errno

-- `opened` where a description opens a node, `busy` where that or a process works in it. The number of a socket's name that
-- was freed is told, and the tree then.
abbrev pub rename_path : Tree → ℕ → List ℕ → List ℕ → (ℕ → Bool) → (ℕ → Bool) → Result (Option ℕ × Tree) Errno
rename_path tree cwd old new opened busy = rename_led tree opened busy (resolve tree cwd old) (resolve tree cwd new)

-- ---- exec, and what is read

-- the bytes of a file; a directory, a socket's name and a FIFO have none
abbrev pub bytes_of : Content → List ℕ
bytes_of (File bytes) = bytes
bytes_of _ = []

-- the bytes of a node that is a file in use, else none
abbrev pub bytes_in : Option Node → List ℕ
bytes_in None = []
bytes_in (Some node) = bytes_of node.content

-- the bytes of a file from a place on, at most so many
abbrev pub read_node : Tree → ℕ → ℕ → ℕ → List ℕ
read_node tree number at count = take count (drop at (bytes_in (node_at tree number)))

-- the entries of a directory as `readdir` tells them, `.` and `..` first
abbrev pub all_entries : Tree → ℕ → List DirEntry
all_entries tree dir = entry_for dir own_name ∷ entry_for (parent_at tree dir) parent_name ∷ entries_at tree dir

-- whole entries of 32 bytes from a place on, as many as so many bytes allow
abbrev pub list_node : Tree → ℕ → ℕ → ℕ → List ℕ
list_node tree dir at count = take (32 * (count / 32)) (drop at (flat_map entry_bytes (all_entries tree dir)))

-- `#!`, the program's name and a newline
abbrev pub first_line : Program → List ℕ
first_line program = codes "#!" ++ program.name ++ codes "\n"

-- the program whose line the bytes begin with, by its place
abbrev pub program_of : List Program → List ℕ → Result ℕ Errno
program_of programs bytes = ok_or (position_from (λ program. starts_with nat_eq bytes (first_line program)) 0 programs) ENOEXEC

-- the program of the file that was found: the fault of the path, EACCES for a directory, a socket's name and a FIFO, then ENOEXEC
abbrev pub exec_found : Tree → List Program → Result ℕ Errno → Result ℕ Errno
exec_found tree programs (Ok number) =
    unless (is_directory tree number || is_socket tree number || is_fifo tree number) EACCES (program_of programs (bytes_in (node_at tree number)))
exec_found tree programs (Err errno) = Err errno

-- the program that an exec starts, by its place in the script
abbrev pub exec_path : Tree → ℕ → List ℕ → List Program → Result ℕ Errno
exec_path tree cwd path programs = exec_found tree programs (node_led (resolve tree cwd path))

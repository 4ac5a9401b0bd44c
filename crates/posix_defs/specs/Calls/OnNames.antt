-- The calls on names of the tree: `stat`, `chdir`, `mkdir`, `mkfifo`, `rmdir`, `unlink`, `link` and `rename`.
use Rattle.std.specs.Prelude.{ℕ, ◌==◌, ◌&&◌, ◌||◌, pos, Bool, false, List, Option, None, Some, Result, Ok, Err}
use Rattle.std.specs.List.{list_any}
use Rattle.kabi_types.specs.declared.errnos.Errno.{Errno}
use Rattle.kabi_types.specs.declared.replies.Reply.TheVariants.{Val, Stat}
use Rattle.kabi_types.specs.declared.replies.StatInfo.{StatInfo}
use Rattle.kabi_types.specs.declared.scripts.Script.{Script}
use Rattle.posix_defs.specs.Tree.{Tree}
use Rattle.posix_defs.specs.PathCalls.{stat_path, enter_path, mkdir_path, mkfifo_path, rmdir_path, unlink_path, link_path, rename_path}
use Rattle.posix_defs.specs.Process.{Process, directory_of, runs, with_directory}
use Rattle.posix_defs.specs.Plain.{Plain, with_files, with_table}
use Rattle.posix_defs.specs.Answer.{Answer, failed, replied}
use Rattle.posix_defs.specs.Files.State.{Files, opens, with_sockets, with_tree}
use Rattle.posix_defs.specs.Files.SocketNames.{after_freeing}

-- the process lives, and works in this directory
abbrev pub works_in : ℕ → Option Process → Bool
works_in number None = false
works_in number (Some process) = runs process.status && process.directory == number

-- a description opens this node, or a live process works in it
abbrev pub is_busy : Plain → ℕ → Bool
is_busy plain number = opens plain.files number || list_any (works_in number) plain.table

-- ---- stat, chdir

-- what there is to tell of a node, or the fault of its path
abbrev pub told_of : Script → Plain → ℕ → Result StatInfo Errno → Answer
told_of script plain pid (Ok info) = replied script plain pid (Stat info)
told_of script plain pid (Err errno) = failed script plain pid errno

-- the node that a path leads to (POSIX stat)
unfoldable pub stat : Script → Plain → ℕ → List ℕ → Answer
stat script plain pid path = told_of script plain pid (stat_path plain.files.tree (directory_of plain.table pid) path)

-- the caller works in this directory, and 0 is told; or the fault of the path
abbrev pub works_from : Script → Plain → ℕ → Result ℕ Errno → Answer
works_from script plain pid (Ok number) = replied script (with_table plain (with_directory plain.table pid number)) pid (Val (pos 0))
works_from script plain pid (Err errno) = failed script plain pid errno

-- the caller works in the directory that a path leads to (POSIX chdir)
unfoldable pub chdir : Script → Plain → ℕ → List ℕ → Answer
chdir script plain pid path = works_from script plain pid (enter_path plain.files.tree (directory_of plain.table pid) path)

-- ---- mkdir, mkfifo, rmdir, link

-- another tree, and 0 is told
abbrev pub retreed : Script → Plain → ℕ → Result Tree Errno → Answer
retreed script plain pid (Ok tree) = replied script (with_files plain (with_tree plain.files tree)) pid (Val (pos 0))
retreed script plain pid (Err errno) = failed script plain pid errno

-- the tree with the new directory or FIFO, and 0 is told, not its number; or the fault
abbrev pub made_node : Script → Plain → ℕ → Result (ℕ × Tree) Errno → Answer
made_node script plain pid (Ok made) = retreed script plain pid (Ok made.1)
made_node script plain pid (Err errno) = failed script plain pid errno

-- a new directory (POSIX mkdir)
unfoldable pub mkdir : Script → Plain → ℕ → List ℕ → Answer
mkdir script plain pid path = made_node script plain pid (mkdir_path plain.files.tree (directory_of plain.table pid) path)

-- a new FIFO (POSIX mkfifo)
unfoldable pub mkfifo : Script → Plain → ℕ → List ℕ → Answer
mkfifo script plain pid path = made_node script plain pid (mkfifo_path plain.files.tree (directory_of plain.table pid) path)

-- a directory without entries goes, where nobody works in it or has it open (POSIX rmdir)
unfoldable pub rmdir : Script → Plain → ℕ → List ℕ → Answer
rmdir script plain pid path = retreed script plain pid (rmdir_path plain.files.tree (directory_of plain.table pid) path (is_busy plain))

-- a node that is no directory gets a further name (POSIX link)
unfoldable pub link : Script → Plain → ℕ → List ℕ → List ℕ → Answer
link script plain pid old new = retreed script plain pid (link_path plain.files.tree (directory_of plain.table pid) old new)

-- ---- unlink, rename

-- another tree, in which a name of a socket may have been freed: then that socket keeps no name
abbrev pub renamed : Files → Option ℕ → Tree → Files
renamed files freed tree = with_sockets (with_tree files tree) (after_freeing files.sockets freed)

-- the tree after a name has gone or changed, and 0 is told; or the fault
abbrev pub freed_in : Script → Plain → ℕ → Result (Option ℕ × Tree) Errno → Answer
freed_in script plain pid (Ok left) = replied script (with_files plain (renamed plain.files left.0 left.1)) pid (Val (pos 0))
freed_in script plain pid (Err errno) = failed script plain pid errno

-- a name goes, and with the last one its node: a file or a FIFO only when no description opens it any more (POSIX unlink)
unfoldable pub unlink : Script → Plain → ℕ → List ℕ → Answer
unlink script plain pid path = freed_in script plain pid (unlink_path plain.files.tree (directory_of plain.table pid) path (opens plain.files))

-- a node's name becomes another, in place of what had that name (POSIX rename)
unfoldable pub rename : Script → Plain → ℕ → List ℕ → List ℕ → Answer
rename script plain pid old new =
    freed_in script plain pid (rename_path plain.files.tree (directory_of plain.table pid) old new (opens plain.files) (is_busy plain))

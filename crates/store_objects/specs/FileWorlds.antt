-- The worlds that a store stands for once a call on files has changed it.
use Rattle.std.specs.Prelude.{ℕ, ◌≡◌, true, false, Some}
use Rattle.kabi_types.specs.declared.calls.Call.{Call}
use Rattle.kabi_types.specs.declared.scripts.Script.{Script}
use Rattle.kabi_types.specs.declared.replies.Reply.{Reply}
use Rattle.lock_table.specs.Chain.{HoldsLocks}
use Rattle.memfs_ops.specs.FileTree.{Stands}
use Rattle.posix_defs.specs.Account.{Account}
use Rattle.posix_defs.specs.Answer.{Answer, Blocked, Done, Ended, Part, replied}
use Rattle.posix_defs.specs.Calls.Writing.{did_part}
use Rattle.posix_defs.specs.Family.{IsFamily}
use Rattle.posix_defs.specs.Files.State.{HalfOpen, with_opening}
use Rattle.posix_defs.specs.Plain.{Plain, with_files}
use Rattle.posix_defs.specs.Reaching.{IsLeft, is_reply, knows_way, name_to_leave, reaches_node}
use Rattle.posix_defs.specs.Turn.{account_after}
use Rattle.posix_defs.specs.World.{World, directories_of}
use Rattle.proc_files.specs.Holders.{holders}
use Rattle.proc_table.specs.Accounting.{HasAccount}
use Rattle.proc_table.specs.Standing.{IsTable}
use Rattle.store_objects.specs.Standing.{IsSound, StandsFor}
use Rattle.store_objects.specs.declared.objects.Objects.{Objects}
use Rattle.store_objects.specs.Files.{HaveFiles}
use Rattle.store_objects.specs.Trees.{kept_by, others_in}
use Rattle.store_objects.specs.Working.{AreDirectories}

-- The objects have of a world what such a call may change of it: processes with their memory, files and their tree, what is cached
-- and how much was read. Everybody stands where he stood in the world before.
pub record HasTurned (new : Objects) (world next : World) : Type 0 where
  pub table : IsTable new.heap new.procs next.plain.table
  pub memory : HasAccount new.heap new.procs next.account.frames
  pub files : HaveFiles new next.plain.files next.account
  pub tree : Stands new.heap new.tree next.plain.files.tree (holders (others_in next.plain) next.plain.files)
  pub family : IsFamily next.plain.table
  pub works : AreDirectories next.plain.files.tree (directories_of next.plain.table)
  pub controls : next.plain.controls ≡ world.plain.controls
  pub kept : next.kept ≡ kept_by new.tree
  pub reads : next.reads ≡ new.tree.disk.reads

-- the world with another machine and its account, in which is kept what the objects keep, and was read what they have read
abbrev pub turned_in : Objects → Plain → Account → World
turned_in objects plain account = record { plain = plain; account = account; kept = kept_by objects.tree; reads = objects.tree.disk.reads }

-- Who is whose child, and who works where, is as it was.
pub record KinStays (plain next : Plain) : Type 0 where
  pub family : IsFamily plain.table → IsFamily next.table
  pub works : directories_of next.table ≡ directories_of plain.table

-- so it is in whatever machine an answer of a call leads to that is over
abbrev pub LeavesKin : Plain → Answer → Type 0
LeavesKin plain Blocked = Unit {0}
LeavesKin plain (Done reply next) = KinStays plain next
LeavesKin plain (Part moved next) = Unit {0}
LeavesKin plain (Ended status next) = Unit {0}

-- Whatever machine a call's answer leads to with a reply, the chain of locks has that one's.
abbrev pub LocksFollow : Script → Objects → Objects → ℕ → (Plain → Answer) → Reply → Type 0
LocksFollow script old new pid answer said =
    (world : World) → StandsFor script old world → IsSound world.plain → (next : Plain) → answer world.plain ≡ replied script next pid said
    → HoldsLocks new.heap.locks new.locks next.files.locks

-- What a call leaves of the tree's caches, where it leads from a world to a machine: where no node is reached all that is kept stays, the
-- name that the call leaves is kept, and where all on its way was kept nothing is read.
pub record LeavesCached (old new : Objects) (world : World) (pid : ℕ) (call : Call) (said : Reply) (next : Plain) : Type 0 where
  pub untouched : reaches_node world.plain pid call next ≡ false → (kept_by new.tree ≡ kept_by old.tree) × (new.tree.disk.reads ≡ old.tree.disk.reads)
  pub left : is_reply said ≡ true → IsLeft next.files.tree (kept_by new.tree) (name_to_leave world.plain pid call)
  pub known : knows_way world.plain world.kept pid call ≡ true → new.tree.disk.reads ≡ old.tree.disk.reads

-- In a world an open of a process has made its end of a FIFO, and waits for the other side: its machine leads to another one, which the
-- objects have with the account that follows from the answer, but that the process doesn't sleep in this open yet. Of the caches it
-- leaves what `LeavesCached` says.
pub record HasBegun (old new : Objects) (world : World) (pid : ℕ) (call : Call) (answer : Answer) (opening : HalfOpen) : Type 0 where
  pub next : Plain
  pub begins : answer ≡ did_part (with_files next (with_opening next.files pid (Some opening))) pid 1
  pub turned : HasTurned new world (turned_in new next (account_after world.account world.plain pid call answer))
  pub untouched : reaches_node world.plain pid call next ≡ false → (kept_by new.tree ≡ kept_by old.tree) × (new.tree.disk.reads ≡ old.tree.disk.reads)
  pub known : knows_way world.plain world.kept pid call ≡ true → new.tree.disk.reads ≡ old.tree.disk.reads

-- In a world a call of a process was answered with a reply: its machine leads to another one, which the objects have with the account that
-- follows from the answer.
pub record HasAnswered (script : Script) (old new : Objects) (world : World) (pid : ℕ) (call : Call) (answer : Answer) (said : Reply) : Type 0 where
  pub next : Plain
  pub replies : answer ≡ replied script next pid said
  pub turned : HasTurned new world (turned_in new next (account_after world.account world.plain pid call answer))
  pub cached : LeavesCached old new world pid call said next

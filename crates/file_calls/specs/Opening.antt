-- What an open that began came to, for its caller.
use Rattle.std.specs.Prelude.{ℕ, ◌≡◌, pos, true, false, Some, Result, Ok, Err}
use Rattle.kabi_types.specs.declared.calls.Call.{Call}
use Rattle.kabi_types.specs.declared.errnos.Errno.{Errno}
use Rattle.kabi_types.specs.declared.replies.Reply.TheVariants.{Fail, Val}
use Rattle.kabi_types.specs.declared.scripts.Script.{Script}
use Rattle.posix_defs.specs.Plain.{Plain}
use Rattle.posix_defs.specs.Reaching.{knows_way, reaches_node}
use Rattle.posix_defs.specs.World.{World}
use Rattle.posix_defs.specs.declared.turner.Turned.{Turned}
use Rattle.posix_defs.specs.declared.turner.Turned.TheVariants as turned
use Rattle.proc_files.specs.declared.opening.Opened.{Opened}
use Rattle.proc_files.specs.declared.opening.Opened.TheVariants as opened
use Rattle.proc_table.specs.Opening.{half_in}
use Rattle.store_objects.specs.declared.objects.Objects.{Objects}
use Rattle.store_objects.specs.FileWorlds.{LeavesCached}
use Rattle.store_objects.specs.Standing.{answered_in, waiting_in}
use Rattle.store_objects.specs.Told.{partly_in}
use Rattle.store_objects.specs.Trees.{kept_by}

-- what is told: the number, or the fault; or a part, where it waits for the other side of a FIFO
abbrev pub told_of : Result Opened Errno → Turned
told_of (Ok (opened.Over fd)) = turned.Done (Val (pos fd))
told_of (Ok (opened.Waits opening)) = turned.Part 1
told_of (Err errno) = turned.Done (Fail errno)

-- the world in which its caller goes on behind it, or sleeps in it
abbrev pub came_in : Script → World → ℕ → Result Opened Errno → World
came_in script world pid (Ok (opened.Over fd)) = answered_in script world pid (Val (pos fd))
came_in script world pid (Ok (opened.Waits opening)) = partly_in (waiting_in world pid (Some (half_in opening))) pid 1
came_in script world pid (Err errno) = answered_in script world pid (Fail errno)

-- What it leaves of the tree's caches: where it waits no name has to be kept.
abbrev pub LeavesOpening : Objects → Objects → World → ℕ → Call → Result Opened Errno → Plain → Type 0
LeavesOpening old new world pid which (Ok (opened.Over fd)) next = LeavesCached old new world pid which (Val (pos fd)) next
LeavesOpening old new world pid which (Ok (opened.Waits opening)) next =
    (reaches_node world.plain pid which next ≡ false → (kept_by new.tree ≡ kept_by old.tree) × (new.tree.disk.reads ≡ old.tree.disk.reads))
    × (knows_way world.plain world.kept pid which ≡ true → new.tree.disk.reads ≡ old.tree.disk.reads)
LeavesOpening old new world pid which (Err errno) next = LeavesCached old new world pid which (Fail errno) next

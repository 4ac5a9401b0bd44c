-- A turn of a call that may walk a path: what is kept may become other, and the disk may be read.
use Rattle.std.specs.Prelude.{ℕ, ◌+◌, ◌≡◌, ◌≤◌, true, false, length}
use Rattle.kabi_types.specs.declared.calls.Call.{Call}
use Rattle.kabi_types.specs.declared.scripts.Script.{Script}
use Rattle.posix_defs.specs.Answer.{Answer}
use Rattle.posix_defs.specs.Needs.{need_of}
use Rattle.posix_defs.specs.Plain.{Plain}
use Rattle.posix_defs.specs.Process.{is_alive}
use Rattle.posix_defs.specs.Reaching.{IsLeft, has_succeeded, knows_way, name_to_leave, reaches_node}
use Rattle.posix_defs.specs.Turn.{Tells, account_after}
use Rattle.posix_defs.specs.World.{World}
use Rattle.posix_defs.specs.declared.turner.Turned.{Turned}
use Rattle.store_objects.specs.declared.objects.Objects.{Objects}
use Rattle.store_objects.specs.Standing.{IsSound, StandsFor}

-- What is kept, and how much was read, has gone on as it may in a turn of a call: more is kept by no more than the call's need
-- has; where no node is reached all stays; the name that the call leaves is kept; and where all on its way was kept nothing is
-- read.
pub record KeepsOn (world : World) (pid : ℕ) (call : Call) (told : Turned) (next : World) : Type 0 where
  pub names : length next.kept.names ≤ length world.kept.names + (need_of call).name
  pub blocks : length next.kept.blocks ≤ length world.kept.blocks + (need_of call).block
  pub vnodes : length next.kept.vnodes ≤ length world.kept.vnodes + (need_of call).vnode
  pub reads : world.reads ≤ next.reads
  pub untouched : reaches_node world.plain pid call next.plain ≡ false → (next.kept ≡ world.kept) × (next.reads ≡ world.reads)
  pub left : has_succeeded told ≡ true → IsLeft next.plain.files.tree next.kept (name_to_leave world.plain pid call)
  pub known : knows_way world.plain world.kept pid call ≡ true → next.reads ≡ world.reads

-- The objects stand for a world to which an answer of a process's call leads: it is told, its machine and account are those after
-- the answer, and what is kept and how much was read have gone on.
pub record WorldReached (script : Script) (new : Objects) (world : World) (pid : ℕ) (call : Call) (answer : Answer) (told : Turned) : Type 0 where
  pub next : World
  pub stands : StandsFor script new next
  pub tells : Tells answer world.plain told next.plain
  pub account : next.account ≡ account_after world.account world.plain pid call answer
  pub keeps : KeepsOn world pid call told next

-- From each world that the objects stood for and in which the process ran, they stand for one that its call's answer reaches.
abbrev pub Reaches : Script → Objects → ℕ → Call → (Plain → Answer) → Turned → Objects → Type 0
Reaches script old pid call answer told new =
    (world : World) → StandsFor script old world → is_alive world.plain.table pid ≡ true
    → WorldReached script new world pid call (answer world.plain) told

-- From each such world that has what machines that are reached have.
abbrev pub Serves : Script → Objects → ℕ → Call → (Plain → Answer) → Turned → Objects → Type 0
Serves script old pid call answer told new =
    (world : World) → StandsFor script old world → IsSound world.plain → is_alive world.plain.table pid ≡ true
    → WorldReached script new world pid call (answer world.plain) told

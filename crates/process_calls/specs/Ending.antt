-- The worlds in which a process has ended.
use Rattle.std.specs.Prelude.{ℕ, ◌≡◌, ◌≤◌, false, length}
use Rattle.kabi_types.specs.declared.scripts.Script.{Script}
use Rattle.posix_defs.specs.Account.{account_on}
use Rattle.posix_defs.specs.Ending.{die}
use Rattle.posix_defs.specs.Reaching.{ends_node}
use Rattle.posix_defs.specs.World.{World}
use Rattle.store_objects.specs.declared.objects.Objects.{Objects}
use Rattle.store_objects.specs.Standing.{StandsFor}

-- The objects stand for a world in which a process has ended with a status, and for whose end no more is kept. Where no description
-- of a node has gone with it, the same is kept and nothing was read.
pub record WorldWithout (script : Script) (new : Objects) (world : World) (pid status : ℕ) : Type 0 where
  pub next : World
  pub stands : StandsFor script new next
  pub plain : next.plain ≡ die world.plain pid status
  pub account : next.account ≡ account_on world.plain next.plain world.account
  pub names : length next.kept.names ≤ length world.kept.names
  pub blocks : length next.kept.blocks ≤ length world.kept.blocks
  pub vnodes : length next.kept.vnodes ≤ length world.kept.vnodes
  pub reads : world.reads ≤ next.reads
  pub untouched : ends_node world.plain.files next.plain.files ≡ false → (next.kept ≡ world.kept) × (next.reads ≡ world.reads)

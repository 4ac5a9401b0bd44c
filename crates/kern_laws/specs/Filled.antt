-- What caches keep of what calls put there.
use Rattle.std.specs.Prelude.{◌+◌, ◌≤◌, length}
use Rattle.posix_defs.specs.History.{Past}
use Rattle.posix_defs.specs.World.{Kept}

-- what is kept and what was evicted are together no more than what was filled, and the root's node
pub record AreFilled (kept : Kept) (past : Past) : Type 0 where
  pub names : length kept.names + past.evicted.names ≤ past.filled.names
  pub blocks : length kept.blocks + past.evicted.blocks ≤ past.filled.blocks
  pub vnodes : length kept.vnodes + past.evicted.vnodes ≤ past.filled.vnodes + 1

-- What a refusal, an eviction and a kill do to a world.
use Rattle.std.specs.Prelude.{ℕ, ◌≡◌, ◌==◌, ◌≤◌, false, List, ◌∷◌, ◌++◌, length}
use Rattle.std.specs.List.{list_any}
use Rattle.kabi_types.specs.declared.entries.Cached.{Cached}
use Rattle.kabi_types.specs.declared.entries.Cached.TheVariants.{Name, Block, Vnode}
use Rattle.kabi_types.specs.declared.errnos.Errno.TheVariants.{ENOMEM}
use Rattle.kabi_types.specs.declared.replies.Reply.TheVariants.{Fail}
use Rattle.kabi_types.specs.declared.scripts.Script.{Script}
use Rattle.posix_defs.specs.Plain.{Plain, answered}
use Rattle.posix_defs.specs.Ending.{die}
use Rattle.posix_defs.specs.Killing.{sigkill}
use Rattle.posix_defs.specs.Account.{account_on}
use Rattle.posix_defs.specs.Reaching.{ends_node}
use Rattle.posix_defs.specs.World.{Kept, MayKeep, World, live_of, pinned_nodes}

-- a call is answered ENOMEM: its caller goes on behind it, and nothing else changes
abbrev pub refused_in : Script → World → ℕ → World
refused_in script world pid = record world { plain = answered script world.plain pid (Fail ENOMEM) }

-- One element of a list is gone, and the others are as they were.
pub record LosesOne {X : Type 0} (old : List X) (gone : X) (new : List X) : Type 0 where
  pub front : List X
  pub back : List X
  pub was : old ≡ front ++ gone ∷ back
  pub is : new ≡ front ++ back

-- the lists that a cache keeps, before and after one object that isn't pinned went from it
abbrev pub LosesFrom : Plain → Kept → Cached → Kept → Type 0
LosesFrom plain old Name new = (gone : ℕ × List ℕ) × LosesOne old.names gone new.names × (new ≡ record old { names = new.names })
LosesFrom plain old Block new = (gone : ℕ) × LosesOne old.blocks gone new.blocks × (new ≡ record old { blocks = new.blocks })
LosesFrom plain old Vnode new =
    (gone : ℕ) × (list_any (λ pinned. pinned == gone) (pinned_nodes plain) ≡ false) × LosesOne old.vnodes gone new.vnodes
    × (new ≡ record old { vnodes = new.vnodes })

-- An object that isn't pinned goes from a cache; the machine stays, and nothing is read.
pub record Evicts (old : World) (what : Cached) (new : World) : Type 0 where
  pub plain : new.plain ≡ old.plain
  pub account : new.account ≡ old.account
  pub kept : LosesFrom old.plain old.kept what new.kept
  pub reads : new.reads ≡ old.reads

-- A process ends by signal 9, and nothing more is kept for it. Where no description of a node ends with it, what is kept stays
-- and nothing is read.
pub record Kills (old : World) (pid : ℕ) (new : World) : Type 0 where
  pub plain : new.plain ≡ die old.plain pid sigkill
  pub account : new.account ≡ account_on old.plain new.plain old.account
  pub may_keep : MayKeep new.plain new.kept
  pub live : live_of new ≤ live_of old
  pub names : length new.kept.names ≤ length old.kept.names
  pub blocks : length new.kept.blocks ≤ length old.kept.blocks
  pub vnodes : length new.kept.vnodes ≤ length old.kept.vnodes
  pub reads : old.reads ≤ new.reads
  pub untouched : ends_node old.plain.files new.plain.files ≡ false → (new.kept ≡ old.kept) × (new.reads ≡ old.reads)

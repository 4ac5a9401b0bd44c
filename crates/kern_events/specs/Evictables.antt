-- What a core keeps in mind of the caches, so that it asks the store of them only where the store has changed.
use Rattle.std.specs.Prelude.{◌≡◌, Bool}
use Rattle.kabi_types.specs.declared.entries.Cached.{Cached}
use Rattle.kabi_types.specs.declared.entries.Cached.TheVariants.{Name, Block, Vnode}
use Rattle.posix_defs.specs.World.{World, can_evict}
use Rattle.kern_events.specs.declared.evictables.Evictables.{Evictables}

-- what is told of a cache
abbrev pub told_of : Evictables → Cached → Bool
told_of told Name = told.name
told_of told Block = told.block
told_of told Vnode = told.vnode

-- of each cache it is told whether it keeps something that isn't pinned
abbrev pub AreEvictable : {T : Type 0} → (T → World → Type 0) → T → Evictables → Type 0
AreEvictable stands_for store told = (world : World) (what : Cached) → stands_for store world → told_of told what ≡ can_evict world.plain world.kept what

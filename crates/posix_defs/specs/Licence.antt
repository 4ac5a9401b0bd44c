-- When a process may be killed, so that a call that waits may fit.
use Rattle.std.specs.Prelude.{Bool, not, ◌&&◌, ◌||◌, is_some}
use Rattle.kabi_types.specs.declared.scripts.Script.{Script}
use Rattle.kabi_types.specs.declared.entries.Cached.TheVariants.{Name, Block, Vnode}
use Rattle.posix_defs.specs.World.{World, can_evict}
use Rattle.posix_defs.specs.Victim.{victim_of}
use Rattle.posix_defs.specs.CoreState.{CoreState, none_admitted, some_fits, some_wait_in_vain}

-- something that isn't pinned is kept in some cache
abbrev pub can_evict_any : World → Bool
can_evict_any world =
    can_evict world.plain world.kept Name || can_evict world.plain world.kept Block || can_evict world.plain world.kept Vnode

-- Some call waits, none is admitted, nothing can be evicted, no call that waits fits, and there is a process to kill.
abbrev pub is_licensed : Script → CoreState → Bool
is_licensed script s =
    some_wait_in_vain script s && none_admitted s && not (can_evict_any s.world) && not (some_fits script s)
    && is_some (victim_of script.policy s.world.plain s.world.account)

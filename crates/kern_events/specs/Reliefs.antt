-- How calls that wait for room are helped.
use Rattle.std.specs.Prelude.{ℕ, ◌-◌, ◌==◌, ◌≡◌, not, if◌then◌else◌, Option, None, Some}
use Rattle.std.specs.List.{list_any}
use Rattle.kabi_types.specs.declared.entries.Cached.{Cached}
use Rattle.kabi_types.specs.declared.entries.Cached.TheVariants.{Name, Block, Vnode}
use Rattle.kabi_types.specs.declared.entries.Event.TheVariants.{Evict, Kill}
use Rattle.kabi_types.specs.declared.entries.Noted.{Noted}
use Rattle.kabi_types.specs.declared.scripts.Script.{Script}
use Rattle.posix_defs.specs.World.{World, can_evict, live_of}
use Rattle.posix_defs.specs.Victim.{victim_of}
use Rattle.posix_defs.specs.CoreState.{CoreState, charged_in, is_waiting, reserved_in}
use Rattle.posix_defs.specs.Licence.{is_licensed}
use Rattle.kern_tasks.specs.Room.{first_going}
use Rattle.kern_events.specs.declared.reliefs.Relief.{Relief}
use Rattle.kern_events.specs.declared.reliefs.Relief.TheVariants.{NoneWaiting, Fits, Outstanding, Evicted, Killed, Starved, Spent}
use Rattle.kern_tasks.specs.View.{CoreView, Took}

-- the first cache that keeps something that isn't pinned
abbrev pub first_evictable : World → Option Cached
first_evictable world =
    if can_evict world.plain world.kept Name then Some Name
    else if can_evict world.plain world.kept Block then Some Block
    else if can_evict world.plain world.kept Vnode then Some Vnode
    else None

abbrev pub fits_or : Option ℕ → Relief → Relief
fits_or (Some pid) otherwise = Fits pid
fits_or None otherwise = otherwise

abbrev pub evicted_or : Option Cached → Relief → Relief
evicted_or (Some what) otherwise = Evicted what
evicted_or None otherwise = otherwise

abbrev pub killed_or : Option ℕ → Relief
killed_or (Some pid) = Killed pid
killed_or None = Starved

-- the first case that holds: no call waits; one can go on at once; something is in reserve; something can be evicted; a kill is
-- licensed
abbrev pub relief_of : Script → CoreState → Relief
relief_of script s =
    if not (list_any (λ task. is_waiting task.phase) s.tasks) then NoneWaiting
    else fits_or (first_going (script.heap - charged_in s) s.tasks)
    (if not (reserved_in s.tasks == 0) then Outstanding (charged_in s) (live_of s.world)
    else evicted_or (first_evictable s.world)
    (killed_or (if is_licensed script s then victim_of script.policy s.world.plain s.world.account else None)))

-- what it leads to: an eviction and a kill are events that the core takes, and otherwise nothing changes
abbrev pub Relieves : {T : Type 0} → (T → World → Type 0) → Script → CoreView T → Relief → CoreView T → Type 0
Relieves stands_for script old (Evicted what) new = (noted : Noted) × Took stands_for script old (Evict what) noted new
Relieves stands_for script old (Killed pid) new = (noted : Noted) × Took stands_for script old (Kill pid) noted new
Relieves stands_for script old _ new = new ≡ old

-- that nothing helps is told by an end
abbrev pub NeverStarves : Relief → Type 0
NeverStarves Starved = ⊥
NeverStarves Spent = ⊥
NeverStarves _ = Unit {0}

-- What the store stands for, what its heap tells, and what it promises of a turn.
use Rattle.std.specs.Prelude.{◌≡◌, ℕ, ◌+◌, ◌≤◌}
use Rattle.kabi_types.specs.declared.calls.Call.{Call}
use Rattle.posix_defs.specs.World.{World}
use Rattle.priced_store.specs.declared.store.Maps.{Maps}
use Rattle.priced_store.specs.Prices.{price}
use Rattle.priced_store.specs.Worlds.{world_in}

-- the one world that it stands for
abbrev pub Stands : Maps → World → Type 0
Stands store world = world ≡ world_in store.stage

-- how often its heap was marked
abbrev pub marks_of : Maps → ℕ
marks_of store = store.arena.marks

-- the most that was in use between the last two marks
abbrev pub high_of : Maps → ℕ
high_of store = store.arena.high

-- in no turn was more in use than at its start and the call's price
abbrev pub KeepsToPrice : Maps → Call → Maps → Type 0
KeepsToPrice old call new = high_of new ≤ old.arena.used + price call

use Rattle.std.proofs.Common.{◌≢◌, ℕ, ◌<◌}
use Rattle.disk_layout.specs.Vacant.{kind_in}
use Rattle.disk_layout.proofs.slots.free_slot.Given as goal

abbrev pub invariant-loop-slot : goal.invariant-loop-slot
invariant-loop-slot l = (before : ℕ) → before < l.slot → kind_in l.block before ≢ 0

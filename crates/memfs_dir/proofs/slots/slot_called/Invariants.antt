use Rattle.std.proofs.Common.{ℕ, ◌<◌}
use Rattle.memfs_dir.specs.Slots.{IsCalled}
use Rattle.memfs_dir.proofs.slots.slot_called.Given as goal

abbrev pub invariant-loop-slot : goal.invariant-loop-slot
invariant-loop-slot l = (before : ℕ) → before < l.slot → ¬ (IsCalled l.fn.block before l.fn.name)

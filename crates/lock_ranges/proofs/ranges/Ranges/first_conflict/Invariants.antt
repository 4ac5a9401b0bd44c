use Rattle.std.proofs.Common.{◌≡◌, drop}
use Rattle.kabi_types.specs.Ranges.{first_conflict}
use Rattle.lock_ranges.proofs.ranges.Ranges.first_conflict.Given as goal

-- the first of what is left is the first of all
abbrev pub invariant-loop-range : goal.invariant-loop-range
invariant-loop-range l = first_conflict (drop l.range-index l.range-items) l.asked ≡ first_conflict l.range-items l.asked

use Rattle.std.proofs.Common.{◌≡◌, drop}
use Rattle.kabi_types.specs.Ranges.{kind_at}
use Rattle.lock_ranges.proofs.ranges.Ranges.kind_at.Given as goal

-- what is left says what all say
abbrev pub invariant-loop-range : goal.invariant-loop-range
invariant-loop-range l = kind_at (drop l.range-index l.range-items) l.place ≡ kind_at l.range-items l.place

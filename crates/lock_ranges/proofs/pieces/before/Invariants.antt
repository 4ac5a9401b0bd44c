use Rattle.std.proofs.Common.{◌≡◌, ◌++◌, drop}
use Rattle.kabi_types.specs.Ranges.{before}
use Rattle.lock_ranges.proofs.pieces.before.Given as goal

-- what is cut so far, and what is left to cut, is all that is to be cut
abbrev pub invariant-loop-range : goal.invariant-loop-range
invariant-loop-range l = l.pieces.items ++ before l.start (drop l.range-index l.ranges) ≡ before l.start l.ranges

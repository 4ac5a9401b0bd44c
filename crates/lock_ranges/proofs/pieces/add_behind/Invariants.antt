use Rattle.std.proofs.Common.{◌≡◌, drop}
use Rattle.kabi_types.specs.Ranges.{behind, joined}
use Rattle.lock_ranges.proofs.pieces.add_behind.Given as goal

-- what is left to add leads where all did
abbrev pub invariant-loop-other : goal.invariant-loop-other
invariant-loop-other l = joined l.ranges.items (behind l.last (drop l.other-index l.others)) ≡ joined l.fn.ranges.items (behind l.last l.others)

use Rattle.std.proofs.Common.{◌≡◌, ◌≤◌, ◌-◌}
use Rattle.blk_map.specs.Found.{free_below}
use Rattle.blk_map.proofs.found.free_up_to.Given as goal

abbrev pub invariant-loop-count : goal.invariant-loop-count
invariant-loop-count l = record { within : l.count ≤ l.wanted; below : l.number ≤ l.blocks; counted : l.count ≡ free_below l.map l.number }

abbrev pub decreases-loop-count : goal.decreases-loop-count
decreases-loop-count l = l.wanted - l.count

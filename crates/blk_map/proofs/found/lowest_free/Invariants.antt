use Rattle.std.proofs.Common.{◌≡◌, ◌≤◌, ◌-◌, length}
use Rattle.blk_map.proofs.Finding.{Searched}
use Rattle.blk_map.proofs.found.lowest_free.Given as goal

abbrev pub invariant-loop-count : goal.invariant-loop-count
invariant-loop-count l = record { within : l.count ≤ l.wanted; below : l.number ≤ l.blocks; len : length l.found ≡ 267; searched : Searched l.map l.found l.count l.number }

abbrev pub decreases-loop-count : goal.decreases-loop-count
decreases-loop-count l = l.wanted - l.count

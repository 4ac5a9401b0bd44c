use Rattle.std.proofs.Common.{◌-◌, ◌≡◌, ℕ, ◌<◌, ◌≤◌}
use Rattle.posix_defs.specs.SoundDisk.{bit_of}
use Rattle.disk_layout.proofs.maps.next_free.Given as goal

abbrev pub invariant-loop-number : goal.invariant-loop-number
invariant-loop-number l = record { from : l.from ≤ l.number; few : l.number ≤ 10000; passed : (block : ℕ) → l.from ≤ block → block < l.number → bit_of l.map block ≡ 1 }

abbrev pub decreases-loop-number : goal.decreases-loop-number
decreases-loop-number l = l.blocks - l.number

use Rattle.std.proofs.Common.{◌≡◌, ℕ, ◌+◌, ◌<◌, ◌≤◌, ◌⊎◌, get_or}
use Rattle.posix_defs.specs.SoundDisk.{run_of}
use Rattle.blk_map.specs.Named.{IsInHand, pointer_to}
use Rattle.blk_map.proofs.naming.name_all.Given as goal

abbrev pub invariant-loop-k : goal.invariant-loop-k
invariant-loop-k l = record {
  these : (j : ℕ) → j < l.k → pointer_to l.direct l.behind (l.from + j) ≡ get_or l.blocks j 0;
  others : (index : ℕ) → IsInHand (run_of l.from) index → (index < l.from) ⊎ (l.from + l.k ≤ index) → pointer_to l.direct l.behind index ≡ pointer_to l.initial.direct l.initial.behind index;
}

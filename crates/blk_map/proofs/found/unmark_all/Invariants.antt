use Rattle.std.proofs.Common.{◌≡◌, ◌≢◌, ℕ, ◌<◌, get_or}
use Rattle.posix_defs.specs.SoundDisk.{bit_of}
use Rattle.blk_map.proofs.found.unmark_all.Given as goal

abbrev pub invariant-loop-k : goal.invariant-loop-k
invariant-loop-k l = record {
  these : (j : ℕ) → j < l.k → bit_of l.map (get_or l.blocks j 0) ≡ 0;
  others : (block : ℕ) → ((j : ℕ) → j < l.k → get_or l.blocks j 0 ≢ block) → bit_of l.map block ≡ bit_of l.initial.map block;
  only : (block : ℕ) → bit_of l.map block ≡ 1 → bit_of l.initial.map block ≡ 1;
}

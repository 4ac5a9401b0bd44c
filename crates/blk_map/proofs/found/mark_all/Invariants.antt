use Rattle.std.proofs.Common.{◌≡◌, ◌≢◌, ℕ, ◌<◌, ◌⊎◌, get_or}
use Rattle.posix_defs.specs.SoundDisk.{bit_of}
use Rattle.blk_map.proofs.found.mark_all.Given as goal

abbrev pub invariant-loop-block : goal.invariant-loop-block
invariant-loop-block l = record {
  these : (k : ℕ) → k < l.block-index → bit_of l.map (get_or l.blocks k 0) ≡ 1;
  others : (block : ℕ) → ((k : ℕ) → k < l.block-index → get_or l.blocks k 0 ≢ block) → bit_of l.map block ≡ bit_of l.initial.map block;
  stays : (block : ℕ) → bit_of l.initial.map block ≡ 1 → bit_of l.map block ≡ 1;
  only : (block : ℕ) → bit_of l.map block ≡ 1 → (bit_of l.initial.map block ≡ 1) ⊎ ((k : ℕ) × (k < l.block-index) × (get_or l.blocks k 0 ≡ block));
}

-- The blocks that are taken are the lowest of those that were free, through steps that leave the map.
use Rattle.std.proofs.Common.{◌≡◌, ℕ, List, length, sym, ap, ◌∙◌, arith}
use Rattle.posix_defs.specs.SoundDisk.{block_bytes, bit_of}
use Rattle.blk_map.specs.Named.{TakesLowest}

-- two disks of one size have one map
pub record SameMap (one other : List (List ℕ)) : Type 0 where
  pub count : length other ≡ length one
  pub map : block_bytes other 0 ≡ block_bytes one 0

bits : (one other : List (List ℕ)) (number : ℕ) → SameMap one other → bit_of (block_bytes other 0) number ≡ bit_of (block_bytes one 0) number
bits one other number same = ap (λ (map : List ℕ). bit_of map number) same.map

pub none_taken : (before after : List (List ℕ)) → SameMap before after → TakesLowest before after
none_taken before after same block other free marked left = absurd (free.1 (sym (bits before after block same) ∙ marked))

-- a step before them and one after them leave the map
pub taken_between : (before first second after : List (List ℕ)) → SameMap before first → TakesLowest first second → SameMap second after → TakesLowest before after
taken_between before first second after one lowest two block other free marked left =
    lowest block other (omega (arith, free.0, one.count), λ is. free.1 (sym (bits before first block one) ∙ is)) (sym (bits second after block two) ∙ marked)
    (omega (arith, left.0, two.count), λ is. left.1 (bits second after other two ∙ is))

-- The blocks that a file took are the lowest of those that were free.
use Rattle.std.proofs.Common.{◌≡◌, ℕ, List, length, sym, ap, ◌∙◌, arith}
use Rattle.kabi_types.specs.declared.inodes.Inode.{Inode}
use Rattle.posix_defs.specs.SoundDisk.{block_bytes, bit_of}
use Rattle.blk_map.specs.Growing.{GrowsBut}
use Rattle.blk_map.specs.Named.{TakesLowest}

bits : (one other : List (List ℕ)) (number : ℕ) → block_bytes other 0 ≡ block_bytes one 0 → bit_of (block_bytes other 0) number ≡ bit_of (block_bytes one 0) number
bits one other number same = ap (λ (map : List ℕ). bit_of map number) same

-- growth took them, and what was written then left the map
pub takes_lowest : (from to number : ℕ) (before : List (List ℕ)) (old : Inode) (size : ℕ) (between : List (List ℕ)) (new : Inode) (after : List (List ℕ)) → GrowsBut from to number before old size between new
    → length after ≡ length between → block_bytes after 0 ≡ block_bytes between 0 → TakesLowest before after
takes_lowest from to number before old size between new after grown blocks map block other free marked left =
    grown.lowest block other free (sym (bits between after block map) ∙ marked) (omega (arith, left.0, blocks), λ is. left.1 (bits between after other map ∙ is))

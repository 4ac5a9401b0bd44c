-- Free blocks of a map.
use Rattle.std.specs.Prelude.{ℕ, List, not, nat_eq}
use Rattle.std.specs.List.{range_with_len, count_by}
use Rattle.posix_defs.specs.SoundDisk.{bit_of}

-- how many of the first blocks a map has as free
abbrev pub free_below : List ℕ → ℕ → ℕ
free_below map blocks = count_by (λ number. not (nat_eq (bit_of map number) 1)) (range_with_len 0 blocks)

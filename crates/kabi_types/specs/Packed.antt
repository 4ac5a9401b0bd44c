-- Bytes read as one number.
use Rattle.std.specs.Prelude.{ℕ, ℤ, ◌+◌, ◌*◌, List, [], ◌∷◌}
use Rattle.std.specs.Int.{w64, cast_signed}

-- byte i counts 256 to the i
abbrev pub little_endian : List ℕ → ℕ
little_endian [] = 0
little_endian (b ∷ bs) = b + 256 * little_endian bs

-- the number of up to eight bytes as a signed one of 64 bits
abbrev pub packed_number : List ℕ → ℤ
packed_number bytes = cast_signed w64 (little_endian bytes)

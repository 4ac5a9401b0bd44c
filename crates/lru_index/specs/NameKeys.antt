-- The key of a name in a directory, and the number that scatters it.
use Rattle.std.specs.Prelude.{ℕ, ◌+◌, ◌-◌, ◌*◌, ◌/◌, ◌%◌, ◌^◌, min, List, [], ◌∷◌, ◌++◌, length, replicate, take}
use Rattle.lru_index.specs.declared.keys.NameKey.{NameKey}

-- its bytes with zeros behind them, up to 27
abbrev pub name_key : ℕ → List ℕ → NameKey
name_key dir bytes = record { dir = dir; len = length bytes; name = bytes ++ replicate (27 - length bytes) 0 }

-- a number with bytes behind it, scattered at each of them
abbrev pub scattered_on : ℕ → List ℕ → ℕ
scattered_on all [] = all
scattered_on all (byte ∷ bytes) = scattered_on ((all + byte) % 2 ^ 64 * 11400714819323198485 % 2 ^ 64) bytes

-- that of a name: of the directory and the bytes
abbrev pub name_scatter : NameKey → ℕ
name_scatter key = scattered_on (key.dir * 11400714819323198485 % 2 ^ 64) (take (min key.len 27) key.name) / 4294967296

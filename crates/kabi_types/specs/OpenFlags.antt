-- Which numbers are flags of `open`.
use Rattle.std.specs.Prelude.{ℕ, ℤ, pos, negsuc, ◌+◌, Bool, false, not, ◌&&◌, ◌==◌}
use Rattle.std.specs.Int.RustNames.{bit_and}
use Rattle.kabi_types.specs.declared.open_flags.OpenFlags.{OpenFlags}

-- the flags as the number that a script gives
abbrev pub bits_of : OpenFlags → ℕ
bits_of flags = flags.0

-- the access mode's two bits, and O_CREAT, O_EXCL, O_TRUNC, O_APPEND, O_NONBLOCK and O_CLOEXEC
abbrev pub known_flags : ℕ
known_flags = 3 + 64 + 128 + 512 + 1024 + 2048 + 524288

-- no bit is unknown, and the access mode isn't 3
abbrev pub are_open_flags : ℤ → Bool
are_open_flags (pos bits) = (bit_and bits known_flags == bits) && not (bit_and bits 3 == 3)
are_open_flags (negsuc _) = false

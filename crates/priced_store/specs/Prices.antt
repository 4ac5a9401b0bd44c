-- The price list: what each call may take of this store's heap.
use Rattle.std.specs.Prelude.{ℕ, ◌+◌, ◌*◌, ◌/◌, min, if◌then◌else◌, ℤ}
use Rattle.kabi_types.specs.Arguments.{count_of, is_from}
use Rattle.kabi_types.specs.declared.calls.Call.{Call}
use Rattle.kabi_types.specs.declared.calls.Call.TheVariants as call
use Rattle.posix_defs.specs.Needs.{pages_in}

-- In how many groups of 64 the pages of a mapping lie that begins at page 1, the first of an empty space. A space has four.
abbrev pub groups_of : ℤ → ℕ
groups_of length = if is_from 1 length then min 4 (pages_in (count_of length) / 64 + 1) else 0

-- 512 bytes for each group that `mmap` needs; every other call takes nothing
abbrev pub price : Call → ℕ
price (call.Mmap length) = 512 * groups_of length
price _ = 0

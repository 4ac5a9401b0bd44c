-- The bytes that a purse has left, after it spends one object of a class and after it takes one back.
use Rattle.std.proofs.Common.{◌≡◌, ◌+◌, ◌-◌, ◌<◌, arith}
use Rattle.kabi_types.specs.Class.{size}
use Rattle.kabi_types.specs.declared.classes.Class.{Class}
use Rattle.kabi_types.specs.declared.classes.Class.TheVariants as class
use Rattle.kabi_types.specs.declared.classes.Need.{Need}
use Rattle.kabi_types.specs.Counts.{counted, with_count, need_bytes}

-- Each case is tried for every class: that one less is so many bytes less shows that the list of classes has it, and once.
pub need_bytes-less : (need : Need) (class : Class) → 0 < counted need class → need_bytes (with_count need class (counted need class - 1)) + size class ≡ need_bytes need
need_bytes-less need class.Proc some = omega arith
need_bytes-less need _ some = omega arith

pub need_bytes-more : (need : Need) (class : Class) → need_bytes (with_count need class (counted need class + 1)) ≡ need_bytes need + size class
need_bytes-more need class.Proc = omega arith
need_bytes-more need _ = omega arith

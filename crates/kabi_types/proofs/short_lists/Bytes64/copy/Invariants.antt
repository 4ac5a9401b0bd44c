use Rattle.std.proofs.Common.{◌≡◌, take}
use Rattle.kabi_types.proofs.short_lists.Bytes64.copy.Given as goal

-- what was copied so far
abbrev pub invariant-loop-item : goal.invariant-loop-item
invariant-loop-item l = l.bytes.items ≡ take l.item-index l.item-items

use Rattle.std.proofs.Common.{◌≡◌, take}
use Rattle.kabi_types.proofs.short_lists.PollList.copy.Given as goal

-- what was copied so far
abbrev pub invariant-loop-item : goal.invariant-loop-item
invariant-loop-item l = l.entries.items ≡ take l.item-index l.item-items

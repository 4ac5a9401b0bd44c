use Rattle.std.proofs.Common.{◌≡◌, take}
use Rattle.kabi_types.proofs.long_lists.Texts.copy.Given as goal

-- what was copied so far
abbrev pub invariant-loop-text : goal.invariant-loop-text
invariant-loop-text l = l.texts.items ≡ take l.text-index l.text-items

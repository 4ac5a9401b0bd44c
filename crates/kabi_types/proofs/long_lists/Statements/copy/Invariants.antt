use Rattle.std.proofs.Common.{◌≡◌, take}
use Rattle.kabi_types.proofs.long_lists.Statements.copy.Given as goal

-- what was copied so far
abbrev pub invariant-loop-statement : goal.invariant-loop-statement
invariant-loop-statement l = l.statements.items ≡ take l.statement-index l.statement-items

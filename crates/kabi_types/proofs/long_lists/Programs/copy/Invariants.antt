use Rattle.std.proofs.Common.{◌≡◌, take}
use Rattle.kabi_types.proofs.long_lists.Programs.copy.Given as goal

-- what was copied so far
abbrev pub invariant-loop-program : goal.invariant-loop-program
invariant-loop-program l = l.programs.items ≡ take l.program-index l.program-items

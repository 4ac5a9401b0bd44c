use Rattle.std.proofs.Common.{◌≡◌, ◌+◌, ◌≤◌, ◌++◌, map, length}
use Rattle.std.specs.List.{AllByRecursion}
use Rattle.posix_defs.specs.Control.{value_of}
use Rattle.prog_ctl.specs.Runnable.{IsOperand}
use Rattle.prog_ctl.proofs.made.numbers_of.Given as goal

abbrev pub invariant-loop-operand : goal.invariant-loop-operand
invariant-loop-operand l =
    (l.numbers.items ++ map (value_of l.control) l.rest ≡ map (value_of l.control) l.operands)
    × (length l.numbers.items + length l.rest ≤ 17) × AllByRecursion IsOperand l.rest

abbrev pub decreases-loop-operand : goal.decreases-loop-operand
decreases-loop-operand l = length l.rest

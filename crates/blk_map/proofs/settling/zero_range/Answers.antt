use Rattle.std.proofs.Common.{arith}
use Rattle.blk_map.proofs.settling.zero_range.Goals as goal

pub returns-clause-others : goal.returns-clause-others
returns-clause-others g c = λ block none. c.loop-k.invariant.others block (λ j le lt. none j le (omega (arith, le, lt)))

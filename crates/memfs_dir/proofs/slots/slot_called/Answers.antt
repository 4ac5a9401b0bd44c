use Rattle.std.proofs.Common.{arith}
use Rattle.memfs_dir.proofs.slots.slot_called.Goals as goal

pub returns-clause-none : goal.returns-clause-none
returns-clause-none c = λ _ slot lt. c.loop-slot.invariant slot (omega (arith, lt, c.loop-slot-test.false))

use Rattle.lock_table.specs.Chain.{IsLockTable}
use Rattle.part_trials.proofs.locks.take.Given as goal

abbrev pub invariant-loop-step : goal.invariant-loop-step
invariant-loop-step g l = IsLockTable l.heap.locks l.locks

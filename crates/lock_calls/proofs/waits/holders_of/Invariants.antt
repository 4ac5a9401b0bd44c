use Rattle.std.proofs.Common.{◌≡◌}
use Rattle.lock_table.specs.Chain.{HoldsLocks}
use Rattle.posix_defs.specs.Locks.{Locks}
use Rattle.lock_calls.specs.Waiting.{stops_at}
use Rattle.lock_calls.proofs.Rows.{AreBits}
use Rattle.lock_calls.proofs.waits.holders_of.Given as goal

-- the bits of the places before it are told
abbrev pub invariant-loop-other : goal.invariant-loop-other
invariant-loop-other l = record {
  at : l.at ≡ l.other-index;
  bits : (locks : Locks) → HoldsLocks l.objects.heap.locks l.objects.locks locks → AreBits (stops_at locks l.pid l.wanted) l.other-items l.other-index l.holders;
}

use Rattle.std.proofs.Common.{◌/◌, [], None, ap, replicate, subst, sym}
use Rattle.kabi_types.specs.Class.{size}
use Rattle.kabi_types.specs.declared.classes.Class.TheVariants as class
use Rattle.kheap_slabs.specs.Heap.{Heap}
use Rattle.lock_table.specs.Chain.{HoldsLocks}
use Rattle.lock_table.proofs.Tables.{holds_at_boot}
use Rattle.part_trials.proofs.locks.who_stops_whom_is_told.Goals as goal

pub take-requires : goal.take-requires
take-requires c there = (
  [],
  subst (λ os. HoldsLocks os there.new-locks.result []) (sym (ap (λ (h : Heap). h.locks) there.in_ok-heap.ensures.empty))
      (subst (λ f. HoldsLocks (replicate (8192 / size class.Lock) None) f []) (sym there.new-locks.ensures) (holds_at_boot (8192 / size class.Lock))),
)

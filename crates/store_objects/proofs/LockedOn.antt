-- The chain of locks goes on where the heap's locks and its first are the same.
use Rattle.std.proofs.Common.{◌≡◌, ℕ, List, Option, ap, sym, subst}
use Rattle.answer_laws.specs.KeptLocks.{LeavesLocks}
use Rattle.kheap_slabs.specs.declared.objects.Lock.{Lock as HeldLock}
use Rattle.kheap_slabs.specs.Heap.{Heap}
use Rattle.lock_table.specs.Chain.{HoldsLocks, IsLockTable}
use Rattle.kabi_types.specs.declared.replies.Reply.{Reply}
use Rattle.kabi_types.specs.declared.scripts.Script.{Script}
use Rattle.posix_defs.specs.Answer.{Answer}
use Rattle.posix_defs.specs.Locks.{Locks}
use Rattle.posix_defs.specs.Plain.{Plain}
use Rattle.proc_table.specs.Moves.{TableMoves}
use Rattle.store_objects.specs.declared.objects.Objects.{Objects}
use Rattle.store_objects.specs.FileWorlds.{LocksFollow}
use Rattle.store_objects.specs.OpenMoves.{LocksStay}

module _ (old new : Objects) (stay : LocksStay old new) where
  pub holds_on : (locks : Locks) → HoldsLocks old.heap.locks old.locks locks → HoldsLocks new.heap.locks new.locks locks
  holds_on locks holds =
      subst (λ first. HoldsLocks new.heap.locks first locks) (sym stay.first) (subst (λ (shelf : List (Option HeldLock)). HoldsLocks shelf old.locks locks) (sym stay.shelf) holds)

  pub locked_on : IsLockTable old.heap.locks old.locks → IsLockTable new.heap.locks new.locks
  locked_on held = (held.0, holds_on held.0 held.1)

-- so they follow a call that leaves the machine's
pub locks_follow : (script : Script) (old new : Objects) (pid : ℕ) (answer : Plain → Answer) (said : Reply) → LocksStay old new → ((plain : Plain) → LeavesLocks plain (answer plain))
    → LocksFollow script old new pid answer said
locks_follow script old new pid answer said stay leaves = λ world stands sound next is.
    let same : next.files.locks ≡ world.plain.files.locks = subst (LeavesLocks world.plain) is (leaves world.plain) in
    subst (HoldsLocks new.heap.locks new.locks) (sym same) (holds_on old new stay world.plain.files.locks stands.locks)

-- so they stay where a table moves on
pub stay_moved : (old new : Objects) → TableMoves old.heap old.procs new.heap new.procs → new.locks ≡ old.locks → LocksStay old new
stay_moved old new moves first = record { shelf = ap (λ (h : Heap). h.locks) moves.kept; first = first }

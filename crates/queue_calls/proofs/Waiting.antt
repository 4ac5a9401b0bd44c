-- A call that would block leaves the objects as they were.
use Rattle.std.proofs.Common.{◌≡◌, ℕ, subst, sym}
use Rattle.kabi_types.specs.declared.calls.Call.{Call}
use Rattle.kabi_types.specs.declared.scripts.Script.{Script}
use Rattle.kheap_slabs.specs.Heap.{Heap}
use Rattle.posix_defs.specs.Answer.{Answer, Blocked}
use Rattle.posix_defs.specs.Plain.{Plain}
use Rattle.posix_defs.specs.World.{World}
use Rattle.posix_defs.specs.declared.turner.Turned.TheVariants as turned
use Rattle.store_objects.specs.declared.objects.Objects.{Objects}
use Rattle.store_objects.specs.Standing.{Performs, StandsFor, WorldAfter}
use Rattle.store_objects.proofs.Leading.{led_blocked}

pub performs_asleep : (script : Script) (old : Objects) (heap : Heap) (pid : ℕ) (which : Call) (answer : Plain → Answer) → heap ≡ old.heap
    → ((world : World) → StandsFor script old world → answer world.plain ≡ Blocked)
    → Performs script old pid which answer turned.Sleep (record { heap = heap; procs = old.procs; tree = old.tree; names = old.names; fifos = old.fifos; locks = old.locks })
performs_asleep script old heap pid which answer same blocks = λ world stands alive.
    subst (λ a. WorldAfter script (record { heap = heap; procs = old.procs; tree = old.tree; names = old.names; fifos = old.fifos; locks = old.locks }) world pid which a turned.Sleep) (sym (blocks world stands))
    (led_blocked script (record { heap = heap; procs = old.procs; tree = old.tree; names = old.names; fifos = old.fifos; locks = old.locks }) world pid which
    (subst (λ h. StandsFor script (record { heap = h; procs = old.procs; tree = old.tree; names = old.names; fifos = old.fifos; locks = old.locks }) world) (sym same) stands))

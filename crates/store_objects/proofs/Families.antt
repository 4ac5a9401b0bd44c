-- Each family goes on where the heap is the same in its classes and the machine in its part.
use Rattle.std.proofs.Common.{◌≡◌, List, Option, length, unwrap_or, ap, sym, ◌∙◌, subst}
use Rattle.kabi_types.specs.declared.scripts.Control.{Control}
use Rattle.kabi_types.specs.declared.scripts.Script.{Script}
use Rattle.kheap_slabs.specs.declared.objects.Proc.{Proc}
use Rattle.kheap_slabs.specs.Heap.{Heap}
use Rattle.posix_defs.specs.ByPid.{at_pid}
use Rattle.posix_defs.specs.Control.{settled}
use Rattle.posix_defs.specs.Memory.{Frames}
use Rattle.posix_defs.specs.Plain.{Plain, at_start}
use Rattle.posix_defs.specs.Process.{Table}
use Rattle.proc_table.specs.Accounting.{HasAccount}
use Rattle.proc_table.specs.Procs.{proc_of}
use Rattle.proc_table.specs.Standing.{IsTable}
use Rattle.proc_table.specs.Table.{TableView, procs_at}
use Rattle.proc_table.proofs.LawLemmas.{elsewhere_account, elsewhere_table}
use Rattle.store_objects.specs.declared.objects.Objects.{Objects}
use Rattle.store_objects.specs.Standing.{AreProcesses}

-- Procs, Nodes and Pages are the same
pub record SameMemory (old new : Heap) : Type 0 where
  pub procs : new.procs ≡ old.procs
  pub nodes : new.nodes ≡ old.nodes
  pub pages : new.pages ≡ old.pages

-- the processes, where the machine has the same table and the same controls
pub processes_on : (script : Script) (old new : Objects) (plain next : Plain) → new.procs ≡ old.procs → SameMemory old.heap new.heap
    → next.table ≡ plain.table → next.controls ≡ plain.controls → AreProcesses script old plain → AreProcesses script new next
processes_on script old new plain next procs same table controls are = record {
  table = subst (λ (t : Table). IsTable new.heap new.procs t) (sym table)
      (subst (λ (view : TableView). IsTable new.heap view plain.table) (sym procs)
      (elsewhere_table old.heap new.heap old.procs plain.table same.procs same.nodes same.pages are.table));
  last = ap (λ (view : TableView). view.last) procs ∙ are.last ∙ ap length (sym controls);
  controls = λ pid proc found up.
      ap (λ (all : List Control). settled script (unwrap_or (at_pid all pid) (at_start 0))) controls
      ∙ are.controls pid proc
      (ap (λ (view : TableView). proc_of (procs_at old.heap.procs view.listed) pid) (sym procs)
      ∙ ap (λ (objects : List (Option Proc)). proc_of (procs_at objects new.procs.listed) pid) (sym same.procs) ∙ found) up;
}

-- their memory, where the account has the same frames
pub memory_on : (old new : Objects) (frames next : Frames) → new.procs ≡ old.procs → SameMemory old.heap new.heap → next ≡ frames
    → HasAccount old.heap old.procs frames → HasAccount new.heap new.procs next
memory_on old new frames next procs same is has =
    subst (λ (view : TableView). HasAccount new.heap view next) (sym procs)
    (subst (λ (f : Frames). HasAccount new.heap old.procs f) (sym is)
    (elsewhere_account old.heap new.heap old.procs frames same.procs same.nodes same.pages has))

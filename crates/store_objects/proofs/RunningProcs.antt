-- Who is there and runs among the processes.
use Rattle.std.proofs.Common.{◌≡◌, ◌<◌, ◌==◌, not, ℕ, Bool, true, false, cond, List, [], ◌∷◌, Option, None, Some, is_some, refl, ap, sym, ◌∙◌, arith}
use Rattle.std.specs.Prelude.{IsSome}
use Rattle.std.specs.List.{AllByRecursion}
use Rattle.std.specs.Option.{option_map}
use Rattle.kheap_slabs.specs.declared.objects.Proc.{Proc}
use Rattle.kheap_slabs.specs.Heap.{Heap}
use Rattle.kabi_types.specs.declared.scripts.Control.{Control}
use Rattle.kabi_types.specs.declared.scripts.Script.{Script}
use Rattle.posix_defs.specs.Plain.{Plain}
use Rattle.posix_defs.specs.Process.{is_alive, is_alive_in, runs}
use Rattle.proc_numbers.proofs.Listing.{found_by_pid}
use Rattle.proc_table.specs.Procs.{IsAlive, proc_of, process_of, status_of}
use Rattle.proc_table.specs.Table.{key_of}
use Rattle.proc_table.proofs.FamilyLemmas.{process_is}
use Rattle.proc_table.proofs.OwnLemmas.{AreRising}
use Rattle.proc_table.proofs.PlaceLemmas.{eqb_other, eqb_same}
use Rattle.store_objects.specs.declared.objects.Objects.{Objects}
use Rattle.store_objects.specs.Objects.{AreKept, Runs, is_running, procs_of}
use Rattle.store_objects.specs.Standing.{AreProcesses}

runs_in : Option Proc → Bool
runs_in None = false
runs_in (Some proc) = not (is_some proc.status)

found_running : (procs : List Proc) (pid : ℕ) → is_running procs pid ≡ runs_in (proc_of procs pid)
unfolding runs_in
found_running [] pid = refl
found_running (proc ∷ procs) pid = go (proc.pid == pid) (found_running procs pid)
  where
    go : (b : Bool) → is_running procs pid ≡ runs_in (proc_of procs pid)
        → cond b (not (is_some proc.status)) (is_running procs pid) ≡ runs_in (cond b (Some proc) (proc_of procs pid))
    go true rest = refl
    go false rest = rest

-- who is found runs if it has no status
pub running_as : (procs : List Proc) (pid : ℕ) (proc : Proc) (b : Bool) → proc_of procs pid ≡ Some proc → is_some proc.status ≡ b → is_running procs pid ≡ not b
unfolding runs_in
running_as procs pid proc b found is = found_running procs pid ∙ ap runs_in found ∙ ap not is

pub running_none : (procs : List Proc) (pid : ℕ) → proc_of procs pid ≡ None → is_running procs pid ≡ false
unfolding runs_in
running_none procs pid none = found_running procs pid ∙ ap runs_in none

alive_as : (h : Heap) (o : Option Proc) → is_alive_in (option_map (process_of h) o) ≡ runs_in o
unfolding runs_in
alive_as h None = refl
alive_as h (Some proc) = go proc.status
  where
    go : (s : Option ℕ) → runs (status_of s) ≡ not (is_some s)
    go None = refl
    go (Some status) = refl

-- who runs is alive in the machine
pub alive_is : (script : Script) (objects : Objects) (plain : Plain) (pid : ℕ) → AreProcesses script objects plain
    → is_alive plain.table pid ≡ is_running (procs_of objects) pid
alive_is script objects plain pid are =
    ap is_alive_in (process_is objects.heap plain.table (procs_of objects) pid are.table.present)
    ∙ alive_as objects.heap (proc_of (procs_of objects) pid) ∙ sym (found_running (procs_of objects) pid)

no_status : (o : Option ℕ) → not (is_some o) ≡ true → o ≡ None
no_status None e = refl
no_status (Some status) e = cc

-- a live process is in the table and runs
pub running : (procs : List Proc) (pid : ℕ) → is_running procs pid ≡ true → IsAlive procs pid
unfolding runs_in
running procs pid is = go (proc_of procs pid) refl (sym (found_running procs pid) ∙ is)
  where
    go : (o : Option Proc) → proc_of procs pid ≡ o → runs_in (proc_of procs pid) ≡ true → IsAlive procs pid
    go None e up = absurd (let f : false ≡ true = sym (ap runs_in e) ∙ up in cc)
    go (Some proc) e up = record { proc = proc; there = e; runs = no_status proc.status (sym (ap runs_in e) ∙ up) }

pub alive_runs : (script : Script) (objects : Objects) (plain : Plain) (pid : ℕ) → AreProcesses script objects plain
    → is_alive plain.table pid ≡ true → IsAlive (procs_of objects) pid
alive_runs script objects plain pid are alive = running (procs_of objects) pid (sym (alive_is script objects plain pid are) ∙ alive)

-- and who runs is alive
pub alive_there : (script : Script) (objects : Objects) (plain : Plain) (pid : ℕ) (control : Control) → Runs objects pid control
    → AreProcesses script objects plain → is_alive plain.table pid ≡ true
alive_there script objects plain pid control runs are =
    alive_is script objects plain pid are ∙ running_as (procs_of objects) pid runs.proc false runs.found (ap is_some runs.up)

-- the table has its key
pub has_key : (script : Script) (objects : Objects) (pid : ℕ) → AreKept script objects → IsAlive (procs_of objects) pid → IsSome (key_of objects.procs.listed pid)
has_key script objects pid kept alive =
    let found = found_by_pid objects.heap.procs objects.procs.listed pid alive.proc kept.holds.stored alive.there in ap is_some found.named

-- what holds of whoever is found holds of all
pub all_found : (P : Proc → Type 0) (procs : List Proc) (before : ℕ) → AreRising before procs
    → ((pid : ℕ) (proc : Proc) → before < pid → proc_of procs pid ≡ Some proc → P proc) → AllByRecursion P procs
all_found P [] before rising each = tt
all_found P (proc ∷ procs) before rising each = (
  each proc.pid proc rising.0 (ap (λ b. cond b (Some proc) (proc_of procs proc.pid)) (eqb_same proc.pid proc.pid refl)),
  all_found P procs proc.pid rising.1
      (λ pid other above is. each pid other (let first : before < proc.pid = rising.0 in omega arith)
      (ap (λ b. cond b (Some proc) (proc_of procs pid)) (eqb_other proc.pid pid (λ same. omega arith)) ∙ is)),
)

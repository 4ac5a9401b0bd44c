-- Who makes a call.
use Rattle.std.proofs.Common.{◌≡◌, ℕ, true, is_some, refl, ap, sym, ◌∙◌}
use Rattle.proc_table.specs.Procs.{IsAlive, proc_of}
use Rattle.proc_table.specs.Table.{IsPlaced, TableView, key_of}
use Rattle.proc_table.specs.declared.places.Place.{Place}
use Rattle.store_objects.specs.declared.objects.Caller.{Caller}
use Rattle.store_objects.specs.declared.objects.Objects.{Objects}
use Rattle.store_objects.specs.Objects.{IsCaller, Runs, is_running, procs_of}
use Rattle.store_objects.proofs.RunningProcs.{running_as}

-- a caller is that of its own pid
pub caller_of : (objects : Objects) (pid : ℕ) (caller : Caller) → IsCaller objects pid caller → IsCaller objects caller.place.pid caller
caller_of objects pid caller is = record {
  same = refl;
  placed = is.placed;
  proc = is.proc;
  found = ap (proc_of (procs_of objects)) is.same ∙ is.found;
  up = is.up;
  parent = is.parent;
  control = is.control;
}

-- it runs, and stands at its call
pub caller_runs : (objects : Objects) (pid : ℕ) (caller : Caller) → IsCaller objects pid caller → Runs objects pid caller.control
caller_runs objects pid caller is = record { proc = is.proc; found = is.found; up = is.up; at_call = sym is.control }

pub caller_lives : (objects : Objects) (pid : ℕ) (caller : Caller) → IsCaller objects pid caller → IsAlive (procs_of objects) pid
caller_lives objects pid caller is = record { proc = is.proc; there = is.found; runs = is.up }

pub caller_running : (objects : Objects) (pid : ℕ) (caller : Caller) → IsCaller objects pid caller → is_running (procs_of objects) pid ≡ true
caller_running objects pid caller is = running_as (procs_of objects) pid is.proc _ is.found (ap is_some is.up)

-- where the table of processes is the same, who is placed in it is placed
pub placed_on : (old new : Objects) (place : Place) → new.procs ≡ old.procs → IsPlaced old.procs place → IsPlaced new.procs place
placed_on old new place same there = ap (λ (table : TableView). key_of table.listed place.pid) same ∙ there

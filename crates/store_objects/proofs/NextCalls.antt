-- The next call of who is found is the machine's.
use Rattle.std.proofs.Common.{◌≡◌, ℕ, true, Option, None, Some, ap, sym, ◌∙◌}
use Rattle.kabi_types.specs.declared.scripts.Script.{Script}
use Rattle.kheap_slabs.specs.declared.objects.Proc.{Proc}
use Rattle.posix_defs.specs.Control as program
use Rattle.posix_defs.specs.Control.{call_at, statement_of}
use Rattle.posix_defs.specs.Plain.{call_of}
use Rattle.posix_defs.specs.Process.{is_alive}
use Rattle.posix_defs.specs.World.{World}
use Rattle.prog_ctl.proofs.Settling.{rests_settled}
use Rattle.proc_table.specs.Procs.{proc_of}
use Rattle.proc_table.proofs.OwnLemmas.{has_it}
use Rattle.store_objects.specs.declared.objects.Objects.{Objects}
use Rattle.store_objects.specs.Objects.{IsAtCall, procs_of}
use Rattle.store_objects.specs.Standing.{StandsFor}
use Rattle.store_objects.proofs.GoingOn.{some_same}
use Rattle.store_objects.proofs.RunningProcs.{alive_runs}

-- a live process that is found runs
pub up : (script : Script) (objects : Objects) (world : World) (pid : ℕ) (proc : Proc) → StandsFor script objects world → is_alive world.plain.table pid ≡ true
    → proc_of (procs_of objects) pid ≡ Some proc → proc.status ≡ None
up script objects world pid proc stands alive found =
    let runs = alive_runs script objects world.plain pid stands.processes alive in
    ap (λ p. p.status) (some_same (proc_of (procs_of objects) pid) proc runs.proc found runs.there) ∙ runs.runs

pub up_at_call : (script : Script) (objects : Objects) (world : World) (pid : ℕ) (proc : Proc) → StandsFor script objects world → is_alive world.plain.table pid ≡ true
    → proc_of (procs_of objects) pid ≡ Some proc → IsAtCall script proc
up_at_call script objects world pid proc stands alive found =
    has_it (λ p. p.status ≡ None → IsAtCall script p) (procs_of objects) pid proc stands.kept.calls found (up script objects world pid proc stands alive found)

-- its call is the machine's
pub next_is : (script : Script) (objects : Objects) (world : World) (pid : ℕ) (proc : Proc) → StandsFor script objects world → is_alive world.plain.table pid ≡ true
    → proc_of (procs_of objects) pid ≡ Some proc → program.call_of script proc.control ≡ call_of script world.plain pid
next_is script objects world pid proc stands alive found =
    let leads = stands.processes.controls pid proc found (up script objects world pid proc stands alive found) in
    ap (λ here. call_at here (statement_of script here))
    (rests_settled script proc.control (up_at_call script objects world pid proc stands alive found).rests ∙ sym leads)

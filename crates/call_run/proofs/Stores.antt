-- A store goes on to stand for worlds whose machine is reached.
use Rattle.std.proofs.Common.{◌≡◌, ℕ, ◌+◌, ◌≤◌, true, sym, ◌∙◌, subst, arith}
use Rattle.kabi_types.specs.declared.calls.Call.{Call}
use Rattle.kabi_types.specs.declared.scripts.Control.{Control}
use Rattle.kabi_types.specs.declared.scripts.Script.{Script}
use Rattle.kheap_slabs.specs.Heap.{IsWellFormed, live_bytes}
use Rattle.machine_laws.specs.Reached.{IsReached}
use Rattle.posix_defs.specs.Needs.{bound}
use Rattle.posix_defs.specs.Plain.{call_of, control_of}
use Rattle.posix_defs.specs.Process.{is_alive}
use Rattle.posix_defs.specs.Sizes.{reserve}
use Rattle.posix_defs.specs.World.{World, live_of}
use Rattle.store_objects.proofs.NextCalls.{next_is}
use Rattle.store_objects.specs.declared.objects.Caller.{Caller}
use Rattle.store_objects.specs.declared.objects.Objects.{Objects}
use Rattle.store_objects.specs.Objects.{IsCaller}
use Rattle.store_objects.specs.Standing.{IsSound, StandsFor}
use Rattle.store_objects.proofs.Callers.{caller_running}
use Rattle.store_objects.proofs.LiveIs.{live_is}
use Rattle.store_objects.proofs.RunningProcs.{alive_is, alive_runs}
use Rattle.call_run.specs.Families.{HasDone, HasHalf, HasPaths}
use Rattle.call_run.specs.Stores.{IsStoreOf}
use Rattle.call_run.proofs.SettledDone.{settled_done}
use Rattle.call_run.proofs.Sound.{half, sound}
use Rattle.call_run.proofs.Turning.{next_done, next_paths}

-- where no more bytes are taken, what was kept back is
pub store_on : (script : Script) (old new : Objects) (world after : World) → IsStoreOf script old world → IsWellFormed old.heap → StandsFor script new after → IsReached script after.plain → IsWellFormed new.heap
    → live_bytes new.heap ≤ live_bytes old.heap → IsStoreOf script new after
store_on script old new world after was whole stands reached whole_after less = record {
  stands = stands;
  reached = reached;
  spare = few (live_bytes old.heap) (live_bytes new.heap) (live_of world) (live_of after) script.heap (live_is script old world was.stands whole) (live_is script new after stands whole_after) less was.spare;
}
  where
    few : (a b c d size : ℕ) → a ≡ c → b ≡ d → b ≤ a → c + reserve ≤ size → d + reserve ≤ size
    few a b c d size e f less spare = omega (arith, e, f, less, spare)

pub sound_store : (script : Script) (objects : Objects) (world : World) → IsStoreOf script objects world → IsSound world.plain
sound_store script objects world is = sound script world.plain is.stands.valid is.reached

-- ---- a turn

-- a process that is found running makes the call that the machine has it make
module _ (script : Script) (objects : Objects) (world : World) (pid : ℕ) (which : Call) (caller : Caller) (stands : StandsFor script objects world) (reached : IsReached script world.plain)
    (is : IsCaller objects pid caller) (own : is_alive world.plain.table pid ≡ true → which ≡ call_of script world.plain pid) where
  pub turn_alive : is_alive world.plain.table pid ≡ true
  turn_alive = alive_is script objects world.plain pid stands.processes ∙ caller_running objects pid caller is

  pub turn_half : HasHalf world.plain.files caller.place.pid which caller.control.done
  turn_half = subst (λ p. HasHalf world.plain.files p which caller.control.done) (sym is.same)
      (subst (λ (control : Control). HasHalf world.plain.files pid which control.done) (stands.processes.controls pid is.proc is.found is.up ∙ sym is.control)
      (subst (λ n. HasHalf world.plain.files pid which n) (sym (settled_done script (control_of world.plain pid)))
      (subst (λ w. HasHalf world.plain.files pid w (control_of world.plain pid).done) (sym (own turn_alive)) (half script world.plain pid stands.valid reached turn_alive))))

  pub turn_paths : HasPaths which
  turn_paths = subst HasPaths (sym (own turn_alive)) (next_paths script world.plain pid stands.valid)

  pub turn_done : HasDone which caller.control.done
  turn_done = subst (λ (control : Control). HasDone which control.done) (sym is.control) (next_done script objects world pid is.proc which stands turn_alive is.found (own turn_alive))

  -- whatever world they stand for
  pub turn_own : (other : World) → StandsFor script objects other → is_alive other.plain.table pid ≡ true → which ≡ call_of script other.plain pid
  turn_own other also alive =
      own turn_alive ∙ sym (next_is script objects world pid is.proc stands turn_alive is.found) ∙ next_is script objects other pid is.proc also alive is.found

-- who is alive makes the same call in every world that the objects stand for
pub same_call : (script : Script) (objects : Objects) (world other : World) (pid : ℕ) (which : Call) → StandsFor script objects world → StandsFor script objects other
    → (is_alive world.plain.table pid ≡ true → which ≡ call_of script world.plain pid) → is_alive other.plain.table pid ≡ true → which ≡ call_of script other.plain pid
same_call script objects world other pid which stands also own alive =
    let there = alive_is script objects world.plain pid stands.processes ∙ sym (alive_is script objects other.plain pid also.processes) ∙ alive in
    let runs = alive_runs script objects other.plain pid also.processes alive in
    own there ∙ sym (next_is script objects world pid runs.proc stands there runs.there) ∙ next_is script objects other pid runs.proc also alive runs.there

-- there is as much room for each of them
pub same_room : (script : Script) (objects : Objects) (world other : World) (which : Call) → StandsFor script objects world → StandsFor script objects other → IsWellFormed objects.heap
    → live_of world + bound which + reserve ≤ script.heap → live_of other + bound which + reserve ≤ script.heap
same_room script objects world other which stands also whole room =
    same (live_bytes objects.heap) (live_of world) (live_of other) (bound which) script.heap (live_is script objects world stands whole) (live_is script objects other also whole) room
  where
    same : (live a b bytes size : ℕ) → live ≡ a → live ≡ b → a + bytes + reserve ≤ size → b + bytes + reserve ≤ size
    same live a b bytes size e f fits = omega (arith, e, f, fits)

-- What an event may have in the heap at once stays within it.
use Rattle.std.proofs.Common.{◌≡◌, ℕ, ◌+◌, ◌≤◌, lit≤, arith}
use Rattle.kabi_types.specs.declared.calls.Call.{Call}
use Rattle.kabi_types.specs.declared.calls.Call.TheVariants as call
use Rattle.kabi_types.specs.declared.scripts.Script.{Script}
use Rattle.posix_defs.specs.Needs.{slack}
use Rattle.posix_defs.specs.Sizes.{reserve}
use Rattle.posix_defs.specs.CoreState.{CoreState, charged_in, reserved_in}
use Rattle.posix_defs.specs.World.{World, live_of}
use Rattle.kern_tasks.specs.View.{CoreView, IsAt, IsKept}
use Rattle.kern_tasks.proofs.NextRun.{within_heap}

-- no call may use more than the reserve
pub little_slack : (call : Call) → slack call ≤ 2176
little_slack (call.Close _) = lit≤ tt
little_slack (call.Dup2 _ _) = lit≤ tt
little_slack (call.Exec _) = lit≤ tt
little_slack (call.Exit _) = lit≤ tt
little_slack (call.Kill _ _) = lit≤ tt
little_slack (call.Write _ _ _ _) = lit≤ tt
little_slack _ = lit≤ tt

-- between events, what is in use, the reserve, and what is reserved for calls
pub inside : {T : Type 0} (stands_for : T → World → Type 0) (script : Script) (core : CoreView T) (heap run_room task_room : ℕ) (s : CoreState)
    → IsKept stands_for script core heap run_room task_room → IsAt stands_for core s → live_of s.world + reserve + core.reserved ≤ script.heap
inside stands_for script core heap run_room task_room s kept at =
    let within : core.charged ≤ script.heap = within_heap stands_for script core heap run_room task_room kept in
    let charged : charged_in s ≡ core.charged = at.charged in
    let reserved : reserved_in s.tasks ≡ core.reserved = at.reserved in
    omega arith

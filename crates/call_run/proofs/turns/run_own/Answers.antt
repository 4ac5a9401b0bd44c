use Rattle.std.proofs.Common.{◌≡◌, ◌+◌, ◌≤◌, ◌∙◌, ℕ, refl, subst, arith}
use Rattle.kheap_slabs.specs.Heap.{live_bytes}
use Rattle.posix_defs.specs.Machine.{machine}
use Rattle.posix_defs.specs.Needs.{bound}
use Rattle.posix_defs.specs.Sizes.{reserve}
use Rattle.posix_defs.specs.World.{live_of}
use Rattle.store_objects.specs.Objects.{IsCaller}
use Rattle.store_objects.specs.Walking.{Serves}
use Rattle.store_objects.proofs.Callers.{caller_of, caller_running}
use Rattle.store_objects.proofs.LiveIs.{live_is}
use Rattle.store_objects.proofs.RunningProcs.{alive_is}
use Rattle.call_run.proofs.Resting.{nothing_used}
use Rattle.call_run.proofs.Stores.{same_room, sound_store, turn_done, turn_half, turn_own, turn_paths}
use Rattle.call_run.proofs.Worlds.{gone_on, turns_on}
use Rattle.file_calls.specs.Bytes.{ReadsCached}
use Rattle.file_calls.proofs.BytesCached.{nothing_read}
use Rattle.call_run.proofs.turns.run_own.Goals as goal

pub run-turned-requires-clause-caller : goal.run-turned-requires-clause-caller
run-turned-requires-clause-caller c = caller_of c.args.objects.now c.args.pid c.in-Some.caller c.in-Some.ensures.some

pub run-turned-requires-clause-stands : goal.run-turned-requires-clause-stands
run-turned-requires-clause-stands c =
    let may = c.requires.may in (
      may.0,
      may.1.stands,
      sound_store c.args.script.now c.args.objects.now may.0 may.1,
      turn_half c.args.script.now c.args.objects.now may.0 c.args.pid c.args.call.now c.in-Some.caller may.1.stands may.1.reached c.in-Some.ensures.some may.2,
    )

pub run-turned-requires-clause-paths : goal.run-turned-requires-clause-paths
run-turned-requires-clause-paths c =
    let may = c.requires.may in
    turn_paths c.args.script.now c.args.objects.now may.0 c.args.pid c.args.call.now c.in-Some.caller may.1.stands may.1.reached c.in-Some.ensures.some may.2

pub run-turned-requires-clause-so_far : goal.run-turned-requires-clause-so_far
run-turned-requires-clause-so_far c =
    let may = c.requires.may in
    turn_done c.args.script.now c.args.objects.now may.0 c.args.pid c.args.call.now c.in-Some.caller may.1.stands may.1.reached c.in-Some.ensures.some may.2

-- the heap has room for the call
fits : (live bytes size of script : ℕ) → of + bytes + reserve ≤ script → live ≡ of → size ≡ script → live + bytes + reserve ≤ size
fits live bytes size of script may is whole = omega (arith, may, is, whole)

pub run-turned-requires-clause-room : goal.run-turned-requires-clause-room
run-turned-requires-clause-room c =
    let may = c.requires.may in
    fits (live_bytes c.args.objects.now.heap) (bound c.args.call.now) c.args.objects.now.heap.heap (live_of may.0) c.args.script.now.heap
    may.3 (live_is c.args.script.now c.args.objects.now may.0 may.1.stands c.heap_is_well_formed.ensures) may.1.stands.kept.size

pub caller-requires : goal.caller-requires
caller-requires c = let may = c.requires.may in may.1.stands.kept.holds.stored

pub returns-in_default-clause-kept : goal.returns-in_default-clause-kept
returns-in_default-clause-kept c = let may = c.requires.may in may.1.stands.kept

pub returns-in_default-clause-turned : goal.returns-in_default-clause-turned
returns-in_default-clause-turned c = λ world at.
    gone_on c.args.script.now c.args.objects.now world c.args.pid c.args.call.now at
    (alive_is c.args.script.now c.args.objects.now world.plain c.args.pid at.stands.processes ∙ c.caller.ensures.none c.in_default.is)

pub returns-in_default-clause-uses : goal.returns-in_default-clause-uses
returns-in_default-clause-uses c = nothing_used c.args.objects.now.heap _ _

pub returns-clause-turned : goal.returns-clause-turned
returns-clause-turned c = λ world at.
    let script = c.args.script.now in
    let pid = c.args.pid in
    let which = c.args.call.now in
    let may = c.requires.may in
    let old = c.args.objects.now in
    let new = c.run-turned.new.objects in
    let caller : IsCaller old pid c.in-Some.caller = c.in-Some.ensures.some in
    let alive = alive_is script old world.plain pid at.stands.processes ∙ caller_running old pid c.in-Some.caller caller in
    let own = turn_own script old may.0 pid which c.in-Some.caller may.1.stands may.1.reached caller may.2 world at.stands alive in
    let room = same_room script old may.0 world which may.1.stands at.stands c.heap_is_well_formed.ensures may.3 in
    let live : live_bytes old.heap ≡ live_of world = live_is script old world at.stands c.heap_is_well_formed.ensures in
    let does : Serves script old pid which (λ plain. machine script plain pid which) c.run-turned.result new =
    subst (λ p. Serves script old p which (λ plain. machine script plain p which) c.run-turned.result new) caller.same c.run-turned.ensures.does in
    turns_on script old new world pid which c.run-turned.result alive at.reached own room live c.heap_is_well_formed-2.ensures c.run-turned.ensures.uses.live
    (does world at.stands (sound_store script old world at) alive)

pub returns-in_default-clause-cached : goal.returns-in_default-clause-cached
returns-in_default-clause-cached c = nothing_read c.args.objects.now c.args.objects.now c.args.pid c.args.call.now _ refl refl

pub returns-clause-cached : goal.returns-clause-cached
returns-clause-cached c =
    let caller : IsCaller c.args.objects.now c.args.pid c.in-Some.caller = c.in-Some.ensures.some in
    subst (λ p. ReadsCached c.args.objects.now p c.args.call.now c.run-turned.result c.run-turned.new.objects) caller.same c.run-turned.ensures.cached

use Rattle.std.proofs.Common.{◌≡◌, ◌+◌, ◌≤◌, ◌∙◌, ℕ, true, false, ap, is_some, sym, arith}
use Rattle.kheap_slabs.specs.Heap.{live_bytes}
use Rattle.posix_defs.specs.Sizes.{reserve}
use Rattle.posix_defs.specs.World.{live_of}
use Rattle.store_objects.specs.Objects.{procs_of}
use Rattle.store_objects.proofs.LiveIs.{live_is}
use Rattle.store_objects.proofs.RunningProcs.{alive_is, running}
use Rattle.call_run.proofs.Killing.{kills_in}
use Rattle.call_run.proofs.Resting.{nothing_used}
use Rattle.call_run.proofs.Stores.{sound_store}
use Rattle.call_run.proofs.turns.end_other.Goals as goal
use Rattle.call_run.proofs.turns.end_other.Goals.{then-pid-eq-INIT-via-then-pid-eq-INIT, then-pid-eq-INIT-via-else-pid-eq-INIT+then-not-runs}

never : {X : Type 0} → true ≡ false → X
never e = cc

pub runs-requires : goal.runs-requires
runs-requires c = let stood = c.requires in stood.2.stands.kept.holds.stored

pub returns-then-pid-eq-INIT-clause-kept : goal.returns-then-pid-eq-INIT-clause-kept
returns-then-pid-eq-INIT-clause-kept c = λ script world at. at.stands.kept

pub returns-then-pid-eq-INIT-clause-gone : goal.returns-then-pid-eq-INIT-clause-gone
returns-then-pid-eq-INIT-clause-gone c = λ script world at _. at

pub returns-then-pid-eq-INIT-clause-first : goal.returns-then-pid-eq-INIT-clause-first
returns-then-pid-eq-INIT-clause-first c = λ script world at _. at

pub returns-then-pid-eq-INIT-clause-uses : goal.returns-then-pid-eq-INIT-clause-uses
returns-then-pid-eq-INIT-clause-uses c = nothing_used c.args.objects.now.heap 0 reserve

pub returns-then-pid-eq-INIT-clause-killed : goal.returns-then-pid-eq-INIT-clause-killed
returns-then-pid-eq-INIT-clause-killed c = λ script world at alive other.
    let lives = alive_is script c.args.objects.now world.plain c.args.pid at.stands.processes in
    elim c.then-pid-eq-INIT.branch [
      | then-pid-eq-INIT-via-then-pid-eq-INIT w ↦ absurd (other w.if-pid-eq-INIT.true)
      | then-pid-eq-INIT-via-else-pid-eq-INIT+then-not-runs w ↦ never (sym alive ∙ lives ∙ sym w.runs.ensures ∙ w.if-not-runs.true)
    ]

pub key_there-key-requires-clause-stored : goal.key_there-key-requires-clause-stored
key_there-key-requires-clause-stored c = let stood = c.requires in stood.2.stands.kept.holds.stored

pub key_there-key-requires-clause-there : goal.key_there-key-requires-clause-there
key_there-key-requires-clause-there c = ap is_some (running (procs_of c.args.objects.now) c.args.pid (sym c.runs.ensures ∙ c.if-not-runs.false)).there

pub end-requires-clause-stands : goal.end-requires-clause-stands
end-requires-clause-stands c =
    let stood = c.requires in
    (stood.0, stood.1, stood.2.stands, sound_store stood.0 c.args.objects.now stood.1 stood.2)

pub end-requires-clause-alive : goal.end-requires-clause-alive
end-requires-clause-alive c = running (procs_of c.args.objects.now) c.args.pid (sym c.runs.ensures ∙ c.if-not-runs.false)

-- what is kept back is free
fits : (live size of script : ℕ) → of + reserve ≤ script → live ≡ of → size ≡ script → live + reserve ≤ size
fits live size of script may is whole = omega (arith, may, is, whole)

pub end-requires-clause-room : goal.end-requires-clause-room
end-requires-clause-room c =
    let stood = c.requires in
    fits (live_bytes c.args.objects.now.heap) c.args.objects.now.heap.heap (live_of stood.1) stood.0.heap
    stood.2.spare (live_is stood.0 c.args.objects.now stood.1 stood.2.stands c.heap_is_well_formed.ensures) stood.2.stands.kept.size

pub returns-clause-kept : goal.returns-clause-kept
returns-clause-kept c = λ script world at.
    let led = c.end.ensures.dies script world at.stands (sound_store script c.args.objects.now world at) in led.stands.kept

pub returns-clause-killed : goal.returns-clause-killed
returns-clause-killed c = λ script world at _ _.
    let old = c.args.objects.now in
    let led = c.end.ensures.dies script world at.stands (sound_store script old world at) in
    let less : live_bytes c.end.new.objects.heap ≤ live_bytes old.heap + 0 = c.end.ensures.uses.live in
    kills_in script old c.end.new.objects world c.args.pid at c.heap_is_well_formed.ensures led c.heap_is_well_formed-2.ensures (no_more (live_bytes old.heap) (live_bytes c.end.new.objects.heap) less)
  where
    no_more : (a b : ℕ) → b ≤ a + 0 → b ≤ a
    no_more a b less = omega (arith, less)

pub returns-clause-gone : goal.returns-clause-gone
returns-clause-gone c = λ script world at dead.
    never (sym c.if-not-runs.false ∙ c.runs.ensures ∙ sym (alive_is script c.args.objects.now world.plain c.args.pid at.stands.processes) ∙ dead)

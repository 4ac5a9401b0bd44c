-- What is charged stays within the heap, over every run.
use Rattle.std.proofs.Common.{◌≡◌, ◌≢◌, ℕ, ◌+◌, ◌-◌, ◌≤◌, List, refl, ap, sym, ◌∙◌, subst, arith, inl, inr, ◌<◌}
use Rattle.kabi_types.specs.declared.entries.Event.{Event}
use Rattle.kabi_types.specs.declared.entries.Event.TheVariants.{Ask, Admit, Turn, Wake, Abandon, Evict, Kill}
use Rattle.kabi_types.specs.declared.entries.Noted.{Noted}
use Rattle.kabi_types.specs.declared.scripts.Script.{Script}
use Rattle.posix_defs.specs.declared.phases.Asked.{Asked}
use Rattle.posix_defs.specs.declared.phases.Phase.{Phase}
use Rattle.posix_defs.specs.declared.phases.Phase.TheVariants.{User, Waiting, Admitted, Asleep, Stranded, Dead}
use Rattle.posix_defs.specs.declared.turner.Turned.{Turned}
use Rattle.posix_defs.specs.declared.turner.Turned.TheVariants as turned
use Rattle.posix_defs.specs.Needs.{bound}
use Rattle.posix_defs.specs.Sizes.{fixed, reserve}
use Rattle.posix_defs.specs.Plain.{last_pid}
use Rattle.posix_defs.specs.Files.Descriptors.{none_open}
use Rattle.posix_defs.specs.Memory.{no_places}
use Rattle.posix_defs.specs.World.{live_of}
use Rattle.posix_defs.specs.CoreState.{CoreState, asked_by, charged_in, held, next_call, phase_of, reserved_in, with_phase, with_phase_in}
use Rattle.posix_defs.specs.CoreEvent.{StepsBy, Turns, buried, phase_after, tasks_without}
use Rattle.posix_defs.specs.SoundTasks.{IsSound}
use Rattle.kern_laws.proofs.Tasks.{found_fits, reserved_with, reserved_without}
use Rattle.kern_laws.proofs.BuriedTasks.{reserved_born, reserved_buried}
use Rattle.kern_laws.proofs.Sounds.{is_sound}
use Rattle.posix_defs.specs.CoreRun.{IsRunBy, boots, goes_on}
use Rattle.kern_laws.proofs.Caches.{less_live}

-- what was reserved for a call covers what its turn adds to the heap
turn_within : (live live' reserved reserved' bound heap : ℕ) → live' ≤ live + bound → reserved' + bound ≡ reserved
    → live + reserve + reserved ≤ heap → live' + reserve + reserved' ≤ heap
turn_within live live' reserved reserved' bound heap grows falls within = omega arith

-- a task that leaves its reserve as it is
phase_within : (old : CoreState) (pid heap : ℕ) (before phase : Phase) → phase_of old pid ≡ before → Dead ≢ before → held before ≡ held phase
    → charged_in old ≤ heap → charged_in (with_phase old pid phase) ≤ heap
phase_within old pid heap before phase is other same within =
    let changed : reserved_in (with_phase_in old.tasks pid phase) + held before ≡ reserved_in old.tasks + held phase =
    reserved_with old.tasks pid before phase is other in
    omega arith

-- a turn leaves nothing in reserve for its call
pub nothing_held : (asked : Asked) (told : Turned) → held (phase_after asked told) ≡ 0
nothing_held asked (turned.Done _) = refl
nothing_held asked (turned.Part _) = refl
nothing_held asked turned.Sleep = refl
nothing_held asked (turned.Ended _) = refl
nothing_held asked turned.Gone = refl

-- what is in reserve behind a turn
pub turn_reserved : (script : Script) (old : CoreState) (pid : ℕ) (noted : Noted) (new : CoreState) (step : Turns script old pid noted new)
    → reserved_in new.tasks + step.enabled.asked.bound ≡ reserved_in old.tasks
turn_reserved script old pid noted new step =
    let after = new.world.plain in
    let phase = phase_after (asked_by script after pid) step.told in
    let changed : reserved_in (with_phase_in old.tasks pid phase) + held (Admitted step.enabled.asked) ≡ reserved_in old.tasks + held phase =
    reserved_with old.tasks pid (Admitted step.enabled.asked) phase step.enabled.is (λ e. (cc)) in
    let none : held phase ≡ 0 = nothing_held (asked_by script after pid) step.told in
    let same : reserved_in new.tasks ≡ reserved_in (with_phase_in old.tasks pid phase) =
    ap reserved_in step.tasks ∙ reserved_born (buried after (with_phase_in old.tasks pid phase)) (last_pid old.world.plain + 1) (last_pid after - last_pid old.world.plain)
    ∙ reserved_buried after (with_phase_in old.tasks pid phase) in
    omega arith

step_within : (script : Script) (old : CoreState) (event : Event) (noted : Noted) (new : CoreState)
    → StepsBy script old event noted new → IsSound script old → charged_in old ≤ script.heap → charged_in new ≤ script.heap
step_within script old (Ask pid) noted new step sound within = elim step [
  | inl asks ↦ subst (λ s. charged_in s ≤ script.heap) (sym asks.after)
      (phase_within old pid script.heap User (Waiting (asked_by script old.world.plain pid)) asks.enabled (λ e. (cc)) refl within)
  | inr refuses ↦ subst (λ s. charged_in s ≤ script.heap) (sym refuses.after)
      (phase_within old pid script.heap User User refuses.enabled (λ e. (cc)) refl within)
]
step_within script old (Admit pid) noted new step sound within =
    let asked = step.enabled.waits.asked in
    let changed : reserved_in (with_phase_in old.tasks pid (Admitted asked)) + held (Waiting asked) ≡ reserved_in old.tasks + held (Admitted asked) =
    reserved_with old.tasks pid (Waiting asked) (Admitted asked) step.enabled.waits.is (λ e. (cc)) in
    subst (λ s. charged_in s ≤ script.heap) (sym step.after) (let room : charged_in old + asked.bound ≤ script.heap = step.enabled.room in omega arith)
step_within script old (Turn pid) noted new step sound within =
    let asked = step.enabled.asked in
    let fits = found_fits script old.world.plain old.tasks pid (Admitted asked) sound.each step.enabled.is (λ e. (cc)) in
    let same : asked.bound ≡ bound (next_call script old pid) = ap (λ a. a.bound) fits.phase.1.same in
    turn_within (live_of old.world) (live_of new.world) (reserved_in old.tasks) (reserved_in new.tasks) asked.bound script.heap
    (subst (λ n. live_of new.world ≤ live_of old.world + n) (sym same) step.answers.live) (turn_reserved script old pid noted new step) within
step_within script old (Wake pid) noted new step sound within =
    let asked = step.enabled.sleeps.asked in
    subst (λ s. charged_in s ≤ script.heap) (sym step.after)
    (phase_within old pid script.heap (Asleep asked) (Waiting asked) step.enabled.sleeps.is (λ e. (cc)) refl within)
step_within script old (Abandon pid) noted new step sound within =
    let asked = step.enabled.asked in
    let fewer : reserved_in (tasks_without old.tasks pid) + held (Stranded asked) ≡ reserved_in old.tasks =
    reserved_without old.tasks pid (Stranded asked) step.enabled.is (λ e. (cc)) in
    subst (λ s. charged_in s ≤ script.heap) (sym step.after) (omega arith)
step_within script old (Evict what) noted new step sound within =
    let same : reserved_in new.tasks ≡ reserved_in old.tasks = ap reserved_in step.tasks in
    let less : live_of new.world < live_of old.world = less_live old.world what new.world step.evicts in
    omega arith
step_within script old (Kill pid) noted new step sound within =
    let same : reserved_in new.tasks ≡ reserved_in old.tasks = ap reserved_in step.tasks ∙ reserved_buried new.world.plain old.tasks in
    let less : live_of new.world ≤ live_of old.world = step.kills.live in
    omega arith

pub charged_within : {rule : ℕ → CoreState → Event → Type 0} {script : Script} {steps : ℕ} {run : List Noted} {s : CoreState} → IsRunBy rule script steps run s
    → fixed ≤ script.heap → charged_in s ≤ script.heap
unfolding no_places none_open
charged_within boots enough = enough
charged_within {script = script} (goes_on run old new noted before ends follows step) enough =
    step_within script old noted.event noted new step (is_sound before) (charged_within before enough)

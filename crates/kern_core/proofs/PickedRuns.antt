-- A run that goes by the rule of choice.
use Rattle.std.proofs.Common.{◌≡◌, ℕ, zero, suc, ◌+◌, ◌≤◌, List, [], ◌∷◌, ◌++◌, length, Option, None, Some, inl, inr, refl, ap, sym, ◌∙◌, subst, arith, length-append}
use Rattle.kabi_types.specs.declared.entries.End.{End}
use Rattle.kabi_types.specs.declared.entries.Event.{Event}
use Rattle.kabi_types.specs.declared.entries.Noted.{Noted}
use Rattle.kabi_types.specs.declared.scripts.Chooser.{Chooser}
use Rattle.kabi_types.specs.declared.scripts.Script.{Script}
use Rattle.posix_defs.specs.World.{World}
use Rattle.posix_defs.specs.CoreState.{CoreState, boot_state, reserved_in}
use Rattle.posix_defs.specs.SoundTasks.{IsSound}
use Rattle.posix_defs.specs.Ends.{end_of}
use Rattle.posix_defs.specs.Choice.{chosen, named_by}
use Rattle.posix_defs.specs.Generator.{next_state, state_after}
use Rattle.posix_defs.specs.CoreRun.{IsPickedRun}
use Rattle.posix_defs.specs.CoreRun as picked
use Rattle.kern_laws.proofs.Picking.{named_is_enabled}
use Rattle.kern_laws.proofs.Sounds.{is_sound}
use Rattle.kern_tasks.specs.View.{CoreView, IsAt, CanTake, HasBooted, MayTake, StaysInside, Took}
use Rattle.kern_core.specs.declared.choosing.Choosing.{Choosing}
use Rattle.kern_core.specs.Choosing.{given}
use Rattle.kern_core.specs.RunOver.{HasEndedOver, HasRunOver, IsRunOver, LeavesWithin, boots, goes_on}

-- the generator goes on in the same way from a later state
pub state_later : (x i : ℕ) → state_after (next_state x) i ≡ next_state (state_after x i)
state_later x zero = refl
state_later x (suc i) = ap next_state (state_later x i)

-- who chooses the events behind so many chooses them as the chooser of the script does
abbrev pub ChoosesFrom : Choosing → Chooser → ℕ → Type 0
ChoosesFrom choosing chooser taken = (i : ℕ) → given choosing i ≡ chosen chooser (suc (taken + i))

-- one event further
pub chooses_more : (choosing rest : Choosing) (chooser : Chooser) (old new : List Noted) (noted : Noted) → ChoosesFrom choosing chooser (length old)
    → ((i : ℕ) → given rest i ≡ given choosing (suc i)) → new ≡ old ++ noted ∷ [] → ChoosesFrom rest chooser (length new)
chooses_more choosing rest chooser old new noted before later longer = λ i.
    let many : length new ≡ length old + 1 = ap length longer ∙ length-append old (noted ∷ []) in
    later i ∙ before (suc i) ∙ ap (chosen chooser) (let places : suc (length old + suc i) ≡ suc (length new + i) = omega (arith, many) in places)

-- the number of the next event
pub chooses_next : (choosing : Choosing) (chooser : Chooser) (taken : ℕ) → ChoosesFrom choosing chooser taken → given choosing 0 ≡ chosen chooser (taken + 1)
chooses_next choosing chooser taken chooses = chooses 0 ∙ ap (chosen chooser) (let next : suc (taken + 0) ≡ taken + 1 = omega arith in next)

-- what a run over a store says of its events alone
pub is_picked : {T : Type 0} {stands_for : T → World → Type 0} {marks high : T → ℕ} {script : Script} {steps : ℕ} {run : List Noted} {s : CoreState} {store : T}
    → IsRunOver stands_for marks high script steps run s store → IsPickedRun script steps run s
is_picked (boots store stands) = picked.boots
is_picked (goes_on run old new before after noted runs no_end chosen leads stands within) = picked.goes_on run old new noted (is_picked runs) no_end chosen leads

-- and of its store
pub is_stood_for : {T : Type 0} {stands_for : T → World → Type 0} {marks high : T → ℕ} {script : Script} {steps : ℕ} {run : List Noted} {s : CoreState} {store : T}
    → IsRunOver stands_for marks high script steps run s store → stands_for store s.world
is_stood_for (boots store stands) = stands
is_stood_for (goes_on run old new before after noted runs no_end chosen leads stands within) = stands

pub over_boot : {T : Type 0} (stands_for : T → World → Type 0) (marks high : T → ℕ) (script : Script) (core : CoreView T) → HasBooted stands_for script core
    → HasRunOver stands_for marks high script core
over_boot stands_for marks high script core booted = record {
  state = boot_state script;
  is_at = booted.is_at;
  runs = subst (λ run. IsRunOver stands_for marks high script core.steps run (boot_state script) core.store) (sym booted.run) (boots core.store booted.is_at.stands);
}

-- what an event did to the store, in the words of the state that it leads to
leaves_within : {T : Type 0} (stands_for : T → World → Type 0) (marks high : T → ℕ) (heap : ℕ) (old new : CoreView T) (s : CoreState) → IsAt stands_for new s
    → StaysInside marks high heap old new → LeavesWithin marks high heap (reserved_in s.tasks) old.store new.store
leaves_within stands_for marks high heap old new s at (inl same) = inl same
leaves_within stands_for marks high heap old new s at (inr inside) = inr record {
  marked = inside.marked;
  within = subst (λ reserved. high new.store + reserved ≤ heap) (sym at.reserved) inside.within;
}

-- the run is one event longer
pub over_more : {T : Type 0} (stands_for : T → World → Type 0) (marks high : T → ℕ) (script : Script) (old new : CoreView T) (event : Event) (noted : Noted) (number : Option ℕ)
    → HasRunOver stands_for marks high script old → number ≡ chosen script.chooser (length old.run + 1)
    → ((s : CoreState) → IsAt stands_for old s → IsSound script s → end_of script old.steps (length old.run) s ≡ None)
    → ((s : CoreState) → IsAt stands_for old s → IsSound script s → named_by number script s ≡ Some event)
    → Took stands_for script old event noted new → StaysInside marks high script.heap old new → HasRunOver stands_for marks high script new
over_more stands_for marks high script old new event noted number before chooses no_end names took inside =
    let sound = is_sound (is_picked before.runs) in
    let named = names before.state before.is_at sound in
    let led = took.leads before.state before.is_at (named_is_enabled script before.state event number sound named) sound in
    let picked = ap (λ n. named_by n script before.state) (sym chooses) ∙ named ∙ ap Some (sym took.taken) in
    record {
      state = led.0;
      is_at = led.1;
      runs = subst (λ run. IsRunOver stands_for marks high script new.steps run led.0 new.store) (sym took.run)
          (subst (λ steps. IsRunOver stands_for marks high script steps (old.run ++ noted ∷ []) led.0 new.store) (sym took.steps)
          (goes_on old.run before.state led.0 old.store new.store noted before.runs (no_end before.state before.is_at sound) picked led.2 led.1.stands
          (leaves_within stands_for marks high script.heap old new led.0 led.1 inside)));
    }

-- an event that can be taken may be, where no end stands
pub may_take : {T : Type 0} (stands_for : T → World → Type 0) (script : Script) (core : CoreView T) (event : Event) → CanTake stands_for script core event
    → ((s : CoreState) → IsAt stands_for core s → IsSound script s → end_of script core.steps (length core.run) s ≡ None) → MayTake stands_for script core event
may_take stands_for script core event can no_end = record {
  state = can.state;
  is_at = can.is_at;
  runs = can.runs;
  enabled = can.enabled;
  no_end = no_end can.state can.is_at (is_sound can.runs);
}

-- the run has ended, and went by the rule of choice
pub has_ended : {T : Type 0} (stands_for : T → World → Type 0) (marks high : T → ℕ) (script : Script) (core : CoreView T) (end : End) → HasRunOver stands_for marks high script core
    → ((s : CoreState) → IsAt stands_for core s → IsSound script s → Some end ≡ end_of script core.steps (length core.run) s)
    → HasEndedOver stands_for marks high script core end
has_ended stands_for marks high script core end ran ends = record {
  state = ran.state;
  is_at = ran.is_at;
  runs = ran.runs;
  ends = sym (ends ran.state ran.is_at (is_sound (is_picked ran.runs)));
}

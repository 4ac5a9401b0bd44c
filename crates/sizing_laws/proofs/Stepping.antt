-- Under two heaps that have what a state and an event ask for, the event leads to the same.
use Rattle.std.proofs.Common.{◌≡◌, ℕ, ◌+◌, ◌≤◌, ◌<◌, true, false, inl, inr, refl, ap, sym, ◌∙◌, subst, arith}
use Rattle.kabi_types.specs.declared.calls.Call.{Call}
use Rattle.kabi_types.specs.declared.entries.Event.{Event}
use Rattle.kabi_types.specs.declared.entries.Event.TheVariants.{Ask, Admit, Turn, Wake, Abandon, Evict, Kill}
use Rattle.kabi_types.specs.declared.entries.Noted.{Noted}
use Rattle.kabi_types.specs.declared.scripts.Script.{Script}
use Rattle.posix_defs.specs.declared.phases.Phase.TheVariants.{Waiting}
use Rattle.posix_defs.specs.declared.turner.Turned.{Turned}
use Rattle.posix_defs.specs.CoreEvent.{Admits, Asks, StepsBy}
use Rattle.posix_defs.specs.CoreState.{CoreState, asked_by, charged_in}
use Rattle.posix_defs.specs.Licence.{is_licensed}
use Rattle.posix_defs.specs.Sizes.{fixed, room}
use Rattle.posix_defs.specs.Turn.{Answers, Tells, account_after}
use Rattle.posix_defs.specs.World.{World}
use Rattle.sizing_laws.specs.Demand.{demand_at, demand_of, is_kill, wants, with_heap}
use Rattle.sizing_laws.proofs.Choosing.{unlicensed}
use Rattle.sizing_laws.proofs.Fitting.{phase_within}
use Rattle.sizing_laws.proofs.Machines.{same_block, same_machine}

-- a bound beside what is held from the start is within the room, and the other way round
pub in_room : (bound heap : ℕ) → fixed + bound ≤ heap → bound ≤ room heap
in_room bound heap within = omega arith

pub beside_fixed : (bound heap : ℕ) → fixed ≤ heap → bound ≤ room heap → fixed + bound ≤ heap
beside_fixed bound heap enough within = omega arith

never_refused : (bound heap : ℕ) → fixed + bound ≤ heap → room heap < bound → ⊥
never_refused bound heap within above = omega arith

same_answers : (script : Script) (heap : ℕ) (old : World) (pid : ℕ) (call : Call) (told : Turned) (new : World) → Answers script old pid call told new
    → Answers (with_heap script heap) old pid call told new
same_answers script heap old pid call told new answers = record {
  answer = subst (λ answer. Tells answer old.plain told new.plain) (sym (same_machine script heap old.plain pid call)) answers.answer;
  account = answers.account ∙ ap (λ answer. account_after old.account old.plain pid call answer) (sym (same_machine script heap old.plain pid call));
  may_keep = answers.may_keep;
  live = answers.live;
  names = answers.names;
  blocks = answers.blocks;
  vnodes = answers.vnodes;
  reads = answers.reads;
  untouched = answers.untouched;
  left = answers.left;
  known = answers.known;
}

asks_so : (script : Script) (heap : ℕ) (old : CoreState) (pid : ℕ) (noted : Noted) (new : CoreState)
    → fixed + (asked_by script old.world.plain pid).bound ≤ heap → Asks script old pid noted new → Asks (with_heap script heap) old pid noted new
asks_so script heap old pid noted new below asks = record {
  enabled = asks.enabled;
  fits_ever = in_room (asked_by script old.world.plain pid).bound heap below;
  after = asks.after;
  noted_so = asks.noted_so;
}

admits_so : (script : Script) (heap : ℕ) (old : CoreState) (pid : ℕ) (noted : Noted) (new : CoreState) → demand_of old ≤ heap
    → Admits script old pid noted new → Admits (with_heap script heap) old pid noted new
admits_so script heap old pid noted new below admits = record {
  enabled = record {
    waits = admits.enabled.waits;
    room = (
        let asks : wants (charged_in old) (Waiting admits.enabled.waits.asked) ≤ demand_of old =
        subst (λ phase. wants (charged_in old) phase ≤ demand_of old) admits.enabled.waits.is (phase_within (charged_in old) old.tasks pid) in
        let within : charged_in old + admits.enabled.waits.asked.bound ≤ demand_of old = asks in
        omega arith
        );
  };
  after = admits.after;
  noted_so = admits.noted_so;
}

pub same_step : (script : Script) (heap : ℕ) (old : CoreState) (event : Event) (noted : Noted) (new : CoreState)
    → demand_of old ≤ script.heap → demand_of old ≤ heap → demand_at script old event ≤ script.heap → demand_at script old event ≤ heap
    → StepsBy script old event noted new → StepsBy (with_heap script heap) old event noted new
same_step script heap old (Ask pid) noted new within below asked_within asked_below step = elim step [
  | inl asks ↦ inl (asks_so script heap old pid noted new asked_below asks)
  | inr refuses ↦ absurd (never_refused (asked_by script old.world.plain pid).bound script.heap asked_within refuses.never_fits)
]
same_step script heap old (Admit pid) noted new within below asked_within asked_below step = admits_so script heap old pid noted new below step
same_step script heap old (Turn pid) noted new within below asked_within asked_below step = record {
  enabled = step.enabled;
  told = step.told;
  answers = same_answers script heap old.world pid _ step.told new.world step.answers;
  tasks = step.tasks;
  noted_so = step.noted_so;
}
same_step script heap old (Wake pid) noted new within below asked_within asked_below step = record {
  enabled = record { sleeps = step.enabled.sleeps; ready = same_block script heap old.world.plain pid ∙ step.enabled.ready };
  after = step.after;
  noted_so = step.noted_so;
}
same_step script heap old (Abandon pid) noted new within below asked_within asked_below step = record {
  enabled = step.enabled;
  after = step.after;
  noted_so = step.noted_so;
}
same_step script heap old (Evict what) noted new within below asked_within asked_below step = record {
  enabled = step.enabled;
  evicts = step.evicts;
  tasks = step.tasks;
  noted_so = step.noted_so;
}
same_step script heap old (Kill pid) noted new within below asked_within asked_below step = absurd (
    let never : is_licensed script old ≡ false = unlicensed script old within in
    let may : is_licensed script old ≡ true = step.enabled.licensed in
    cc
    )

pub no_kill : (script : Script) (old : CoreState) (event : Event) (noted : Noted) (new : CoreState) → demand_of old ≤ script.heap
    → StepsBy script old event noted new → is_kill event ≡ false
no_kill script old (Ask pid) noted new within step = refl
no_kill script old (Admit pid) noted new within step = refl
no_kill script old (Turn pid) noted new within step = refl
no_kill script old (Wake pid) noted new within step = refl
no_kill script old (Abandon pid) noted new within step = refl
no_kill script old (Evict what) noted new within step = refl
no_kill script old (Kill pid) noted new within step = absurd (
    let never : is_licensed script old ≡ false = unlicensed script old within in
    let may : is_licensed script old ≡ true = step.enabled.licensed in
    cc
    )

-- A call goes from one phase to another: what the event that admits it and the one that wakes it have in common.
use Rattle.std.proofs.Common.{◌≡◌, ◌≢◌, ℕ, ◌+◌, max, List, [], ◌∷◌, ◌++◌, length, None, refl, ap, sym, ◌∙◌, subst, arith}
use Rattle.kabi_types.specs.declared.entries.Event.{Event}
use Rattle.kabi_types.specs.declared.entries.Event.TheVariants.{Admit, Wake}
use Rattle.kabi_types.specs.declared.entries.Noted.{Noted}
use Rattle.kabi_types.specs.declared.scripts.Script.{Script}
use Rattle.posix_defs.specs.declared.phases.Asked.{Asked}
use Rattle.posix_defs.specs.declared.phases.Phase.{Phase}
use Rattle.posix_defs.specs.declared.phases.Phase.TheVariants.{Waiting, Admitted, Asleep, Dead}
use Rattle.posix_defs.specs.declared.phases.Task.{Task}
use Rattle.posix_defs.specs.World.{World}
use Rattle.posix_defs.specs.CoreState.{CoreState, charged_in, held, phase_in, reserved_in, with_phase, with_phase_in}
use Rattle.posix_defs.specs.CoreEvent.{Steps}
use Rattle.posix_defs.specs.Enabled.{IsEnabled, IsIn}
use Rattle.kern_laws.proofs.Tasks.{length-with, reserved_with}
use Rattle.kern_tasks.specs.View.{CoreView, IsAt, IsKept, MayTake, Takes}
use Rattle.kern_tasks.proofs.NextRun.{kept_next, said, same_asked, takes_all}

-- The event takes a call of the process from one phase to another, wherever it may be taken.
pub record Passes (event : Event) (pid : ℕ) (from to : Asked → Phase) : Type 0 where
  pub apart : (a b : Asked) → from a ≡ from b → a ≡ b
  pub lives : (asked : Asked) → Dead ≢ from asked
  pub is_in : (script : Script) (s : CoreState) → IsEnabled script s event → IsIn s pid from
  pub steps : (script : Script) (s t : CoreState) (asked : Asked) (enabled : IsEnabled script s event) → (is_in script s enabled).asked ≡ asked
      → t ≡ with_phase s pid (to asked) → Steps script s (said event asked None (charged_in t)) t

-- a call is admitted
pub admitting : (pid : ℕ) → Passes (Admit pid) pid Waiting Admitted
admitting pid = record {
  apart = λ a b e. (cc);
  lives = λ asked e. (cc);
  is_in = λ script s enabled. enabled.waits;
  steps = λ script s t asked enabled is after. record {
    enabled = enabled;
    after = after ∙ ap (λ a. with_phase s pid (Admitted a)) (sym is);
    noted_so = ap (λ a. said (Admit pid) a None (charged_in t)) (sym is);
  };
}

-- a call wakes, and waits for room
pub waking : (pid : ℕ) → Passes (Wake pid) pid Asleep Waiting
waking pid = record {
  apart = λ a b e. (cc);
  lives = λ asked e. (cc);
  is_in = λ script s enabled. enabled.sleeps;
  steps = λ script s t asked enabled is after. record {
    enabled = enabled;
    after = after ∙ ap (λ a. with_phase s pid (Waiting a)) (sym is);
    noted_so = ap (λ a. said (Wake pid) a None (charged_in t)) (sym is);
  };
}

-- What the code did in between: it found the call in its phase, wrote the other one, and changed what is reserved and what is
-- charged by what the two phases hold.
module _ {T : Type 0} (stands_for : T → World → Type 0) (event : Event) (pid : ℕ) (from to : Asked → Phase) (passes : Passes event pid from to)
    (inside : CoreView T) (asked : Asked) (noted : Noted) (tasks : List Task) (run : List Noted) (reserved charged peak : ℕ)
    (found : phase_in inside.tasks pid ≡ from asked) (tasks_are : tasks ≡ with_phase_in inside.tasks pid (to asked))
    (reserved_is : reserved + held (from asked) ≡ inside.reserved + held (to asked)) (charged_is : charged + held (from asked) ≡ inside.charged + held (to asked))
    (noted_is : noted ≡ said event asked None charged) (run_is : run ≡ inside.run ++ noted ∷ []) where
  -- the core then
  abbrev pub passed : CoreView T
  passed = record inside { tasks = tasks; reserved = reserved; charged = charged; run = run; peak = peak }

  -- the event leads from every state that the core is at
  leads : (script : Script) (s : CoreState) → IsAt stands_for inside s → IsEnabled script s event
      → (t : CoreState) × IsAt stands_for passed t × Steps script s (said event asked None charged) t
  leads script s at enabled =
      let here = passes.is_in script s enabled in
      let same : here.asked ≡ asked = same_asked s.tasks inside.tasks pid here.asked asked from passes.apart at.tasks here.is found in
      let after = with_phase s pid (to asked) in
      let moved : reserved_in after.tasks + held (from here.asked) ≡ reserved_in s.tasks + held (to asked) =
      reserved_with s.tasks pid (from here.asked) (to asked) here.is (passes.lives here.asked) in
      let as_held : held (from here.asked) ≡ held (from asked) = ap (λ a. held (from a)) same in
      let before : reserved_in s.tasks ≡ inside.reserved = at.reserved in
      let reserved_now : reserved_in after.tasks ≡ reserved = omega arith in
      let charged_now : charged_in after ≡ charged = (let b : charged_in s ≡ inside.charged = at.charged in omega arith) in (
        after,
        record { stands = at.stands; tasks = ap (λ ts. with_phase_in ts pid (to asked)) at.tasks ∙ sym tasks_are; reserved = reserved_now; charged = charged_now },
        subst (λ n. Steps script s (said event asked None n) after) charged_now (passes.steps script s after asked enabled same refl),
      )

  -- what the core keeps holds again
  pub kept_passed : (script : Script) (heap run_room run_room' task_room task_room' : ℕ) → IsKept stands_for script inside heap run_room task_room
      → MayTake stands_for script inside event → peak ≡ max inside.peak noted.charged → run_room' ≡ run_room → task_room' ≡ task_room
      → IsKept stands_for script passed heap run_room' task_room'
  kept_passed script heap run_room run_room' task_room task_room' kept may peak_is runs rooms =
      kept_next stands_for script script inside passed event (said event asked None charged) heap run_room run_room' task_room task_room' kept may
      (leads script may.state may.is_at may.enabled)
      (run_is ∙ ap (λ n. inside.run ++ n ∷ []) noted_is) refl (peak_is ∙ ap (λ n. max inside.peak n.charged) noted_is) runs rooms
      (let few : length tasks ≡ length inside.tasks = ap length tasks_are ∙ length-with inside.tasks pid (to asked) in omega arith) refl

  -- and the event was taken
  pub takes_passed : (script_of : T → Script) (old : CoreView T) → inside ≡ old → Takes stands_for (script_of old.store) old event passed
  takes_passed script_of old same =
      takes_all stands_for script_of inside old passed event (said event asked None charged) same refl (run_is ∙ ap (λ n. inside.run ++ n ∷ []) noted_is) refl
      (λ s at enabled sound. leads (script_of inside.store) s at enabled)

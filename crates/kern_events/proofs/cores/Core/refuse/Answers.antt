use Rattle.std.proofs.Common.{◌≡◌, ◌≤◌, ◌+◌, ◌<◌, ◌++◌, ◌∷◌, [], max, length, vec_capacity, refl, sym, subst, ap, ◌∙◌, arith}
use Rattle.kabi_types.specs.declared.entries.Event.TheVariants.{Ask}
use Rattle.posix_defs.specs.declared.phases.Phase.TheVariants.{User}
use Rattle.posix_defs.specs.Sizes.{room}
use Rattle.posix_defs.specs.CoreState.{phase_in}
use Rattle.posix_defs.specs.SoundTasks.{AreRising}
use Rattle.kern_laws.proofs.Sounds.{is_sound}
use Rattle.kern_laws.proofs.Tasks.{found_fits, length-with, rising_with}
use Rattle.kern_tasks.specs.Room.{is_asleep}
use Rattle.kern_tasks.specs.Runnable.{is_runnable, runnable_in}
use Rattle.kern_tasks.specs.View.{IsAskedFor, MayTake}
use Rattle.kern_tasks.proofs.HeapBounds.{inside}
use Rattle.kern_tasks.proofs.NextRun.{few_tasks, refuses, has_room, kept_next, places_fit, takes_all, rising_now}
use Rattle.kern_tasks.proofs.Sorting.{still_asleep, still_runnable, stirred_is}
use Rattle.kern_events.proofs.cores.Core.refuse.Goals as goal
use Rattle.kern_events.proofs.Known.{waits_with}

pub refuse-requires : goal.refuse-requires
refuse-requires g c =
    let may = subst (λ core. MayTake g.T.Turner.stands (g.T.Turner.script core.store) core (Ask c.args.pid)) (sym c.self.view_is) c.requires.may in
    let sound = is_sound may.runs in
    let fits = found_fits _ _ may.state.tasks c.args.pid User sound.each may.enabled (λ e. (cc)) in
    (may.state.world, may.is_at.stands, fits.phase)

pub note-requires : goal.note-requires
note-requires g c =
    let may = subst (λ core. MayTake g.T.Turner.stands (g.T.Turner.script core.store) core (Ask c.args.pid)) (sym c.self.view_is) c.requires.may in
    let room : length c.self.inside.run.items < vec_capacity c.self.inside.run = has_room g.T.Turner.stands _ _ _ _ _ may.state c.self.invariant.kept may.no_end in
    omega (arith, c.self.inside.run.ok.0)

pub invariant_of-self : goal.invariant_of-self
invariant_of-self g c =
    let may = subst (λ core. MayTake g.T.Turner.stands (g.T.Turner.script core.store) core (Ask c.args.pid)) (sym c.self.view_is) c.requires.may in
    let found : phase_in c.self.inside.tasks.items c.args.pid ≡ User = ap (λ ts. phase_in ts c.args.pid) (sym may.is_at.tasks) ∙ may.enabled in
    let still : c.self.inside.runnable.items ≡ runnable_in (g.T.Turner.settled c.self.inside.store) c.as_slice.result.now =
    still_runnable (g.T.Turner.settled c.self.inside.store) _ _ c.args.pid User _ c.self.invariant.placed (ap is_asleep found) refl c.set_phase.ensures.items
    ∙ ap (runnable_in (g.T.Turner.settled c.self.inside.store)) (sym c.as_slice.ensures.value) in
    record {
      kept =
          let stands = g.T.Turner.stands in
          let script = g.T.Turner.script in
          let may = subst (λ core. MayTake stands (script core.store) core (Ask c.args.pid)) (sym c.self.view_is) c.requires.may in
          let asked = subst (λ core. IsAskedFor stands (script core.store) core c.args.pid c.args.asked) (sym c.self.view_is) c.requires.asked in
          let sound = is_sound may.runs in
          let fits = found_fits _ _ may.state.tasks c.args.pid User sound.each may.enabled (λ e. (cc)) in
          kept_next stands _ _ _ _ (Ask c.args.pid) _ _ _ _ _ _ c.self.invariant.kept may
          (refuses stands _ _ may.state c.args.pid c.args.asked _ _ _ _ may.is_at may.enabled (asked may.state may.is_at fits.phase)
          (subst (λ core. room (script core.store).heap < c.args.asked.bound) (sym c.self.view_is) c.requires.never) c.set_phase.ensures.items
          (c.refuse.ensures.refused may.state.world may.is_at.stands fits.phase))
          (c.note.ensures.run ∙ ap (λ n. c.self.inside.run.items ++ n ∷ []) c.noted_of-noted.ensures) refl
          (c.note.ensures.peak ∙ ap (λ n. max c.self.inside.peak n.charged) c.noted_of-noted.ensures) c.note.ensures.room c.set_phase.ensures.room
          (let few : length c.set_phase.new.tasks.items ≡ length c.self.inside.tasks.items = ap length c.set_phase.ensures.items ∙ length-with c.self.inside.tasks.items c.args.pid User in omega arith)
          c.refuse.ensures.script;
      placed =
          c.sort_stirred.ensures.items (is_runnable (g.T.Turner.settled c.self.inside.store)) still ∙ stirred_is _ _ _ c.as_slice.result.now c.refuse.ensures.named
          ∙ ap (runnable_in (g.T.Turner.settled c.refuse.new.self)) c.as_slice.ensures.value;
      places = let before : c.self.inside.steps + 2 ≤ vec_capacity c.self.inside.runnable = c.self.invariant.places in omega (arith, c.sort_stirred.ensures.room);
      counted = still_asleep _ _ c.args.pid User User _ c.self.invariant.counted found (λ e. (cc)) refl refl c.set_phase.ensures.items;
      waiting = waits_with _ _ _ c.args.pid User tt c.set_phase.ensures.items c.self.invariant.waiting;
      caches = c.evictables_of-self-inside.ensures;
    }

pub sort_stirred-requires-clause-rising : goal.sort_stirred-requires-clause-rising
sort_stirred-requires-clause-rising g c =
    subst (AreRising 0) (sym (c.as_slice.ensures.value ∙ c.set_phase.ensures.items))
    (rising_with 0 c.self.inside.tasks.items c.args.pid User (rising_now g.T.Turner.stands _ _ c.self.invariant.kept.has_run))

pub sort_stirred-requires-clause-few : goal.sort_stirred-requires-clause-few
sort_stirred-requires-clause-few g c =
    let few : length c.self.inside.tasks.items ≤ 100001 = few_tasks g.T.Turner.stands _ _ _ _ _ c.self.invariant.kept in
    let many : length c.as_slice.result.now ≡ length c.self.inside.tasks.items =
    ap length (c.as_slice.ensures.value ∙ c.set_phase.ensures.items) ∙ length-with c.self.inside.tasks.items c.args.pid User in
    omega arith

pub sort_stirred-requires-clause-places : goal.sort_stirred-requires-clause-places
sort_stirred-requires-clause-places g c =
    let may = subst (λ core. MayTake g.T.Turner.stands (g.T.Turner.script core.store) core (Ask c.args.pid)) (sym c.self.view_is) c.requires.may in
    let found : phase_in c.self.inside.tasks.items c.args.pid ≡ User = ap (λ ts. phase_in ts c.args.pid) (sym may.is_at.tasks) ∙ may.enabled in
    record {
      passes = is_runnable (g.T.Turner.settled c.self.inside.store);
      same =
          still_runnable (g.T.Turner.settled c.self.inside.store) _ _ c.args.pid User _ c.self.invariant.placed (ap is_asleep found) refl c.set_phase.ensures.items
          ∙ ap (runnable_in (g.T.Turner.settled c.self.inside.store)) (sym c.as_slice.ensures.value);
    }

pub sort_stirred-requires-clause-room : goal.sort_stirred-requires-clause-room
sort_stirred-requires-clause-room g c =
    let may = subst (λ core. MayTake g.T.Turner.stands (g.T.Turner.script core.store) core (Ask c.args.pid)) (sym c.self.view_is) c.requires.may in
    let many : length c.as_slice.result.now ≡ length c.self.inside.tasks.items =
    ap length (c.as_slice.ensures.value ∙ c.set_phase.ensures.items) ∙ length-with c.self.inside.tasks.items c.args.pid User in
    let fit = places_fit g.T.Turner.stands _ _ _ _ _ _ may.state (length c.as_slice.result.now) c.self.invariant.kept may.no_end c.self.invariant.places (omega arith) in
    fit.room

pub returns-clause-took : goal.returns-clause-took
returns-clause-took g c =
    let stands = g.T.Turner.stands in
    let script = g.T.Turner.script in
    let asked = subst (λ core. IsAskedFor stands (script core.store) core c.args.pid c.args.asked) (sym c.self.view_is) c.requires.asked in
    takes_all stands script _ _ _ (Ask c.args.pid) _ c.self.view_is refl
    (c.note.ensures.run ∙ ap (λ n. c.self.inside.run.items ++ n ∷ []) c.noted_of-noted.ensures) refl
    (λ s at enabled sound.
    let fits = found_fits _ _ s.tasks c.args.pid User sound.each enabled (λ e. (cc)) in
    refuses stands _ _ s c.args.pid c.args.asked _ _ _ _ at enabled (asked s at fits.phase)
    (subst (λ core. room (script core.store).heap < c.args.asked.bound) (sym c.self.view_is) c.requires.never) c.set_phase.ensures.items
    (c.refuse.ensures.refused s.world at.stands fits.phase))

pub set_phase-requires : goal.set_phase-requires
set_phase-requires g c = rising_now g.T.Turner.stands _ _ c.self.invariant.kept.has_run

pub returns-clause-inside : goal.returns-clause-inside
returns-clause-inside g c =
    let may = subst (λ core. MayTake g.T.Turner.stands (g.T.Turner.script core.store) core (Ask c.args.pid)) (sym c.self.view_is) c.requires.may in
    let fits = inside g.T.Turner.stands _ _ _ _ _ may.state c.self.invariant.kept may.is_at in
    let high = c.refuse.ensures.high may.state.world may.is_at.stands in
    rw (← c.self.view_is) (record { marked = c.refuse.ensures.marked; within = omega arith })

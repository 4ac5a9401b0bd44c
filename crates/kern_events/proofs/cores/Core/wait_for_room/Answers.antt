use Rattle.std.proofs.Common.{◌≡◌, ◌<◌, ◌≤◌, ◌++◌, ◌∷◌, [], max, length, vec_capacity, refl, sym, subst, ap, ◌∙◌, arith}
use Rattle.kabi_types.specs.declared.entries.Event.TheVariants.{Ask}
use Rattle.posix_defs.specs.declared.phases.Phase.TheVariants.{User, Waiting}
use Rattle.posix_defs.specs.Sizes.{room}
use Rattle.posix_defs.specs.CoreState.{phase_in}
use Rattle.kern_laws.proofs.Sounds.{is_sound}
use Rattle.kern_laws.proofs.Tasks.{found_fits, length-with}
use Rattle.kern_tasks.specs.Room.{is_asleep}
use Rattle.kern_tasks.specs.View.{IsAskedFor, MayTake}
use Rattle.kern_tasks.proofs.NextRun.{asks, has_room, kept_next, takes_all, rising_now}
use Rattle.kern_tasks.proofs.Sorting.{still_asleep, still_runnable}
use Rattle.kern_events.proofs.cores.Core.wait_for_room.Goals as goal
use Rattle.kern_events.proofs.Known.{waits_too}

pub note-requires : goal.note-requires
note-requires g c =
    let may = subst (λ core. MayTake g.T.Turner.stands (g.T.Turner.script core.store) core (Ask c.args.pid)) (sym c.self.view_is) c.requires.may in
    let room : length c.self.inside.run.items < vec_capacity c.self.inside.run = has_room g.T.Turner.stands _ _ _ _ _ may.state c.self.invariant.kept may.no_end in
    omega (arith, c.self.inside.run.ok.0)

pub invariant_of-self : goal.invariant_of-self
invariant_of-self g c =
    let may = subst (λ core. MayTake g.T.Turner.stands (g.T.Turner.script core.store) core (Ask c.args.pid)) (sym c.self.view_is) c.requires.may in
    let found : phase_in c.self.inside.tasks.items c.args.pid ≡ User = ap (λ ts. phase_in ts c.args.pid) (sym may.is_at.tasks) ∙ may.enabled in
    record {
      kept =
          let stands = g.T.Turner.stands in
          let script = g.T.Turner.script in
          let may = subst (λ core. MayTake stands (script core.store) core (Ask c.args.pid)) (sym c.self.view_is) c.requires.may in
          let asked = subst (λ core. IsAskedFor stands (script core.store) core c.args.pid c.args.asked) (sym c.self.view_is) c.requires.asked in
          let sound = is_sound may.runs in
          let fits = found_fits _ _ may.state.tasks c.args.pid User sound.each may.enabled (λ e. (cc)) in
          kept_next stands _ _ _ _ (Ask c.args.pid) _ _ _ _ _ _ c.self.invariant.kept may
          (asks stands _ _ may.state c.args.pid c.args.asked _ _ _ may.is_at may.enabled (asked may.state may.is_at fits.phase)
          (subst (λ core. c.args.asked.bound ≤ room (script core.store).heap) (sym c.self.view_is) c.requires.ever) c.set_phase.ensures.items)
          (c.note.ensures.run ∙ ap (λ n. c.self.inside.run.items ++ n ∷ []) c.noted_of-noted.ensures) refl
          (c.note.ensures.peak ∙ ap (λ n. max c.self.inside.peak n.charged) c.noted_of-noted.ensures) c.note.ensures.room c.set_phase.ensures.room
          (let few : length c.set_phase.new.tasks.items ≡ length c.self.inside.tasks.items = ap length c.set_phase.ensures.items ∙ length-with c.self.inside.tasks.items c.args.pid (Waiting c.args.asked) in omega arith) refl;
      placed =
          still_runnable (g.T.Turner.settled c.self.inside.store) _ _ c.args.pid (Waiting c.args.asked) _ c.self.invariant.placed (ap is_asleep (found)) refl c.set_phase.ensures.items;
      places = c.self.invariant.places;
      counted = still_asleep _ _ c.args.pid (User) (Waiting c.args.asked) _ c.self.invariant.counted (found) (λ e. (cc)) refl refl c.set_phase.ensures.items;
      waiting = waits_too _ _ _ _ c.args.pid c.args.asked (omega arith) c.set_phase.ensures.items c.self.invariant.waiting;
      caches = c.self.invariant.caches;
    }

pub returns-clause-took : goal.returns-clause-took
returns-clause-took g c =
    let stands = g.T.Turner.stands in
    let script = g.T.Turner.script in
    let asked = subst (λ core. IsAskedFor stands (script core.store) core c.args.pid c.args.asked) (sym c.self.view_is) c.requires.asked in
    takes_all stands script _ _ _ (Ask c.args.pid) _ c.self.view_is refl
    (c.note.ensures.run ∙ ap (λ n. c.self.inside.run.items ++ n ∷ []) c.noted_of-noted.ensures) refl
    (λ s at enabled sound.
    let fits = found_fits _ _ s.tasks c.args.pid User sound.each enabled (λ e. (cc)) in
    asks stands _ _ s c.args.pid c.args.asked _ _ _ at enabled (asked s at fits.phase)
    (subst (λ core. c.args.asked.bound ≤ room (script core.store).heap) (sym c.self.view_is) c.requires.ever) c.set_phase.ensures.items)

pub set_phase-requires : goal.set_phase-requires
set_phase-requires g c = rising_now g.T.Turner.stands _ _ c.self.invariant.kept.has_run

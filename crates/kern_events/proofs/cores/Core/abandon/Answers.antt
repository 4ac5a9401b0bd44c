use Rattle.std.proofs.Common.{◌≡◌, ◌+◌, ◌<◌, ◌≤◌, ◌++◌, ◌∷◌, [], max, length, vec_capacity, refl, sym, subst, ap, ◌∙◌, arith}
use Rattle.kabi_types.specs.declared.entries.Event.TheVariants.{Abandon}
use Rattle.posix_defs.specs.declared.phases.Phase.TheVariants.{Stranded}
use Rattle.posix_defs.specs.CoreState.{phase_in}
use Rattle.posix_defs.specs.CoreEvent.{tasks_without}
use Rattle.std.specs.List.{count_by}
use Rattle.kern_tasks.specs.Room.{is_asleep}
use Rattle.kern_tasks.specs.Runnable.{runnable_in}
use Rattle.kern_tasks.specs.View.{MayTake}
use Rattle.kern_tasks.proofs.TaskPlaces.{length-without}
use Rattle.kern_tasks.proofs.NextRun.{abandons, few_tasks, has_room, held_back, kept_next, places_fit, reserved_charged, same_asked, takes_all, rising_now}
use Rattle.kern_events.proofs.cores.Core.abandon.Goals as goal
use Rattle.posix_defs.specs.SoundTasks.{AreRising}
use Rattle.kern_events.proofs.Known.{waits_without_one}

pub overflow_sub-self : goal.overflow_sub-self
overflow_sub-self g c =
    let found : phase_in c.self.inside.tasks.items c.args.pid ≡ Stranded c.in-Stranded.asked =
    ap (λ ts. phase_in ts c.args.pid) (sym c.as_slice.ensures.value) ∙ sym c.phase_of.ensures ∙ c.in-Stranded.is in
    let held : c.in-Stranded.asked.bound ≤ c.self.inside.reserved = held_back g.T.Turner.stands _ _ _ _ _ c.args.pid (Stranded c.in-Stranded.asked) c.self.invariant.kept found (λ e. (cc)) in
    held

pub overflow_sub-self-2 : goal.overflow_sub-self-2
overflow_sub-self-2 g c =
    let found : phase_in c.self.inside.tasks.items c.args.pid ≡ Stranded c.in-Stranded.asked =
    ap (λ ts. phase_in ts c.args.pid) (sym c.as_slice.ensures.value) ∙ sym c.phase_of.ensures ∙ c.in-Stranded.is in
    let held : c.in-Stranded.asked.bound ≤ c.self.inside.reserved = held_back g.T.Turner.stands _ _ _ _ _ c.args.pid (Stranded c.in-Stranded.asked) c.self.invariant.kept found (λ e. (cc)) in
    let less : c.self.inside.reserved ≤ c.self.inside.charged = reserved_charged g.T.Turner.stands _ _ _ _ _ c.self.invariant.kept in
    omega arith

pub note-requires : goal.note-requires
note-requires g c =
    let may = subst (λ core. MayTake g.T.Turner.stands (g.T.Turner.script core.store) core (Abandon c.args.pid)) (sym c.self.view_is) c.requires in
    let room : length c.self.inside.run.items < vec_capacity c.self.inside.run = has_room g.T.Turner.stands _ _ _ _ _ may.state c.self.invariant.kept may.no_end in
    omega (arith, c.self.inside.run.ok.0)

pub invariant_of-self : goal.invariant_of-self
invariant_of-self g c =
    record {
      kept =
          let stands = g.T.Turner.stands in
          let script = g.T.Turner.script in
          let may = subst (λ core. MayTake stands (script core.store) core (Abandon c.args.pid)) (sym c.self.view_is) c.requires in
          let found : phase_in c.self.inside.tasks.items c.args.pid ≡ Stranded c.in-Stranded.asked =
          ap (λ ts. phase_in ts c.args.pid) (sym c.as_slice.ensures.value) ∙ sym c.phase_of.ensures ∙ c.in-Stranded.is in
          let asked = same_asked _ _ c.args.pid may.enabled.asked c.in-Stranded.asked Stranded (λ x y e. (cc)) may.is_at.tasks may.enabled.is found in
          kept_next stands _ _ _ _ (Abandon c.args.pid) _ _ _ _ _ _ c.self.invariant.kept may
          (abandons stands _ _ may.state c.args.pid c.in-Stranded.asked _ _ _ may.is_at may.enabled asked c.remove.ensures.items)
          (c.note.ensures.run ∙ ap (λ n. c.self.inside.run.items ++ n ∷ []) c.noted_of-noted.ensures) refl
          (c.note.ensures.peak ∙ ap (λ n. max c.self.inside.peak n.charged) c.noted_of-noted.ensures) c.note.ensures.room c.remove.ensures.room
          (let few : length c.remove.new.tasks.items ≡ length (tasks_without c.self.inside.tasks.items c.args.pid) = ap length c.remove.ensures.items in
          let less : length (tasks_without c.self.inside.tasks.items c.args.pid) ≤ length c.self.inside.tasks.items = length-without c.self.inside.tasks.items c.args.pid in omega arith) refl;
      placed = c.sort_anew.ensures.items ∙ ap (runnable_in (g.T.Turner.settled c.self.inside.store)) c.as_slice-2.ensures.value;
      places = let before : c.self.inside.steps + 2 ≤ vec_capacity c.self.inside.runnable = c.self.invariant.places in omega (arith, c.sort_anew.ensures.room);
      counted = c.sort_anew.ensures.asleep ∙ ap (count_by (λ task. is_asleep task.phase)) c.as_slice-2.ensures.value;
      waiting = waits_without_one _ _ _ c.args.pid c.remove.ensures.items c.self.invariant.waiting;
      caches = c.self.invariant.caches;
    }

pub sort_anew-requires-clause-few : goal.sort_anew-requires-clause-few
sort_anew-requires-clause-few g c =
    let few : length c.self.inside.tasks.items ≤ 100001 = few_tasks g.T.Turner.stands _ _ _ _ _ c.self.invariant.kept in
    let many : length c.as_slice-2.result.now ≡ length (tasks_without c.self.inside.tasks.items c.args.pid) = ap length (c.as_slice-2.ensures.value ∙ c.remove.ensures.items) in
    let less : length (tasks_without c.self.inside.tasks.items c.args.pid) ≤ length c.self.inside.tasks.items = length-without c.self.inside.tasks.items c.args.pid in
    omega arith

pub sort_anew-requires-clause-room : goal.sort_anew-requires-clause-room
sort_anew-requires-clause-room g c =
    let may = subst (λ core. MayTake g.T.Turner.stands (g.T.Turner.script core.store) core (Abandon c.args.pid)) (sym c.self.view_is) c.requires in
    let many : length c.as_slice-2.result.now ≡ length (tasks_without c.self.inside.tasks.items c.args.pid) = ap length (c.as_slice-2.ensures.value ∙ c.remove.ensures.items) in
    let less : length (tasks_without c.self.inside.tasks.items c.args.pid) ≤ length c.self.inside.tasks.items = length-without c.self.inside.tasks.items c.args.pid in
    let fit = places_fit g.T.Turner.stands _ _ _ _ _ _ may.state (length c.as_slice-2.result.now) c.self.invariant.kept may.no_end c.self.invariant.places (omega arith) in
    let room = fit.room in omega arith

pub returns-clause-took : goal.returns-clause-took
returns-clause-took g c =
    let stands = g.T.Turner.stands in
    let script = g.T.Turner.script in
    let found : phase_in c.self.inside.tasks.items c.args.pid ≡ Stranded c.in-Stranded.asked =
    ap (λ ts. phase_in ts c.args.pid) (sym c.as_slice.ensures.value) ∙ sym c.phase_of.ensures ∙ c.in-Stranded.is in
    takes_all stands script _ _ _ (Abandon c.args.pid) _ c.self.view_is refl
    (c.note.ensures.run ∙ ap (λ n. c.self.inside.run.items ++ n ∷ []) c.noted_of-noted.ensures) refl
    (λ s at enabled sound.
    let asked = same_asked _ _ c.args.pid enabled.asked c.in-Stranded.asked Stranded (λ x y e. (cc)) at.tasks enabled.is found in
    abandons stands _ _ s c.args.pid c.in-Stranded.asked _ _ _ at enabled asked c.remove.ensures.items)

pub phase_of-requires : goal.phase_of-requires
phase_of-requires g c = subst (AreRising 0) (sym c.as_slice.ensures.value) (rising_now g.T.Turner.stands _ _ c.self.invariant.kept.has_run)

pub remove-requires : goal.remove-requires
remove-requires g c = rising_now g.T.Turner.stands _ _ c.self.invariant.kept.has_run

use Rattle.std.proofs.Common.{◌≡◌, ◌+◌, refl, ◌<◌, length, vec_capacity, sym, subst, ap, ◌∙◌, arith}
use Rattle.std.specs.List.{count_by}
use Rattle.kabi_types.specs.declared.entries.Event.TheVariants.{Wake}
use Rattle.posix_defs.specs.declared.phases.Phase.TheVariants.{Asleep, Waiting}
use Rattle.posix_defs.specs.CoreState.{phase_in}
use Rattle.posix_defs.specs.SoundTasks.{AreRising}
use Rattle.kern_laws.proofs.Sounds.{is_sound}
use Rattle.kern_tasks.specs.Room.{is_asleep}
use Rattle.kern_tasks.specs.View.{MayTake}
use Rattle.kern_tasks.proofs.CallPasses.{waking, kept_passed, takes_passed}
use Rattle.kern_tasks.proofs.NextRun.{has_room, rising_now}
use Rattle.kern_tasks.proofs.Sorting.{woken_asleep, woken_runnable}
use Rattle.kern_tasks.proofs.Settled.{ready_unsettled}
use Rattle.kern_events.proofs.cores.Core.wake.Goals as goal
use Rattle.kern_events.proofs.Known.{waits_too}

pub note-requires : goal.note-requires
note-requires g c =
    let may = subst (λ core. MayTake g.T.Turner.stands (g.T.Turner.script core.store) core (Wake c.args.pid)) (sym c.self.view_is) c.requires in
    let room : length c.self.inside.run.items < vec_capacity c.self.inside.run = has_room g.T.Turner.stands _ _ _ _ _ may.state c.self.invariant.kept may.no_end in
    omega (arith, c.self.inside.run.ok.0)

pub overflow_sub-self : goal.overflow_sub-self
overflow_sub-self g c =
    let found : phase_in c.self.inside.tasks.items c.args.pid ≡ Asleep c.in-Asleep.asked =
    ap (λ ts. phase_in ts c.args.pid) (sym c.as_slice.ensures.value) ∙ sym c.phase_of.ensures ∙ c.in-Asleep.is in
    let fewer : c.self.inside.asleep ≡ count_by (λ task. is_asleep task.phase) c.set_phase.new.tasks.items + 1 =
    woken_asleep _ _ c.args.pid (Asleep c.in-Asleep.asked) (Waiting c.in-Asleep.asked) _ c.self.invariant.counted found (λ e. (cc)) refl refl c.set_phase.ensures.items in
    omega arith

pub invariant_of-self : goal.invariant_of-self
invariant_of-self g c =
    let may = subst (λ core. MayTake g.T.Turner.stands (g.T.Turner.script core.store) core (Wake c.args.pid)) (sym c.self.view_is) c.requires in
    let found : phase_in c.self.inside.tasks.items c.args.pid ≡ Asleep c.in-Asleep.asked =
    ap (λ ts. phase_in ts c.args.pid) (sym c.as_slice.ensures.value) ∙ sym c.phase_of.ensures ∙ c.in-Asleep.is in
    let unsettled = ready_unsettled g.T.Turner.stands g.T.Turner.settled g.T.Turner.script g.met.T.Turner.settled_block c.self.inside.store may.state c.args.pid (is_sound may.runs) may.is_at.stands may.enabled in
    let fewer : c.self.inside.asleep ≡ count_by (λ task. is_asleep task.phase) c.set_phase.new.tasks.items + 1 =
    woken_asleep _ _ c.args.pid (Asleep c.in-Asleep.asked) (Waiting c.in-Asleep.asked) _ c.self.invariant.counted found (λ e. (cc)) refl refl c.set_phase.ensures.items in
    record {
      kept =
          kept_passed g.T.Turner.stands (Wake c.args.pid) c.args.pid Asleep Waiting (waking c.args.pid) _ c.in-Asleep.asked _ _ _ _ _ _
          (ap (λ ts. phase_in ts c.args.pid) (sym c.as_slice.ensures.value) ∙ sym c.phase_of.ensures ∙ c.in-Asleep.is)
          c.set_phase.ensures.items (omega arith) (omega arith) c.noted_of-noted.ensures c.note.ensures.run _ _ _ _ _ _ c.self.invariant.kept
          (subst (λ core. MayTake g.T.Turner.stands (g.T.Turner.script core.store) core (Wake c.args.pid)) (sym c.self.view_is) c.requires) c.note.ensures.peak c.note.ensures.room c.set_phase.ensures.room;
      placed = woken_runnable (g.T.Turner.settled c.self.inside.store) _ _ c.args.pid (Waiting c.in-Asleep.asked) _ c.self.invariant.placed unsettled c.set_phase.ensures.items;
      places = c.self.invariant.places;
      counted = omega arith;
      waiting = waits_too _ _ _ _ c.args.pid c.in-Asleep.asked (omega arith) c.set_phase.ensures.items c.self.invariant.waiting;
      caches = c.self.invariant.caches;
    }

pub phase_of-requires : goal.phase_of-requires
phase_of-requires g c = subst (AreRising 0) (sym c.as_slice.ensures.value) (rising_now g.T.Turner.stands _ _ c.self.invariant.kept.has_run)

pub returns-clause-took : goal.returns-clause-took
returns-clause-took g c = takes_passed g.T.Turner.stands (Wake c.args.pid) c.args.pid Asleep Waiting (waking c.args.pid) _ c.in-Asleep.asked _ _ _ _ _ _
    (ap (λ ts. phase_in ts c.args.pid) (sym c.as_slice.ensures.value) ∙ sym c.phase_of.ensures ∙ c.in-Asleep.is)
    c.set_phase.ensures.items (omega arith) (omega arith) c.noted_of-noted.ensures c.note.ensures.run g.T.Turner.script _ c.self.view_is

pub set_phase-requires : goal.set_phase-requires
set_phase-requires g c = rising_now g.T.Turner.stands _ _ c.self.invariant.kept.has_run

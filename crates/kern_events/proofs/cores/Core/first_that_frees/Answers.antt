use Rattle.std.proofs.Common.{◌≡◌, ◌++◌, Some, None, filter, slice_get, sym, ap, ◌∙◌}
use Rattle.std.proofs.lemmas.List.{drop_all}
use Rattle.posix_defs.specs.Choice.{asks_nothing, events_in, others_in}
use Rattle.kern_tasks.specs.Runnable.{runnable_in}
use Rattle.kern_tasks.proofs.OtherEvents.{others_ask_nothing}
use Rattle.kern_tasks.proofs.Picked.{nobody}
use Rattle.kern_tasks.proofs.Settled.{events_runnable}
use Rattle.kern_tasks.proofs.TaskLoops.{frees_behind, frees_here}
use Rattle.kern_events.proofs.Places.{all_found, found_there}
use Rattle.kern_events.proofs.cores.Core.first_that_frees.Goals as goal
use Rattle.kern_events.proofs.cores.Core.first_that_frees.Goals.{in-Some+else-asks_nothing, in_default}

pub loop-place-init : goal.loop-place-init
loop-place-init g c =
    let settled = g.T.Turner.settled in
    let same : c.deref-place-items.result.now ≡ runnable_in (settled c.args.self.now.store) c.args.self.now.tasks =
    c.deref-place-items.ensures.value ∙ c.self.invariant.placed ∙ ap (λ core. runnable_in (settled core.store) core.tasks) c.self.view_is in
    let script = g.T.Turner.script c.args.self.now.store in
    record {
      items = same;
      rest = λ s at sound. ap (λ events. filter asks_nothing (events ++ others_in script s))
          (events_runnable script s (settled c.args.self.now.store)
          (λ pid e alive. g.met.T.Turner.settled_block c.args.self.now.store s.world pid at.stands e alive) sound c.args.self.now.tasks at.tasks);
    }

pub event_at-requires : goal.event_at-requires
event_at-requires g c =
    let here = found_there (g.T.Turner.settled c.args.self.now.store) c.args.self.now.tasks _ c.loop-place.place-index 0 c.loop-place.invariant.items c.loop-place-test.true in
    here.within

pub returns : goal.returns
returns g c = λ s at sound.
    let script = g.T.Turner.script c.args.self.now.store in
    c.first_other.ensures s at ∙ ap (λ events. slice_get events 0) (sym (others_ask_nothing script s))
    ∙ ap (λ tasks. slice_get (filter asks_nothing (events_in script s tasks ++ others_in script s)) 0)
    (sym (drop_all _ _ (all_found (g.T.Turner.settled c.args.self.now.store) c.args.self.now.tasks _ _ c.loop-place.invariant.items c.loop-place-test.false)))
    ∙ ap (λ events. slice_get events 0) (c.loop-place.invariant.rest s at sound)

pub loop-place-preserved : goal.loop-place-preserved
loop-place-preserved g c =
    let here = found_there (g.T.Turner.settled c.args.self.now.store) c.args.self.now.tasks _ c.loop-place.place-index 0 c.loop-place.invariant.items c.loop-place-test.true in
    elim c.match-event_at.branch [
      | in-Some+else-asks_nothing w ↦ record {
        items = c.loop-place.invariant.items;
        rest = λ s at sound.
            frees_behind (g.T.Turner.script c.args.self.now.store) s _ _ (Some w.in-Some.event) nobody _ here.within_picked (w.in-Some.ensures s _ at sound here.there)
            (sym w.asks_nothing.ensures ∙ w.if-asks_nothing.false) (c.loop-place.invariant.rest s at sound);
      }
      | in_default w ↦ record {
        items = c.loop-place.invariant.items;
        rest = λ s at sound.
            frees_behind (g.T.Turner.script c.args.self.now.store) s _ _ None nobody _ here.within_picked (w.in_default.ensures s _ at sound here.there) tt (c.loop-place.invariant.rest s at sound);
      }
    ]

pub returns-then-asks_nothing : goal.returns-then-asks_nothing
returns-then-asks_nothing g c = λ s at sound.
    let here = found_there (g.T.Turner.settled c.args.self.now.store) c.args.self.now.tasks _ c.loop-place.place-index 0 c.loop-place.invariant.items c.loop-place-test.true in
    frees_here (g.T.Turner.script c.args.self.now.store) s _ _ _ nobody _ here.within_picked (c.in-Some.ensures s _ at sound here.there) (sym c.asks_nothing.ensures ∙ c.if-asks_nothing.true)
    (c.loop-place.invariant.rest s at sound)

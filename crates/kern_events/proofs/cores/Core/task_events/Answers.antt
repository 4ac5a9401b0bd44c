use Rattle.std.proofs.Common.{◌≡◌, ◌+◌, ◌<◌, ◌≤◌, length, refl, sym, ap, ◌∙◌, subst, arith, lit≤}
use Rattle.std.specs.Option.{option_to_list}
use Rattle.kern_tasks.specs.Runnable.{runnable_in}
use Rattle.kern_tasks.proofs.NextRun.{few_tasks}
use Rattle.kern_tasks.proofs.Picked.{nobody}
use Rattle.kern_tasks.proofs.Settled.{events_runnable}
use Rattle.kern_tasks.proofs.TaskLoops.{Passed, none_of, one_of, passed_none, passed_more, all_counted}
use Rattle.kern_events.proofs.Places.{all_found, few_places, found_there}
use Rattle.kern_events.proofs.cores.Core.task_events.Goals as goal
use Rattle.kern_events.proofs.cores.Core.task_events.Goals.{then-is_some, else-is_some}

pub loop-place-preserved : goal.loop-place-preserved
loop-place-preserved g c =
    let here = found_there (g.T.Turner.settled c.args.self.now.store) c.args.self.now.tasks _ c.loop-place.place-index 0 c.loop-place.invariant.items c.loop-place-test.true in
    elim c.if-is_some.branch [
      | then-is_some w ↦ record {
        items = c.loop-place.invariant.items;
        few = let is : c.if-is_some.count ≡ c.loop-place.count + 1 = w.count-is in let few = c.loop-place.invariant.few in omega (arith, few);
        passed = λ s at sound.
            let one : length (option_to_list c.event_at.result) ≡ 1 = one_of c.event_at.result (sym c.is_some.ensures ∙ w.if-is_some.true) in
            let many : c.loop-place.count + length (option_to_list c.event_at.result) ≡ c.if-is_some.count = ap (λ n. c.loop-place.count + n) one ∙ sym w.count-is in
            subst (Passed _ s _ _) many (passed_more _ s _ _ _ c.event_at.result nobody here.within_picked (c.event_at.ensures s _ at sound here.there) (c.loop-place.invariant.passed s at sound));
      }
      | else-is_some w ↦ record {
        items = c.loop-place.invariant.items;
        few = let is : c.if-is_some.count ≡ c.loop-place.count = w.count-is in let few = c.loop-place.invariant.few in omega (arith, few);
        passed = λ s at sound.
            let none : length (option_to_list c.event_at.result) ≡ 0 = none_of c.event_at.result (sym c.is_some.ensures ∙ w.if-is_some.false) in
            let many : c.loop-place.count + length (option_to_list c.event_at.result) ≡ c.if-is_some.count =
            (let is : c.if-is_some.count ≡ c.loop-place.count = w.count-is in omega arith) in
            subst (Passed _ s _ _) many (passed_more _ s _ _ _ c.event_at.result nobody here.within_picked (c.event_at.ensures s _ at sound here.there) (c.loop-place.invariant.passed s at sound));
      }
    ]

pub overflow_add-count : goal.overflow_add-count
overflow_add-count g c =
    let tasks : length c.self.inside.tasks.items ≤ 100001 = few_tasks g.T.Turner.stands _ _ _ _ _ c.self.invariant.kept in
    let places : length c.self.inside.runnable.items ≤ length c.self.inside.tasks.items = few_places _ _ _ c.self.invariant.placed in
    let same : length c.deref-place-items.result.now ≡ length c.self.inside.runnable.items = ap length c.deref-place-items.ensures.value in
    let few : c.loop-place.count ≤ c.loop-place.place-index = c.loop-place.invariant.few in
    let here : c.loop-place.place-index < length c.deref-place-items.result.now = c.loop-place-test.true in
    omega arith

pub returns-clause-few : goal.returns-clause-few
returns-clause-few g c =
    let tasks : length c.self.inside.tasks.items ≤ 100001 = few_tasks g.T.Turner.stands _ _ _ _ _ c.self.invariant.kept in
    let places : length c.self.inside.runnable.items ≤ length c.self.inside.tasks.items = few_places _ _ _ c.self.invariant.placed in
    let same : length c.deref-place-items.result.now ≡ length c.self.inside.runnable.items = ap length c.deref-place-items.ensures.value in
    let few : c.loop-place.count ≤ c.loop-place.place-index = c.loop-place.invariant.few in
    omega arith

pub returns-clause-counted : goal.returns-clause-counted
returns-clause-counted g c = λ s at sound.
    all_counted _ s _ _ _ _ (all_found (g.T.Turner.settled c.args.self.now.store) c.args.self.now.tasks _ _ c.loop-place.invariant.items c.loop-place-test.false) refl (c.loop-place.invariant.passed s at sound)

pub loop-place-init : goal.loop-place-init
loop-place-init g c =
    let settled = g.T.Turner.settled in
    let same : c.deref-place-items.result.now ≡ runnable_in (settled c.args.self.now.store) c.args.self.now.tasks =
    c.deref-place-items.ensures.value ∙ c.self.invariant.placed ∙ ap (λ core. runnable_in (settled core.store) core.tasks) c.self.view_is in
    record {
      items = same;
      few = lit≤ tt;
      passed = λ s at sound. passed_none _ s _ (events_runnable (g.T.Turner.script c.args.self.now.store) s (settled c.args.self.now.store)
          (λ pid e alive. g.met.T.Turner.settled_block c.args.self.now.store s.world pid at.stands e alive) sound c.args.self.now.tasks at.tasks);
    }

pub event_at-requires : goal.event_at-requires
event_at-requires g c =
    let here = found_there (g.T.Turner.settled c.args.self.now.store) c.args.self.now.tasks _ c.loop-place.place-index 0 c.loop-place.invariant.items c.loop-place-test.true in
    here.within

use Rattle.std.proofs.Common.{◌≡◌, ◌≢◌, ◌≤◌, ◌+◌, ◌-◌, slice_get, Some, None, sym, ap, ◌∙◌, subst, arith}
use Rattle.posix_defs.specs.Choice.{enabled_in, others_in}
use Rattle.kern_tasks.specs.Runnable.{runnable_in}
use Rattle.kern_tasks.proofs.Picked.{nobody}
use Rattle.kern_tasks.proofs.Settled.{events_runnable}
use Rattle.kern_tasks.proofs.TaskLoops.{Passed, passed_more, passed_none, event_at, other_at}
use Rattle.kern_events.proofs.Places.{all_found, found_there}
use Rattle.kern_events.proofs.cores.Core.task_event.Goals as goal
use Rattle.kern_events.proofs.cores.Core.task_event.Goals.{in-Some+else-left-eq0, in_default}

pub loop-place-init : goal.loop-place-init
loop-place-init g c =
    let settled = g.T.Turner.settled in
    let same : c.deref-place-items.result.now ≡ runnable_in (settled c.args.self.now.store) c.args.self.now.tasks =
    c.deref-place-items.ensures.value ∙ c.self.invariant.placed ∙ ap (λ core. runnable_in (settled core.store) core.tasks) c.self.view_is in
    record {
      items = same;
      more = omega arith;
      passed = λ s at sound.
          subst (Passed _ s _ 0) (let none : 0 ≡ c.args.i - c.args.i = omega arith in none)
          (passed_none _ s _ (events_runnable (g.T.Turner.script c.args.self.now.store) s (settled c.args.self.now.store)
          (λ pid e alive. g.met.T.Turner.settled_block c.args.self.now.store s.world pid at.stands e alive) sound c.args.self.now.tasks at.tasks));
    }

pub event_at-requires : goal.event_at-requires
event_at-requires g c =
    let here = found_there (g.T.Turner.settled c.args.self.now.store) c.args.self.now.tasks _ c.loop-place.place-index 0 c.loop-place.invariant.items c.loop-place-test.true in
    here.within

pub returns-then-left-eq0-clause-found : goal.returns-then-left-eq0-clause-found
returns-then-left-eq0-clause-found g c = λ s at sound.
    let here = found_there (g.T.Turner.settled c.args.self.now.store) c.args.self.now.tasks _ c.loop-place.place-index 0 c.loop-place.invariant.items c.loop-place-test.true in
    event_at _ s _ _ _ _ nobody here.within_picked (c.in-Some.ensures s _ at sound here.there) (c.loop-place.invariant.passed s at sound)
    ∙ ap (slice_get (enabled_in (g.T.Turner.script c.args.self.now.store) s))
    (let zero : c.loop-place.left ≡ 0 = c.if-left-eq0.true in let all : c.args.i - c.loop-place.left ≡ c.args.i = omega arith in all)

pub returns-clause-found : goal.returns-clause-found
returns-clause-found g c = λ s at sound.
    let more : c.loop-place.left ≤ c.args.i = c.loop-place.invariant.more in
    let left : c.args.i - (c.args.i - c.loop-place.left) ≡ c.loop-place.left = omega arith in
    ap (slice_get (others_in (g.T.Turner.script c.args.self.now.store) s)) (sym left)
    ∙ other_at _ s _ _ _ c.args.i (all_found (g.T.Turner.settled c.args.self.now.store) c.args.self.now.tasks _ _ c.loop-place.invariant.items c.loop-place-test.false)
    (let below : c.args.i - c.loop-place.left ≤ c.args.i = omega arith in below) (c.loop-place.invariant.passed s at sound)

pub loop-place-preserved : goal.loop-place-preserved
loop-place-preserved g c =
    let more : c.loop-place.left ≤ c.args.i = c.loop-place.invariant.more in
    let here = found_there (g.T.Turner.settled c.args.self.now.store) c.args.self.now.tasks _ c.loop-place.place-index 0 c.loop-place.invariant.items c.loop-place-test.true in
    elim c.match-event_at.branch [
      | in-Some+else-left-eq0 w ↦
          let some : c.loop-place.left ≢ 0 = w.if-left-eq0.false in
          let is : c.match-event_at.left ≡ c.loop-place.left - 1 = w.left-is in
          record {
            items = c.loop-place.invariant.items;
            more = omega arith;
            passed = λ s at sound.
                subst (Passed _ s _ _) (let next : c.args.i - c.loop-place.left + 1 ≡ c.args.i - c.match-event_at.left = omega arith in next)
                (passed_more _ s _ _ _ (Some w.in-Some.event) nobody here.within_picked (w.in-Some.ensures s _ at sound here.there) (c.loop-place.invariant.passed s at sound));
          }
      | in_default w ↦
          let is : c.match-event_at.left ≡ c.loop-place.left = w.left-is in
          record {
            items = c.loop-place.invariant.items;
            more = omega arith;
            passed = λ s at sound.
                subst (Passed _ s _ _) (let same : c.args.i - c.loop-place.left + 0 ≡ c.args.i - c.match-event_at.left = omega arith in same)
                (passed_more _ s _ _ _ None nobody here.within_picked (w.in_default.ensures s _ at sound here.there) (c.loop-place.invariant.passed s at sound));
          }
    ]

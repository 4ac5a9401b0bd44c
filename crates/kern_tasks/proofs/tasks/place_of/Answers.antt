use Rattle.std.proofs.Common.{◌≡◌, ◌<◌, ◌≤◌, ◌+◌, ◌-◌, suc, length, take, Some, sym, ap, ◌∙◌, arith}
use Rattle.kern_tasks.specs.Places.{place_from}
use Rattle.kern_tasks.proofs.TaskPlaces.{min_within, place_before, place_here, place_near}
use Rattle.kern_tasks.proofs.tasks.place_of.Goals as goal

pub loop-place-init : goal.loop-place-init
loop-place-init c = record {
  within = min_within (length c.args.tasks.now) c.args.pid c.min-place.result c.min-place.ensures;
  front = place_near c.args.tasks.now c.args.pid c.min-place.result c.requires c.min-place.ensures;
}

pub returns-then-tasks-place-clause-place : goal.returns-then-tasks-place-clause-place
returns-then-tasks-place-clause-place c =
    let some : 0 < c.loop-place.place = c.loop-place-test.true in
    let within : c.loop-place.place ≤ length c.args.tasks.now = c.loop-place.invariant.within in
    sym (place_here c.args.tasks.now c.args.pid 0 0 (c.loop-place.place - 1) _ c.requires (omega arith) c.if-tasks-place.true
    ∙ ap Some (let same : 0 + (c.loop-place.place - 1) ≡ c.loop-place.place - 1 = omega arith in same))

pub loop-place-preserved : goal.loop-place-preserved
loop-place-preserved c =
    let some : 0 < c.loop-place.place = c.loop-place-test.true in
    let within : c.loop-place.place ≤ length c.args.tasks.now = c.loop-place.invariant.within in
    let here : suc (c.loop-place.place - 1) ≡ c.loop-place.place = omega arith in
    record {
      within = omega arith;
      front = sym (place_before c.args.tasks.now c.args.pid 0 (c.loop-place.place - 1) _ (omega arith) c.if-tasks-place.false)
          ∙ ap (λ n. place_from 0 (take n c.args.tasks.now) c.args.pid) here ∙ c.loop-place.invariant.front;
    }

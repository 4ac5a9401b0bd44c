use Rattle.std.proofs.Common.{◌≡◌, ◌<◌, ◌≤◌, ◌-◌, length, arith}
use Rattle.kern_tasks.specs.Runnable.{below}
use Rattle.kern_tasks.proofs.Runnables.{all_below, few_below, more_below}
use Rattle.kern_tasks.proofs.runnable.count_below.Goals as goal

pub loop-count-init : goal.loop-count-init
loop-count-init c = record { within = omega arith; few = all_below c.args.places.now c.args.place }

pub returns-then-places-count-clause-below : goal.returns-then-places-count-clause-below
returns-then-places-count-clause-below c =
    let some : 0 < c.loop-count.count = c.loop-count-test.true in
    let within : c.loop-count.count ≤ length c.args.places.now = c.loop-count.invariant.within in
    let few : below c.args.places.now c.args.place ≤ c.loop-count.count = c.loop-count.invariant.few in
    let more : c.loop-count.count - 1 < below c.args.places.now c.args.place =
    more_below c.args.places.now 0 c.args.place (c.loop-count.count - 1) _ c.requires (omega arith) c.if-places-count.true in
    omega arith

pub loop-count-preserved : goal.loop-count-preserved
loop-count-preserved c =
    let some : 0 < c.loop-count.count = c.loop-count-test.true in
    let within : c.loop-count.count ≤ length c.args.places.now = c.loop-count.invariant.within in
    record {
      within = omega arith;
      few = few_below c.args.places.now c.args.place (c.loop-count.count - 1) _ (omega arith) c.if-places-count.false;
    }

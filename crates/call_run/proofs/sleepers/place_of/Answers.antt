use Rattle.std.proofs.Common.{◌<◌, ◌≤◌, ◌-◌, length, arith}
use Rattle.call_run.specs.Sleepers.{place_in}
use Rattle.call_run.proofs.Telling.{few_in, more_in, near_in}
use Rattle.call_run.proofs.sleepers.place_of.Goals as goal

pub loop-place-init : goal.loop-place-init
loop-place-init c =
    let near = near_in c.args.told.now c.args.pid c.min-place.result c.requires c.min-place.ensures in
    record { within = near.0; few = near.1 }

pub returns-then-told-place-clause-place : goal.returns-then-told-place-clause-place
returns-then-told-place-clause-place c =
    let some : 0 < c.loop-place.place = c.loop-place-test.true in
    let within : c.loop-place.place ≤ length c.args.told.now = c.loop-place.invariant.within in
    let few : place_in c.args.told.now c.args.pid ≤ c.loop-place.place = c.loop-place.invariant.few in
    let more : c.loop-place.place - 1 < place_in c.args.told.now c.args.pid =
    more_in c.args.told.now 0 c.args.pid (c.loop-place.place - 1) _ c.requires (omega arith) c.if-told-place.true in
    omega arith

pub loop-place-preserved : goal.loop-place-preserved
loop-place-preserved c =
    let some : 0 < c.loop-place.place = c.loop-place-test.true in
    let within : c.loop-place.place ≤ length c.args.told.now = c.loop-place.invariant.within in
    record {
      within = omega arith;
      few = few_in c.args.told.now c.args.pid (c.loop-place.place - 1) _ (omega arith) c.if-told-place.false;
    }

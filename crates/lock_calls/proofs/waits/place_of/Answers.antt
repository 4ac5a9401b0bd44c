use Rattle.std.proofs.Common.{◌<◌, ◌≤◌, Some, get_or, length, ne_eqb, refl, ap, ◌∙◌, arith}
use Rattle.proc_table.specs.declared.places.Place.{Place}
use Rattle.lock_calls.specs.Waiting.{pid_at}
use Rattle.lock_calls.proofs.Rows.{found_behind, none_behind, place_pid}
use Rattle.lock_calls.proofs.waits.place_of.Goals as goal

none : Place
none = record { pid = 0; key = 0 }

pub loop-place-init : goal.loop-place-init
loop-place-init c = record { at = refl; there = c.requires.there }

pub returns-then-place-pid-clause-place : goal.returns-then-place-pid-clause-place
unfolding none
returns-then-place-pid-clause-place c =
    let within : c.loop-place.place-index < length c.args.listed.now = (let test = c.loop-place-test.true in omega (arith, test)) in
    ap (pid_at c.args.listed.now) c.loop-place.invariant.at ∙ place_pid c.args.listed.now c.loop-place.place-index none within ∙ ap Some c.if-place-pid.true

pub returns-then-place-pid-clause-within : goal.returns-then-place-pid-clause-within
returns-then-place-pid-clause-within c =
    let within : c.loop-place.place-index < length c.args.listed.now = (let test = c.loop-place-test.true in omega (arith, test)) in
    let at = c.loop-place.invariant.at in
    let few : length c.args.listed.now ≤ 64 = c.requires.few in
    omega (arith, within, at, few)

pub loop-place-preserved : goal.loop-place-preserved
unfolding none
loop-place-preserved c =
    let within : c.loop-place.place-index < length c.args.listed.now = (let test = c.loop-place-test.true in omega (arith, test)) in
    let at = c.loop-place.invariant.at in
    record {
      at = omega (arith, at);
      there = found_behind c.args.listed.now c.loop-place.place-index c.args.pid none within
          (ne_eqb (get_or c.args.listed.now c.loop-place.place-index none).pid c.args.pid c.if-place-pid.false) c.loop-place.invariant.there;
    }

pub unreachable-requires : goal.unreachable-requires
unreachable-requires c =
    let past : length c.args.listed.now ≤ c.loop-place.place-index = omega arith in
    none_behind c.args.listed.now c.loop-place.place-index c.args.pid past c.loop-place.invariant.there

use Rattle.std.proofs.Common.{◌≡◌, ◌<◌, ◌≤◌, ◌+◌, ◌-◌, suc, drop, length, sym, subst, arith}
use Rattle.std.proofs.lemmas.List.{drop_all}
use Rattle.call_run.specs.Sleepers.{AreTrulyTold}
use Rattle.call_run.proofs.Asking.{looked_fewer, looked_rising, looked_truly, looked_within}
use Rattle.call_run.proofs.Telling.{names_same, names_then}
use Rattle.call_run.proofs.sleepers.ask_each.Goals as goal

pub loop-place-init : goal.loop-place-init
loop-place-init c = record {
  within = omega (arith, c.len-place.ensures);
  rising = c.requires.rising;
  truly =
      subst (AreTrulyTold c.args.script.now c.args.objects.now) (sym (drop_all c.len-place.result c.args.told.now.items (omega (arith, c.len-place.ensures)))) (λ world stands reached. tt);
  fewer = λ who none. none;
  named = names_same c.args.told.now.items c.args.stirred.now.items;
  known = tt;
  room = omega (arith, c.len-place.ensures);
}

pub look_at-requires-clause-within : goal.look_at-requires-clause-within
look_at-requires-clause-within c =
    let some : 0 < c.loop-place.place = c.loop-place-test.true in
    let within : c.loop-place.place ≤ length c.loop-place.told.items = c.loop-place.invariant.within in
    omega arith

pub look_at-requires-clause-rising : goal.look_at-requires-clause-rising
look_at-requires-clause-rising c = c.loop-place.invariant.rising

pub look_at-requires-clause-room : goal.look_at-requires-clause-room
look_at-requires-clause-room c =
    let some : 0 < c.loop-place.place = c.loop-place-test.true in
    let room : length c.loop-place.stirred.items + c.loop-place.place ≤ length c.args.stirred.now.items + 64 = c.loop-place.invariant.room in
    omega (arith, c.requires.room)

pub loop-place-preserved : goal.loop-place-preserved
loop-place-preserved c =
    let some : 0 < c.loop-place.place = c.loop-place-test.true in
    let before : c.loop-place.place ≤ length c.loop-place.told.items = c.loop-place.invariant.within in
    let within : c.loop-place.place - 1 < length c.loop-place.told.items = omega arith in
    let next : suc (c.loop-place.place - 1) ≡ c.loop-place.place = omega arith in
    record {
      within = looked_within c.args.script.now c.args.objects.now _ _ _ within c.look_at.ensures.looked;
      rising = looked_rising c.args.script.now c.args.objects.now _ _ _ within c.look_at.ensures.looked c.loop-place.invariant.rising;
      truly =
          looked_truly c.args.script.now c.args.objects.now _ _ _ within c.look_at.ensures.looked
          (subst (λ n. AreTrulyTold c.args.script.now c.args.objects.now (drop n c.loop-place.told.items)) (sym next) c.loop-place.invariant.truly);
      fewer = λ who none.
          looked_fewer c.args.script.now c.args.objects.now _ _ _ within c.loop-place.invariant.rising c.look_at.ensures.looked who (c.loop-place.invariant.fewer who none);
      named = names_then _ _ _ _ _ _ c.loop-place.invariant.named c.look_at.ensures.named;
      known = c.look_at.ensures.known;
      room =
          let room : length c.loop-place.stirred.items + c.loop-place.place ≤ length c.args.stirred.now.items + 64 = c.loop-place.invariant.room in
          omega (arith, c.look_at.ensures.room);
    }

pub returns-clause-truly : goal.returns-clause-truly
returns-clause-truly c =
    let none : c.loop-place.place ≡ 0 = (let over : c.loop-place.place ≤ 0 = c.loop-place-test.false in omega arith) in
    subst (λ n. AreTrulyTold c.args.script.now c.args.objects.now (drop n c.loop-place.told.items)) none c.loop-place.invariant.truly

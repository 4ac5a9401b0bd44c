use Rattle.std.proofs.Common.{◌≡◌, ◌<◌, ◌≤◌, ◌+◌, ◌-◌, suc, true, false, length, length-set, refl, rules, sym, subst, w64, ◌∙◌, arith}
use Rattle.std.proofs.lemmas.Int.{to_z-of_z}
use mir.Val.{of_z, to_z}
use Rattle.call_run.proofs.Asking.{AreNearFrom, alive_there, near_none, near_pid, near_step}
use Rattle.call_run.proofs.Telling.{names_same, names_set, names_then, rising_set}
use Rattle.call_run.proofs.sleepers.ask_near.Goals as goal

either : true ≡ false → ⊥
either e = cc

pub loop-place-init : goal.loop-place-init
loop-place-init c = record {
  within = omega arith;
  rising = c.requires.rising;
  asked = near_none c.args.script.now c.args.objects.now c.args.pid (to_z w64 (of_z w64 c.args.fd)) c.args.channel c.args.told.now _;
  named = names_same c.args.told.now c.args.stirred.now.items;
  room = omega arith;
}

pub look_near-requires-clause-alive : goal.look_near-requires-clause-alive
look_near-requires-clause-alive c =
    let some = c.requires.alive in
    let more : 0 < c.loop-place.place = c.loop-place-test.true in
    let next : suc (c.loop-place.place - 1) ≡ c.loop-place.place = omega arith in
    let fd = to_z w64 (of_z w64 c.args.fd) in (
      some.0,
      some.1,
      alive_there c.args.script.now c.args.objects.now c.args.pid fd c.args.channel some.0 (c.loop-place.place - 1) c.args.told.now c.loop-place.told _ c.loop-place.near
          (subst (λ n. AreNearFrom c.args.script.now c.args.objects.now c.args.pid fd c.args.channel n c.args.told.now c.loop-place.told c.loop-place.near) (sym next) c.loop-place.invariant.asked)
          some.2,
      some.3,
    )

pub look_near-requires-clause-room : goal.look_near-requires-clause-room
look_near-requires-clause-room c =
    let more : 0 < c.loop-place.place = c.loop-place-test.true in
    let room : length c.loop-place.stirred.items + c.loop-place.place ≤ length c.args.stirred.now.items + length c.args.told.now = c.loop-place.invariant.room in
    omega (arith, c.requires.room)

pub loop-place-preserved-then-look_near : goal.loop-place-preserved-then-look_near
loop-place-preserved-then-look_near c =
    let script = c.args.script.now in
    let objects = c.args.objects.now in
    let fd = to_z w64 (of_z w64 c.args.fd) in
    let more : 0 < c.loop-place.place = c.loop-place-test.true in
    let before : c.loop-place.place ≤ length c.loop-place.told = c.loop-place.invariant.within in
    let within : c.loop-place.place - 1 < length c.loop-place.told = omega arith in
    let next : suc (c.loop-place.place - 1) ≡ c.loop-place.place = omega arith in
    let sleeper = c.look_near.new.sleeper in
    let same = near_pid script objects c.args.pid fd c.args.channel _ sleeper c.look_near.result c.look_near.ensures.near in
    let asked = subst (λ n. AreNearFrom script objects c.args.pid fd c.args.channel n c.args.told.now c.loop-place.told c.loop-place.near) (sym next) c.loop-place.invariant.asked in
    let room : length c.loop-place.stirred.items + c.loop-place.place ≤ length c.args.stirred.now.items + length c.args.told.now = c.loop-place.invariant.room in
    record {
      within = let many = length-set c.loop-place.told (c.loop-place.place - 1) sleeper in omega (arith, many);
      rising = rising_set c.loop-place.told 0 (c.loop-place.place - 1) _ sleeper c.loop-place.invariant.rising within same;
      asked =
          near_step script objects c.args.pid fd c.args.channel (c.loop-place.place - 1) c.args.told.now c.loop-place.told _ sleeper c.look_near.result c.loop-place.near true within
          (λ _. refl) (λ _. refl) c.look_near.ensures.near asked;
      named =
          names_then c.args.told.now c.loop-place.told _ c.args.stirred.now.items c.loop-place.stirred.items c.look_near.new.stirred.items c.loop-place.invariant.named
          (names_set c.loop-place.told (c.loop-place.place - 1) _ sleeper c.loop-place.stirred.items c.look_near.new.stirred.items c.loop-place.invariant.rising within same c.look_near.ensures.named);
      room = omega (arith, c.look_near.ensures.room);
    }

pub loop-place-preserved : goal.loop-place-preserved
loop-place-preserved c =
    let script = c.args.script.now in
    let objects = c.args.objects.now in
    let fd = to_z w64 (of_z w64 c.args.fd) in
    let more : 0 < c.loop-place.place = c.loop-place-test.true in
    let before : c.loop-place.place ≤ length c.loop-place.told = c.loop-place.invariant.within in
    let within : c.loop-place.place - 1 < length c.loop-place.told = omega arith in
    let next : suc (c.loop-place.place - 1) ≡ c.loop-place.place = omega arith in
    let sleeper = c.look_near.new.sleeper in
    let same = near_pid script objects c.args.pid fd c.args.channel _ sleeper c.look_near.result c.look_near.ensures.near in
    let asked = subst (λ n. AreNearFrom script objects c.args.pid fd c.args.channel n c.args.told.now c.loop-place.told c.loop-place.near) (sym next) c.loop-place.invariant.asked in
    let room : length c.loop-place.stirred.items + c.loop-place.place ≤ length c.args.stirred.now.items + length c.args.told.now = c.loop-place.invariant.room in
    record {
      within = let many = length-set c.loop-place.told (c.loop-place.place - 1) sleeper in omega (arith, many);
      rising = rising_set c.loop-place.told 0 (c.loop-place.place - 1) _ sleeper c.loop-place.invariant.rising within same;
      asked =
          near_step script objects c.args.pid fd c.args.channel (c.loop-place.place - 1) c.args.told.now c.loop-place.told _ sleeper c.look_near.result c.loop-place.near c.loop-place.near within
          (λ e. e) (λ e. absurd (either (sym e ∙ c.if-look_near.false))) c.look_near.ensures.near asked;
      named =
          names_then c.args.told.now c.loop-place.told _ c.args.stirred.now.items c.loop-place.stirred.items c.look_near.new.stirred.items c.loop-place.invariant.named
          (names_set c.loop-place.told (c.loop-place.place - 1) _ sleeper c.loop-place.stirred.items c.look_near.new.stirred.items c.loop-place.invariant.rising within same c.look_near.ensures.named);
      room = omega (arith, c.look_near.ensures.room);
    }

pub returns-clause-near : goal.returns-clause-near
returns-clause-near c =
    let fd : to_z w64 (of_z w64 c.args.fd) ≡ c.args.fd = search (rules, to_z-of_z) in
    let none : c.loop-place.place ≡ 0 = (let over : c.loop-place.place ≤ 0 = c.loop-place-test.false in omega arith) in
    subst (λ z. AreNearFrom c.args.script.now c.args.objects.now c.args.pid z c.args.channel 0 c.args.told.now c.loop-place.told c.loop-place.near) fd
    (subst (λ n. AreNearFrom c.args.script.now c.args.objects.now c.args.pid (to_z w64 (of_z w64 c.args.fd)) c.args.channel n c.args.told.now c.loop-place.told c.loop-place.near) none
    c.loop-place.invariant.asked)

use Rattle.std.proofs.Common.{◌≡◌, ◌≤◌, length, sym, ap, subst, ◌∙◌, arith}
use Rattle.kern_tasks.specs.Runnable.{AreRisingFrom, is_runnable, places_from, with_place}
use Rattle.kern_tasks.proofs.Runnables.{first_anew, no_more_places, none_anew, places_rise}
use Rattle.kern_tasks.proofs.runnable.place_anew.Goals as goal

pub put_place-requires-clause-rising : goal.put_place-requires-clause-rising
put_place-requires-clause-rising g c =
    let are = c.requires.places in subst (AreRisingFrom 0) (sym are.same) (places_rise are.passes 0 c.args.tasks.now)

pub put_place-requires-clause-room : goal.put_place-requires-clause-room
put_place-requires-clause-room g c =
    let are = c.requires.places in
    let few : length c.args.runnable.now.items ≤ length c.args.tasks.now =
    subst (λ ps. length ps ≤ length c.args.tasks.now) (sym are.same) (no_more_places are.passes 0 c.args.tasks.now) in
    omega (arith, c.args.runnable.now.ok.0, c.requires.room)

pub returns-in-Some-clause-items : goal.returns-in-Some-clause-items
returns-in-Some-clause-items g c = λ passes same.
    let settled = g.T.Turner.settled c.args.store.now in
    c.put_place.ensures.items ∙ ap (λ ps. with_place ps c.in-Some.place c.is_runnable.result) same
    ∙ ap (with_place (places_from passes 0 c.args.tasks.now) c.in-Some.place) c.is_runnable.ensures
    ∙ first_anew passes (is_runnable settled) c.args.pid c.in-Some.place c.args.tasks.now _ c.requires.rising (sym c.in-Some.ensures.place)

pub returns-in_default-clause-items : goal.returns-in_default-clause-items
returns-in_default-clause-items g c = λ passes same.
    same ∙ sym (none_anew passes (is_runnable (g.T.Turner.settled c.args.store.now)) c.args.pid 0 0 c.args.tasks.now (sym c.in_default.ensures.place))

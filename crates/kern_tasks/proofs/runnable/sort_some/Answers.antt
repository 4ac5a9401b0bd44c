use Rattle.std.proofs.Common.{◌≡◌, ◌≤◌, ◌+◌, ◌++◌, if◌then◌else◌, length, length-append, sym, ap, subst, ◌∙◌, arith}
use Rattle.kern_tasks.specs.Runnable.{ArePlaces, born_place, but_for, is_runnable}
use Rattle.kern_tasks.proofs.Runnables.{no_more_places}
use Rattle.kern_tasks.proofs.runnable.sort_some.Goals as goal

pub add_runnable-requires-clause-room : goal.add_runnable-requires-clause-room
add_runnable-requires-clause-room g c =
    let are = c.requires.places c.if-ends.false in
    let few : length (c.args.runnable.now.items ++ born_place c.args.tasks.now c.args.born) ≤ length c.args.tasks.now =
    subst (λ ps. length ps ≤ length c.args.tasks.now) (sym are.same) (no_more_places are.passes 0 c.args.tasks.now) in
    let more = length-append c.args.runnable.now.items (born_place c.args.tasks.now c.args.born) in
    omega (arith, few, more, c.args.runnable.now.ok.0, c.requires.room)

pub place_sleeper-requires-clause-places : goal.place_sleeper-requires-clause-places
place_sleeper-requires-clause-places g c = subst (ArePlaces c.args.tasks.now) (sym c.add_runnable.ensures.items) (c.requires.places c.if-ends.false)

pub sort_stirred-requires-clause-places : goal.sort_stirred-requires-clause-places
sort_stirred-requires-clause-places g c =
    let are = c.requires.places c.if-ends.false in
    record {
      passes = if c.args.sleeps then but_for are.passes c.args.pid (is_runnable (g.T.Turner.settled c.args.store.now)) else are.passes;
      same = c.place_sleeper.ensures.items are.passes (c.add_runnable.ensures.items ∙ are.same);
    }

pub returns-clause-items : goal.returns-clause-items
returns-clause-items g c = λ e passes same.
    c.sort_stirred.ensures.items (if c.args.sleeps then but_for passes c.args.pid (is_runnable (g.T.Turner.settled c.args.store.now)) else passes)
    (c.place_sleeper.ensures.items passes (c.add_runnable.ensures.items ∙ same))

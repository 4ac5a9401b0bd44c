use Rattle.std.proofs.Common.{◌≡◌, None, slice_index_or, subst, arith}
use Rattle.kern_shared.specs.declared.passes.Pass.{Pass}
use Rattle.kern_shared.specs.Passes.{IsAtRest}
use Rattle.work_crew.specs.Working.{HasWorked}
use Rattle.work_crew.proofs.Places.{all_of_places}
use Rattle.work_crew.proofs.workers.crew.Goals as goal

pub returns-clause-each : goal.returns-clause-each
returns-clause-each g c =
    let P : Pass g.row.T.Denot g.row.L.Denot → Type 0 = λ p. IsAtRest g.L.RunName.script g.L.RunName.steps g.L.RunName.charge c.args.kernel.now.turns p.turn p.own p.given × (p.given ≡ None) in
    all_of_places P c.for_each_mut.new.s (λ place d within. let at = (c.for_each_mut.ensures place d (let long = c.for_each_mut.auto.s in omega (arith, within, long))).1 in subst P {y = slice_index_or c.for_each_mut.new.s place d} at.left at.call.0)

pub returns-clause-worked : goal.returns-clause-worked
returns-clause-worked g c = λ place d within.
    let at = (c.for_each_mut.ensures place d within).1 in
    subst (λ (p : Pass g.row.T.Denot g.row.L.Denot). HasWorked g.L.RunName.script g.L.RunName.steps (slice_index_or c.args.passes.now place d).turn.known p.turn.known) {y = slice_index_or c.for_each_mut.new.s place d} at.left
    (subst (λ (p : Pass g.row.T.Denot g.row.L.Denot). HasWorked g.L.RunName.script g.L.RunName.steps p.turn.known at.after_call.now.turn.known) {y = slice_index_or c.args.passes.now place d} at.argument_is at.call.1)

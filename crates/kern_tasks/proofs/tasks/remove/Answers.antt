use Rattle.std.proofs.Common.{◌<◌, length, sym, ap, ◌∙◌, subst, arith}
use Rattle.posix_defs.specs.declared.phases.Phase.TheVariants.{Dead}
use Rattle.kern_tasks.specs.Places.{place_from}
use Rattle.kern_tasks.proofs.TaskPlaces.{IsPlace, found_place, no_place}
use Rattle.kern_tasks.proofs.tasks.remove.Goals as goal

pub remove-requires : goal.remove-requires
remove-requires c =
    let found = found_place c.as_slice.result.now c.args.pid c.in-Some.place (sym c.in-Some.ensures.place) in
    let within : c.in-Some.place < length c.args.tasks.now.items = subst (λ items. c.in-Some.place < length items) c.as_slice.ensures.value found.within in
    omega (arith, c.args.tasks.now.ok.0)

pub returns-in-Some-clause-items : goal.returns-in-Some-clause-items
returns-in-Some-clause-items c =
    let found = subst (λ items. IsPlace items c.args.pid c.in-Some.place) c.as_slice.ensures.value
    (found_place c.as_slice.result.now c.args.pid c.in-Some.place (sym c.in-Some.ensures.place)) in
    c.remove.ensures.items ∙ found.gone

pub returns-in_default-clause-items : goal.returns-in_default-clause-items
returns-in_default-clause-items c =
    (no_place c.args.tasks.now.items c.args.pid 0 Dead
    (sym (c.in_default.ensures.place ∙ ap (λ items. place_from 0 items c.args.pid) c.as_slice.ensures.value))).1

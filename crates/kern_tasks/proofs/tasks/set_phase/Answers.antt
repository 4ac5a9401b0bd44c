use Rattle.std.proofs.Common.{slice_set, sym, subst, ap, ◌∙◌}
use Rattle.kern_tasks.specs.Places.{place_from}
use Rattle.kern_tasks.proofs.TaskPlaces.{IsPlace, found_place, no_place}
use Rattle.kern_tasks.proofs.tasks.set_phase.Goals as goal

pub returns-in-Some-clause-items : goal.returns-in-Some-clause-items
returns-in-Some-clause-items c =
    let found = subst (λ items. IsPlace items c.args.pid c.in-Some.place) c.as_slice.ensures.value
    (found_place c.as_slice.result.now c.args.pid c.in-Some.place (sym c.in-Some.ensures.place)) in
    ap (λ task. slice_set c.args.tasks.now.items c.in-Some.place (record task { phase = c.args.phase })) c.index_mut.ensures.value
    ∙ found.written c.args.phase c.index_mut.result.now

pub returns-in_default-clause-items : goal.returns-in_default-clause-items
returns-in_default-clause-items c =
    (no_place c.args.tasks.now.items c.args.pid 0 c.args.phase
    (sym (c.in_default.ensures.place ∙ ap (λ items. place_from 0 items c.args.pid) c.as_slice.ensures.value))).0

use Rattle.std.proofs.Common.{◌<◌, length, slice_index_or, slice_set, ap, sym, ◌∙◌, subst, arith}
use Rattle.std.proofs.lemmas.List.Edits.{map_over_more}
use Rattle.group_heap.specs.declared.groups.Group.{Group}
use Rattle.group_heap.specs.Seats.{HoldsNothing, unseated}
use Rattle.group_heap.proofs.Running.{at_rest, place_of_all, same_default}
use Rattle.group_heap.proofs.runs.take_seats.Goals as goal

pub take_seat-requires-clause-holds : goal.take_seat-requires-clause-holds
take_seat-requires-clause-holds g c =
    let P : Group g.row.T.Denot → Type 0 = HoldsNothing c.args.charge.now in
    let here = c.loop-group in
    let item = c.group-item.result in
    let test = c.loop-group-test.true in let last = here.auto.group-index-end in let long = here.auto.groups in
    let within : here.group-index < length c.args.groups.now = omega (arith, test, last, long) in
    subst P (sym (ap (λ xs. slice_index_or xs here.group-index item) here.invariant.groups ∙ at_rest unseated c.args.groups.now here.group-index item within))
    (place_of_all P c.args.groups.now here.group-index item within c.requires.each)

pub loop-group-preserved : goal.loop-group-preserved
loop-group-preserved g c =
    let here = c.loop-group in
    let item = slice_index_or here.groups here.group-index c.group-item.result in
    let test = c.loop-group-test.true in let last = here.auto.group-index-end in let long = here.auto.groups in
    let within : here.group-index < length c.args.groups.now = omega (arith, test, last, long) in
    let inside : here.group-index < length here.groups = omega (arith, test, last, long) in
    record {
      groups = ap (λ x. slice_set here.groups here.group-index x) c.take_seat.ensures.group
          ∙ map_over_more unseated c.args.groups.now here.groups here.group-index item within here.invariant.groups
          (same_default here.groups here.group-index c.group-item.result item inside);
      charge = c.take_seat.ensures.charge ∙ here.invariant.charge;
      boot = c.take_seat.ensures.boot;
      holds = c.take_seat.ensures.holds ∙ here.invariant.holds;
    }

use Rattle.std.proofs.Common.{inl, slice_index_or, sym, ◌∙◌, subst, arith}
use Rattle.std.specs.List.{AllByRecursion}
use Rattle.group_heap.specs.declared.groups.Group.{Group}
use Rattle.group_heap.specs.Seats.{HoldsNothing, IsReady, WasCalled}
use Rattle.group_heap.proofs.Running.{after_all, all_done, all_of_places, all_ready, place_of_all}
use Rattle.group_heap.proofs.runs.run_groups.Goals as goal

pub for_each_mut-requires-clause-accepts : goal.for_each_mut-requires-clause-accepts
for_each_mut-requires-clause-accepts g c = λ κs live i p within is.
    let P : Group g.row.T.Denot → Type 0 = IsReady g.T.Turner.stands g.T.Turner.script c.in_ok-charge.charge in
    let all : AllByRecursion P c.hand_seats.new.groups =
    subst (AllByRecursion P) (sym c.hand_seats.ensures.groups) (all_ready g.T.Turner.stands g.T.Turner.script c.in_ok-charge.charge c.args.groups.now c.requires.each) in
    subst P (sym is) (place_of_all P c.hand_seats.new.groups i p.now within all)

pub take_seats-requires-clause-each : goal.take_seats-requires-clause-each
take_seats-requires-clause-each g c =
    let P : Group g.row.T.Denot → Type 0 = HoldsNothing c.in_ok-charge.charge in
    all_of_places P c.for_each_mut.new.s (λ place d within.
    let at = (c.for_each_mut.ensures place d (let long = c.for_each_mut.auto.s in omega (arith, within, long))).1 in
    subst P {y = slice_index_or c.for_each_mut.new.s place d} at.left at.call.seated)

pub returns-then-is_wanting-clause-each : goal.returns-then-is_wanting-clause-each
returns-then-is_wanting-clause-each g c =
    let W : Group g.row.T.Denot → Group g.row.T.Denot → Type 0 = WasCalled g.T.Turner.stands g.T.Turner.marks g.T.Turner.high c.args.whole c.in_ok-charge.charge in
    inl (after_all g.T.Turner.stands g.T.Turner.marks g.T.Turner.high c.args.whole c.in_ok-charge.charge c.args.groups.now c.hand_seats.new.groups c.for_each_mut.new.s c.take_seats.new.groups
    c.hand_seats.ensures.groups (let long = c.for_each_mut.auto.s in omega (arith, long))
    (λ place d within.
    let at = (c.for_each_mut.ensures place d within).1 in
    subst (λ (p : Group g.row.T.Denot). W (slice_index_or c.hand_seats.new.groups place d) p) {y = slice_index_or c.for_each_mut.new.s place d} at.left
    (subst (λ (p : Group g.row.T.Denot). W p at.after_call.now) {y = slice_index_or c.hand_seats.new.groups place d} at.argument_is at.call))
    c.take_seats.ensures.groups)

pub returns-clause-each : goal.returns-clause-each
returns-clause-each g c =
    let W : Group g.row.T.Denot → Group g.row.T.Denot → Type 0 = WasCalled g.T.Turner.stands g.T.Turner.marks g.T.Turner.high c.args.whole c.in_ok-charge.charge in
    inl (after_all g.T.Turner.stands g.T.Turner.marks g.T.Turner.high c.args.whole c.in_ok-charge.charge c.args.groups.now c.hand_seats.new.groups c.for_each_mut.new.s c.take_seats.new.groups
    c.hand_seats.ensures.groups (let long = c.for_each_mut.auto.s in omega (arith, long))
    (λ place d within.
    let at = (c.for_each_mut.ensures place d within).1 in
    subst (λ (p : Group g.row.T.Denot). W (slice_index_or c.hand_seats.new.groups place d) p) {y = slice_index_or c.for_each_mut.new.s place d} at.left
    (subst (λ (p : Group g.row.T.Denot). W p at.after_call.now) {y = slice_index_or c.hand_seats.new.groups place d} at.argument_is at.call))
    c.take_seats.ensures.groups)

pub returns-clause-ran : goal.returns-clause-ran
returns-clause-ran g c =
    let W : Group g.row.T.Denot → Group g.row.T.Denot → Type 0 = WasCalled g.T.Turner.stands g.T.Turner.marks g.T.Turner.high c.args.whole c.in_ok-charge.charge in
    let each = after_all g.T.Turner.stands g.T.Turner.marks g.T.Turner.high c.args.whole c.in_ok-charge.charge c.args.groups.now c.hand_seats.new.groups c.for_each_mut.new.s c.take_seats.new.groups
    c.hand_seats.ensures.groups (let long = c.for_each_mut.auto.s in omega (arith, long))
    (λ place d within.
    let at = (c.for_each_mut.ensures place d within).1 in
    subst (λ (p : Group g.row.T.Denot). W (slice_index_or c.hand_seats.new.groups place d) p) {y = slice_index_or c.for_each_mut.new.s place d} at.left
    (subst (λ (p : Group g.row.T.Denot). W p at.after_call.now) {y = slice_index_or c.hand_seats.new.groups place d} at.argument_is at.call))
    c.take_seats.ensures.groups in
    all_done g.T.Turner.stands g.T.Turner.marks g.T.Turner.high c.args.whole c.args.groups.now c.take_seats.new.groups
    (let a = c.take_seats.auto.groups in let b = c.for_each_mut.auto.s in let d = c.hand_seats.auto.groups in omega (arith, a, b, d))
    (sym c.is_wanting.ensures ∙ c.if-is_wanting.false) each

use Rattle.std.proofs.Common.{◌∷◌, [], ◌++◌, cond, sym, ap, ◌∙◌, subst, arith, append-nil}
use Rattle.proc_table.specs.Table.{AreBetween}
use Rattle.proc_table.specs.declared.places.Place.{Place}
use Rattle.proc_table.proofs.LeaveLemmas.{IsLeaving-next, IsLeaving-rising, StandsAt, stands_at}
use Rattle.proc_table.proofs.tables.ProcTable.leave.Goals as goal
use Rattle.proc_table.proofs.tables.ProcTable.leave.Goals.{then-leave_one, else-leave_one}

pub loop-place-preserved : goal.loop-place-preserved
loop-place-preserved c =
    let stands : StandsAt c.as_slice-place-items.result.now c.loop-place.place-index = stands_at c.as_slice-place-items.result.now c.loop-place.place-index c.loop-place-test.true in
    let here = sym (stands.read (record { pid = 0; key = 0 })) in
    IsLeaving-next c.args.pid c.args.status c.args.heap.now c.loop-place.heap c.leave_one.new.heap c.as_slice-place-items.result.now c.args.self.now.last
    c.loop-place.place-index c.loop-place.left.items c.if-leave_one.left.items _ c.leave_one.result c.loop-place.invariant stands (ap (λ (place : Place). place.key) here)
    c.leave_one.ensures.left c.leave_one.ensures.stays c.leave_one.ensures.takes
    (elim c.if-leave_one.branch [
      | then-leave_one w ↦ (
          ap (λ v. v.items) w.left-is ∙ w.push.ensures.items
          ∙ ap (λ place. c.loop-place.left.items ++ place ∷ []) (stands.read (record { pid = 0; key = 0 }))
          ∙ ap (λ b. c.loop-place.left.items ++ cond b (stands.place ∷ []) []) (sym w.if-leave_one.true)
          )
      | else-leave_one w ↦ (
          ap (λ v. v.items) w.left-is ∙ sym (append-nil c.loop-place.left.items)
          ∙ ap (λ b. c.loop-place.left.items ++ cond b (stands.place ∷ []) []) (sym w.if-leave_one.false)
          )
    ])

pub invariant_of-self : goal.invariant_of-self
invariant_of-self c =
    let places = c.as_slice-place-items.ensures.value ∙ ap (λ v. v.listed) c.self.view_is in
    subst (λ last. AreBetween 0 c.loop-place.left.items last) (sym (ap (λ v. v.last) c.self.view_is))
    (IsLeaving-rising c.args.pid c.args.status c.args.heap.now c.loop-place.heap c.as_slice-place-items.result.now c.args.self.now.last
    c.loop-place.place-index c.loop-place.left.items c.loop-place.invariant
    (subst (λ listed. AreBetween 0 listed c.args.self.now.last) (sym places) c.requires.rising) (omega (arith, c.loop-place-test.false)))

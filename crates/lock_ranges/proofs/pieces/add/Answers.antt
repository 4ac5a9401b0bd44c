use Rattle.std.proofs.Common.{◌≡◌, ◌+◌, ◌-◌, List, ◌∷◌, ◌++◌, [], ap, sym, ◌∙◌, refl, length, arith}
use Rattle.kabi_types.specs.declared.ranges.Range.{Range}
use Rattle.lock_ranges.proofs.Joining.{added_in_last, added_last, as_it_was}
use Rattle.lock_ranges.proofs.pieces.add.Goals as goal

pub returns-in-Some : goal.returns-in-Some
returns-in-Some c =
    let items = c.args.ranges.now.items in
    let end = c.in-Some.end.now in
    let is_last : c.args.ranges.now.len - 1 + 1 ≡ length items = omega (arith, c.in-Some.ensures.variant.0 refl, c.args.ranges.now.ok) in
    added_in_last items (c.args.ranges.now.len - 1) c.args.new end is_last c.in-Some.ensures.value (sym c.touches.ensures ∙ c.if-touches.true)

pub returns-in_ok-push-in-Some-2 : goal.returns-in_ok-push-in-Some-2
returns-in_ok-push-in-Some-2 c =
    let items = c.args.ranges.now.items in
    let end = c.in-Some.end.now in
    let is_last : c.args.ranges.now.len - 1 + 1 ≡ length items = omega (arith, c.in-Some.ensures.variant.0 refl, c.args.ranges.now.ok) in
    c.in_ok-push-in-Some-2.ensures.items
    ∙ ap (λ (l : List Range). l ++ c.args.new ∷ []) (as_it_was items (c.args.ranges.now.len - 1) end c.in-Some.ensures.value)
    ∙ sym (added_last items (c.args.ranges.now.len - 1) c.args.new end is_last c.in-Some.ensures.value (sym c.touches.ensures ∙ c.if-touches.false))

-- Who holds what of a charge word where groups run.
use Rattle.std.proofs.Common.{◌≡◌, ℕ, ◌+◌, ◌≤◌, Bool, true, false, cond, List, [], ◌∷◌, refl, arith}
use Rattle.charge_words.specs.declared.rule.ChargeView.{ChargeView}
use Rattle.charge_words.specs.Rule.{Cells, IsCharged, counted, total}
use Rattle.group_heap.specs.Held.{held_at_boot, held_by_groups}

-- a view is that of boot, or of a group
one_or_other : (boot : Bool) (holds : ℕ) → holds ≡ cond boot holds 0 + cond boot 0 holds
one_or_other true holds = omega arith
one_or_other false holds = omega arith

held_by_both : (views : List ChargeView) → total counted views ≡ held_at_boot views + held_by_groups views
held_by_both [] = refl
held_by_both (v ∷ views) =
    let here = one_or_other v.is_boot (counted v) in let rest = held_by_both views in
    omega (arith, here, rest)

-- the rule leaves the groups at most the whole, where the seat of boot holds what is there beside it
pub whole_for_groups : (whole : ℕ) (s : Cells) → IsCharged (whole + 2816) s → 2816 ≤ held_at_boot s.views → held_by_groups s.views ≤ whole
whole_for_groups whole s rule boot = let sum = rule.sum in let room = rule.room in let both = held_by_both s.views in omega (arith, sum, room, both, boot)

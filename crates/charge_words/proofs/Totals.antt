-- Weights of all views, added up.
use Rattle.std.proofs.Common.{◌≡◌, ℕ, zero, suc, ◌+◌, ◌≤◌, Bool, true, false, cond, List, [], ◌∷◌, ◌++◌, set, refl, ap, sym, arith}
use mathlib.Core.Option.{some, some-injective, some-ne-none}
use lib.ListN.{get_elem?}
use Rattle.charge_words.specs.declared.rule.ChargeView.{ChargeView}
use Rattle.charge_words.specs.Rule.{total, counted, in_use}

pub total_set : (f : ChargeView → ℕ) (views : List ChargeView) (i : ℕ) (v w : ChargeView) → get_elem? views i ≡ some v → total f (set views i w) + f v ≡ total f views + f w
total_set f [] i v w e = absurd (some-ne-none v (sym e))
total_set f (x ∷ xs) zero v w e = let is : f x ≡ f v = ap f (some-injective x v e) in omega arith
total_set f (x ∷ xs) (suc i) v w e = let r = total_set f xs i v w e in omega arith

pub total_snoc : (f : ChargeView → ℕ) (views : List ChargeView) (v : ChargeView) → total f (views ++ v ∷ []) ≡ total f views + f v
total_snoc f [] v = omega arith
total_snoc f (x ∷ xs) v = let r = total_snoc f xs v in omega arith

pub total_at_least : (f : ChargeView → ℕ) (views : List ChargeView) (i : ℕ) (v : ChargeView) → get_elem? views i ≡ some v → f v ≤ total f views
total_at_least f [] i v e = absurd (some-ne-none v (sym e))
total_at_least f (x ∷ xs) zero v e = let is : f x ≡ f v = ap f (some-injective x v e) in omega arith
total_at_least f (x ∷ xs) (suc i) v e = let r = total_at_least f xs i v e in omega arith

unused_counts_nothing : (b : Bool) (n : ℕ) → ◌≡◌ {A = ℕ} (cond b 0 1) 0 → ◌≡◌ {A = ℕ} (cond b 0 n) 0
unused_counts_nothing true n e = refl
unused_counts_nothing false n e = absurd (omega arith)

none_counts : (views : List ChargeView) → total in_use views ≡ 0 → total counted views ≡ 0
none_counts [] e = refl
none_counts (x ∷ xs) e =
    let r = none_counts xs (omega arith) in
    let here = unused_counts_nothing x.is_spent x.holds (omega arith) in
    omega arith

-- where one view is the only one in use, it counts for all
pub one_counts : (views : List ChargeView) (i : ℕ) (v : ChargeView) → get_elem? views i ≡ some v → in_use v ≡ 1 → total in_use views ≡ 1 → total counted views ≡ counted v
one_counts [] i v e live one = absurd (some-ne-none v (sym e))
one_counts (x ∷ xs) zero v e live one =
    let same : in_use x ≡ in_use v = ap in_use (some-injective x v e) in
    let counts : counted x ≡ counted v = ap counted (some-injective x v e) in
    let r = none_counts xs (omega arith) in
    omega arith
one_counts (x ∷ xs) (suc i) v e live one =
    let there = total_at_least in_use xs i v e in
    let here = unused_counts_nothing x.is_spent x.holds (omega arith) in
    let r = one_counts xs i v e live (omega arith) in
    omega arith

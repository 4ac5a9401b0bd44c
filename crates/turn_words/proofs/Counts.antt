-- Weights of all views, added up.
use Rattle.std.proofs.Common.{◌≡◌, ℕ, zero, suc, ◌+◌, ◌≤◌, List, [], ◌∷◌, ◌++◌, set, refl, ap, sym, arith}
use mathlib.Core.Option.{some, some-injective, some-ne-none}
use lib.ListN.{get_elem?}
use Rattle.turn_words.specs.declared.rule.TurnView.{TurnView}
use Rattle.turn_words.specs.Rule.{total, Each}

module _ {T : Type 0} where
  pub total_set : (f : TurnView T → ℕ) (views : List (TurnView T)) (i : ℕ) (v w : TurnView T) → get_elem? views i ≡ some v → total f (set views i w) + f v ≡ total f views + f w
  total_set f [] i v w e = absurd (some-ne-none v (sym e))
  total_set f (x ∷ xs) zero v w e = let is : f x ≡ f v = ap f (some-injective x v e) in omega arith
  total_set f (x ∷ xs) (suc i) v w e = let r = total_set f xs i v w e in omega arith

  pub total_snoc : (f : TurnView T → ℕ) (views : List (TurnView T)) (v : TurnView T) → total f (views ++ v ∷ []) ≡ total f views + f v
  total_snoc f [] v = omega arith
  total_snoc f (x ∷ xs) v = let r = total_snoc f xs v in omega arith

  pub total_at_least : (f : TurnView T → ℕ) (views : List (TurnView T)) (i : ℕ) (v : TurnView T) → get_elem? views i ≡ some v → f v ≤ total f views
  total_at_least f [] i v e = absurd (some-ne-none v (sym e))
  total_at_least f (x ∷ xs) zero v e = let is : f x ≡ f v = ap f (some-injective x v e) in omega arith
  total_at_least f (x ∷ xs) (suc i) v e = let r = total_at_least f xs i v e in omega arith

  -- a weight that is nowhere greater
  pub total_below : (f g : TurnView T → ℕ) (views : List (TurnView T)) → Each views (λ v. f v ≤ g v) → total f views ≤ total g views
  total_below f g [] all = omega arith
  total_below f g (x ∷ xs) all =
      let here = all zero x refl in
      let r = total_below f g xs (λ by v at. all (suc by) v at) in
      omega arith

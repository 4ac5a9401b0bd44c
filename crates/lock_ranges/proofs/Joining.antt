-- One more range behind others, as it is put there.
use Rattle.std.proofs.Common.{◌≡◌, ℕ, zero, suc, ◌+◌, true, false, List, [], ◌∷◌, ◌++◌, length, get_or, set, ap, sym, ◌∙◌, subst, arith}
use Rattle.std.proofs.lemmas.List.{set-get_or}
use Rattle.kabi_types.specs.declared.ranges.Range.{Range}
use Rattle.kabi_types.specs.Ranges.{added, touch}
use Rattle.lock_ranges.proofs.Places.{added_behind, added_grown, grown}

-- the last of these grows where the new one touches it
pub added_in_last : (ranges : List Range) (index : ℕ) (new end : Range) → index + 1 ≡ length ranges → end ≡ get_or ranges index end → touch end new ≡ true
    → set ranges index (grown end new) ≡ added ranges new
added_in_last [] index new end is_last is touching = absurd (omega arith)
added_in_last (range ∷ []) zero new end is_last is touching =
    let touching_it : touch range new ≡ true = subst (λ (r : Range). touch r new ≡ true) is touching in
    ap (λ (r : Range). grown r new ∷ []) is ∙ sym (added_grown range new touching_it)
added_in_last (range ∷ []) (suc index) new end is_last is touching = absurd (omega arith)
added_in_last (range ∷ next ∷ ranges) zero new end is_last is touching = absurd (omega arith)
added_in_last (range ∷ next ∷ ranges) (suc index) new end is_last is touching =
    ap (λ (l : List Range). range ∷ l) (added_in_last (next ∷ ranges) index new end (omega arith) is touching)

-- else it stands behind
pub added_last : (ranges : List Range) (index : ℕ) (new end : Range) → index + 1 ≡ length ranges → end ≡ get_or ranges index end → touch end new ≡ false
    → added ranges new ≡ ranges ++ new ∷ []
added_last [] index new end is_last is apart = absurd (omega arith)
added_last (range ∷ []) zero new end is_last is apart = added_behind range new (subst (λ (r : Range). touch r new ≡ false) is apart)
added_last (range ∷ []) (suc index) new end is_last is apart = absurd (omega arith)
added_last (range ∷ next ∷ ranges) zero new end is_last is apart = absurd (omega arith)
added_last (range ∷ next ∷ ranges) (suc index) new end is_last is apart =
    ap (λ (l : List Range). range ∷ l) (added_last (next ∷ ranges) index new end (omega arith) is apart)

-- what was lent and is as it was
pub as_it_was : (ranges : List Range) (index : ℕ) (end : Range) → end ≡ get_or ranges index end → set ranges index end ≡ ranges
as_it_was ranges index end is = subst (λ (r : Range). set ranges index r ≡ ranges) (sym is) (set-get_or ranges index end)

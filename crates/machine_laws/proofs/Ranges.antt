-- What stands in two lists of one length after the same places of both have changed.
use Rattle.std.proofs.Common.{◌≡◌, ℕ, zero, suc, ◌+◌, List, [], ◌∷◌, ◌++◌, length, take, drop, replicate, slice_index_or, refl, ap, subst, ◌⊎◌, inl, inr, arith}
use Rattle.posix_defs.specs.Memory.{with_range}

-- At a place both have what they had, or both what was put there, or both end before it.
pub data Ranged {X Y : Type 0} (xs : List X) (ys : List Y) (x d : X) (y e : Y) (xs' : List X) (ys' : List Y) (page : ℕ) : Type 0 where
  untouched : slice_index_or xs' page d ≡ slice_index_or xs page d → slice_index_or ys' page e ≡ slice_index_or ys page e → Ranged xs ys x d y e xs' ys' page
  put : slice_index_or xs' page d ≡ x → slice_index_or ys' page e ≡ y → Ranged xs ys x d y e xs' ys' page
  past : slice_index_or xs' page d ≡ d → slice_index_or ys' page e ≡ e → Ranged xs ys x d y e xs' ys' page

module _ {X Y : Type 0} (x d : X) (y e : Y) where
  abbrev Filled : ℕ → ℕ → Type 0
  Filled count page = ((slice_index_or (replicate count x ++ []) page d ≡ x) × (slice_index_or (replicate count y ++ []) page e ≡ y))
      ⊎ ((slice_index_or (replicate count x ++ []) page d ≡ d) × (slice_index_or (replicate count y ++ []) page e ≡ e))

  -- behind the end
  filled : (count page : ℕ) → Filled count page
  filled zero zero = inr (refl, refl)
  filled zero (suc page) = inr (refl, refl)
  filled (suc count) zero = inl (refl, refl)
  filled (suc count) (suc page) = filled count page

  from_first : (count page : ℕ) (xs : List X) (ys : List Y) → length xs ≡ length ys
      → Ranged xs ys x d y e (replicate count x ++ drop count xs) (replicate count y ++ drop count ys) page
  from_first zero page xs ys same = untouched refl refl
  from_first (suc count) zero xs ys same = put refl refl
  from_first (suc count) (suc page) [] [] same = elim (filled count page) [ inl two ↦ put two.0 two.1 | inr two ↦ past two.0 two.1 ]
  from_first (suc count) (suc page) [] (b ∷ ys) same = absurd (omega arith)
  from_first (suc count) (suc page) (a ∷ xs) [] same = absurd (omega arith)
  from_first (suc count) (suc page) (a ∷ xs) (b ∷ ys) same = go (from_first count page xs ys (omega arith))
    where
      go : Ranged xs ys x d y e (replicate count x ++ drop count xs) (replicate count y ++ drop count ys) page
          → Ranged (a ∷ xs) (b ∷ ys) x d y e (replicate (suc count) x ++ drop (suc count) (a ∷ xs)) (replicate (suc count) y ++ drop (suc count) (b ∷ ys)) (suc page)
      go (untouched one two) = untouched one two
      go (put one two) = put one two
      go (past one two) = past one two

  ranged_at : (first count behind page : ℕ) (xs : List X) (ys : List Y) → behind ≡ first + count → length xs ≡ length ys
      → Ranged xs ys x d y e (take first xs ++ replicate count x ++ drop behind xs) (take first ys ++ replicate count y ++ drop behind ys) page
  ranged_at zero count behind page xs ys is same = subst (λ k. Ranged xs ys x d y e (replicate count x ++ drop k xs) (replicate count y ++ drop k ys) page)
      (let at : count ≡ behind = omega arith in at) (from_first count page xs ys same)
  ranged_at (suc first) count zero page xs ys is same = absurd (omega arith)
  ranged_at (suc first) count (suc behind) page [] [] is same = elim (filled count page) [ inl two ↦ put two.0 two.1 | inr two ↦ past two.0 two.1 ]
  ranged_at (suc first) count (suc behind) page [] (b ∷ ys) is same = absurd (omega arith)
  ranged_at (suc first) count (suc behind) page (a ∷ xs) [] is same = absurd (omega arith)
  ranged_at (suc first) count (suc behind) zero (a ∷ xs) (b ∷ ys) is same = untouched refl refl
  ranged_at (suc first) count (suc behind) (suc page) (a ∷ xs) (b ∷ ys) is same = go (ranged_at first count behind page xs ys (omega arith) (omega arith))
    where
      go : Ranged xs ys x d y e (take first xs ++ replicate count x ++ drop behind xs) (take first ys ++ replicate count y ++ drop behind ys) page
          → Ranged (a ∷ xs) (b ∷ ys) x d y e (take (suc first) (a ∷ xs) ++ replicate count x ++ drop (suc behind) (a ∷ xs))
          (take (suc first) (b ∷ ys) ++ replicate count y ++ drop (suc behind) (b ∷ ys)) (suc page)
      go (untouched one two) = untouched one two
      go (put one two) = put one two
      go (past one two) = past one two

  pub ranged : (first count page : ℕ) (xs : List X) (ys : List Y) → length xs ≡ length ys → Ranged xs ys x d y e (with_range xs first count x) (with_range ys first count y) page
  ranged first count page xs ys same = ranged_at first count (first + count) page xs ys refl same

-- they are as long as each other still
length_none : {X Y : Type 0} (count : ℕ) (x : X) (y : Y) → length (replicate count x ++ []) ≡ length (replicate count y ++ [])
length_none zero x y = refl
length_none (suc count) x y = ap suc (length_none count x y)

length_first : {X Y : Type 0} (count : ℕ) (xs : List X) (ys : List Y) (x : X) (y : Y) → length xs ≡ length ys
    → length (replicate count x ++ drop count xs) ≡ length (replicate count y ++ drop count ys)
length_first zero xs ys x y same = same
length_first (suc count) [] [] x y same = ap suc (length_none count x y)
length_first (suc count) [] (b ∷ ys) x y same = absurd (omega arith)
length_first (suc count) (a ∷ xs) [] x y same = absurd (omega arith)
length_first (suc count) (a ∷ xs) (b ∷ ys) x y same = ap suc (length_first count xs ys x y (omega arith))

length_at : {X Y : Type 0} (first count behind : ℕ) (xs : List X) (ys : List Y) (x : X) (y : Y) → behind ≡ first + count → length xs ≡ length ys
    → length (take first xs ++ replicate count x ++ drop behind xs) ≡ length (take first ys ++ replicate count y ++ drop behind ys)
length_at zero count behind xs ys x y is same = subst (λ k. length (replicate count x ++ drop k xs) ≡ length (replicate count y ++ drop k ys))
    (let at : count ≡ behind = omega arith in at) (length_first count xs ys x y same)
length_at (suc first) count zero xs ys x y is same = absurd (omega arith)
length_at (suc first) count (suc behind) [] [] x y is same = length_none count x y
length_at (suc first) count (suc behind) [] (b ∷ ys) x y is same = absurd (omega arith)
length_at (suc first) count (suc behind) (a ∷ xs) [] x y is same = absurd (omega arith)
length_at (suc first) count (suc behind) (a ∷ xs) (b ∷ ys) x y is same = ap suc (length_at first count behind xs ys x y (omega arith) (omega arith))

pub length_ranged : {X Y : Type 0} (first count : ℕ) (xs : List X) (ys : List Y) (x : X) (y : Y) → length xs ≡ length ys
    → length (with_range xs first count x) ≡ length (with_range ys first count y)
length_ranged first count xs ys x y same = length_at first count (first + count) xs ys x y refl same

-- What the objects of a class sum up to, the things sum up to that they stand for.
use Rattle.std.proofs.Common.{◌≡◌, ◌≢◌, ℕ, zero, suc, ◌+◌, true, cond, List, [], ◌∷◌, map, length, Option, None, Some, is_some, refl, ap, sym, ◌∙◌, inl, inr, arith, slice_set}
use Rattle.std.specs.Prelude.{count_by, slice_index, sum_by}
use Rattle.std.specs.List.{range_with_len, sum}
use Rattle.std.proofs.lemmas.Bool.{cases_eq}
use Rattle.std.proofs.lemmas.List.{get_or-set_other, get_or-set_same}
use Rattle.std.proofs.lemmas.List.Sums.{sum_by-cons}
use Rattle.kheap_slabs.specs.Objects.{InUse, object}
use Rattle.kheap_slabs.proofs.ObjectLemmas.{InUse-within}
use Rattle.open_laws.specs.Placed.{ArePlaced}

module _ {Y : Type 0} (g : ℕ → Option Y → ℕ) where
  -- what the things from a place on sum up to
  abbrev pub sum_from : ℕ → List (Option Y) → ℕ
  sum_from first [] = 0
  sum_from first (thing ∷ things) = g first thing + sum_from (first + 1) things

  module _ (none : (place : ℕ) → g place None ≡ 0) where
    nothing_from : (first : ℕ) (things : List (Option Y)) → ((place : ℕ) → object things place ≡ None) → sum_from first things ≡ 0
    nothing_from first [] gone = refl
    nothing_from first (thing ∷ things) gone =
        let here = ap (g first) (gone 0) in let blank = none first in
        let rest = nothing_from (first + 1) things (λ place. gone (suc place)) in omega (arith, here, blank, rest)

    -- one of them goes
    one_from : (first : ℕ) (things : List (Option Y)) (place : ℕ) (y : Y) → object things place ≡ Some y
        → sum_from first things ≡ g (first + place) (Some y) + sum_from first (slice_set things place None)
    one_from first [] zero y is = absurd (cc)
    one_from first [] (suc place) y is = absurd (cc)
    one_from first (thing ∷ things) zero y is =
        let here = ap (g first) is in let blank = none first in
        let at = ap (λ n. g n (Some y)) (let e : first ≡ first + 0 = omega arith in e) in omega (arith, here, blank, at)
    one_from first (thing ∷ things) (suc place) y is =
        let rest = one_from (first + 1) things place y is in
        let at = ap (λ n. g n (Some y)) (let e : first + 1 + place ≡ first + suc place = omega arith in e) in omega (arith, rest, at)

module _ {X Y : Type 0} (f : Option X → ℕ) (g : ℕ → Option Y → ℕ) (f_none : f None ≡ 0) (g_none : (place : ℕ) → g place None ≡ 0) where
  not_both : (o : Option Y) (y : Y) → o ≡ None → o ≡ Some y → ⊥
  not_both o y e f = cc

  nobody : (o : Option X) (x : X) → o ≡ None → o ≡ Some x → ⊥
  nobody o x e f = cc

  unused : {o : Option X} → o ≡ None → is_some o ≡ true → ⊥
  unused e some = let both = ap is_some e in cc

  none_there : (things : List (Option Y)) → ((place : ℕ) (y : Y) → object things place ≡ Some y → ⊥) → (place : ℕ) → object things place ≡ None
  none_there things never place = by_case (object things place) refl
    where
      by_case : (o : Option Y) → object things place ≡ o → object things place ≡ None
      by_case None is = is
      by_case (Some y) is = absurd (never place y is)

  -- Where objects stand for things, each as much as its own, all are as much as all.
  pub sum_placed : (says : ℕ → X → Y → Type 0) (number : ℕ → ℕ) (objects : List (Option X)) (things : List (Option Y)) → ArePlaced says number objects (object things)
      → ((key : ℕ) (x : X) (y : Y) → object objects key ≡ Some x → object things (number key) ≡ Some y → f (Some x) ≡ g (number key) (Some y))
      → sum_by f objects ≡ sum_from g 0 things
  sum_placed says number [] things placed same =
      sym (nothing_from g g_none 0 things (none_there things (λ place y is. let it = placed.found place y is in no_key it.0 it.1)))
    where
      no_key : (key : ℕ) → InUse {X = X} [] key → ⊥
      no_key zero used = cc
      no_key (suc key) used = cc
  sum_placed says number (None ∷ objects) things placed same =
      let rest = sum_placed (λ key. says (suc key)) (λ key. number (suc key)) objects things (record {
        there = λ key x is. placed.there (suc key) x is;
        means = λ key x y is at. placed.means (suc key) x y is at;
        once = λ one other used also alike. same_key one other (placed.once (suc one) (suc other) used also alike);
        found = λ place y is. found_behind place y is (placed.found place y is);
      }) (λ key x y is at. same (suc key) x y is at) in
      let whole = sum_by-cons f None objects in
      omega (arith, rest, whole, f_none)
    where
      same_key : (one other : ℕ) → suc one ≡ suc other → one ≡ other
      same_key one other e = omega arith

      found_behind : (place : ℕ) (y : Y) → object things place ≡ Some y → (key : ℕ) × InUse (None ∷ objects) key × (number key ≡ place)
          → (key : ℕ) × InUse objects key × (number (suc key) ≡ place)
      found_behind place y is (zero, used, at) = absurd (cc)
      found_behind place y is (suc key, used, at) = (key, used, at)
  sum_placed says number (Some x ∷ objects) things placed same =
      let it = placed.there 0 x refl in
      let place = number 0 in
      let left = slice_set things place None in
      let rest = sum_placed (λ key. says (suc key)) (λ key. number (suc key)) objects left (record {
        there = λ key other is. let that = placed.there (suc key) other is in (that.0, still (number (suc key)) (apart key (ap is_some is)) ∙ that.1);
        means = λ key other y is at. placed.means (suc key) other y is (sym (still (number (suc key)) (apart key (ap is_some is))) ∙ at);
        once = λ one other used also alike. same_key one other (placed.once (suc one) (suc other) used also alike);
        found = λ at y is. found_left at y is (was at y is);
      }) (λ key other y is at. same (suc key) other y is (sym (still (number (suc key)) (apart key (ap is_some is))) ∙ at)) in
      let whole = sum_by-cons f (Some x) objects in
      let one = one_from g g_none 0 things place it.0 it.1 in
      let here = same 0 x it.0 refl it.1 in
      let at = ap (λ n. g n (Some it.0)) (let e : 0 + place ≡ place = omega arith in e) in
      omega (arith, rest, whole, one, here, at)
    where
      same_key : (one other : ℕ) → suc one ≡ suc other → one ≡ other
      same_key one other e = omega arith

      apart : (key : ℕ) → InUse objects key → number (suc key) ≢ number 0
      apart key used alike = let e : suc key ≡ 0 = placed.once (suc key) 0 used refl alike in omega (arith, e)

      still : (at : ℕ) → at ≢ number 0 → object (slice_set things (number 0) None) at ≡ object things at
      still at other = get_or-set_other things (number 0) at None None other

      gone : object (slice_set things (number 0) None) (number 0) ≡ None
      gone = let it = placed.there 0 x refl in get_or-set_same things (number 0) None None (InUse-within things (number 0) (ap is_some it.1))

      was : (at : ℕ) (y : Y) → object (slice_set things (number 0) None) at ≡ Some y → (at ≢ number 0) × (object things at ≡ Some y)
      was at y is = elim (cases_eq at (number 0)) [
        | inl here ↦ absurd (not_both (object (slice_set things (number 0) None) at) y (ap (object (slice_set things (number 0) None)) here ∙ gone) is)
        | inr other ↦ (other, sym (still at other) ∙ is)
      ]

      found_left : (at : ℕ) (y : Y) → object (slice_set things (number 0) None) at ≡ Some y → (at ≢ number 0) × (object things at ≡ Some y)
          → (key : ℕ) × InUse objects key × (number (suc key) ≡ at)
      found_left at y is there = by_key (placed.found at y there.1)
        where
          by_key : (key : ℕ) × InUse (Some x ∷ objects) key × (number key ≡ at) → (key : ℕ) × InUse objects key × (number (suc key) ≡ at)
          by_key (zero, used, same) = absurd (there.0 (sym same))
          by_key (suc key, used, same) = (key, used, same)

-- ---- sums over places as numbers

-- the things from a place on, each by what a list has at its place
pub sum_ranged : {Y : Type 0} (h : ℕ → ℕ → ℕ) (unread : Option Y → ℕ) (lengths : List ℕ) (first : ℕ) (things : List (Option Y))
    → ((i : ℕ) → slice_index lengths (first + i) ≡ slice_index (map unread things) i)
    → sum (map (λ place. h place (slice_index lengths place)) (range_with_len first (length things))) ≡ sum_from (λ place thing. h place (unread thing)) first things
sum_ranged h unread lengths first [] same = refl
sum_ranged h unread lengths first (thing ∷ things) same =
    let rest = sum_ranged h unread lengths (first + 1) things (λ i. ap (slice_index lengths) (let e : first + 1 + i ≡ first + suc i = omega arith in e) ∙ same (suc i)) in
    let whole = sum_by-cons (λ (n : ℕ). n) (h first (slice_index lengths first)) (map (λ place. h place (slice_index lengths place)) (range_with_len (first + 1) (length things))) in
    let here = ap (h first) (ap (slice_index lengths) (let e : first ≡ first + 0 = omega arith in e) ∙ same 0) in
    omega (arith, rest, whole, here)

-- how many are there
pub sum_there : {Y : Type 0} (first : ℕ) (things : List (Option Y)) → sum_from (λ place thing. cond (is_some thing) 1 0) first things ≡ count_by is_some things
sum_there first [] = refl
sum_there {Y} first (thing ∷ things) =
    let rest = sum_there (first + 1) things in
    let whole = sum_by-cons (λ (o : Option Y). cond (is_some o) 1 0) thing things in
    omega (arith, rest, whole)

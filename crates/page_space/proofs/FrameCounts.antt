-- How many frames and how many nodes the account counts, and how many pages and nodes there are.
use Rattle.std.proofs.Common.{◌≡◌, ◌⊎◌, ℕ, zero, suc, ◌+◌, ◌<◌, ◌≤◌, Bool, true, false, cond, eqb, ltb, is_some, List, [], ◌∷◌, Option, None, Some, count_by, refl, sym, ap, ◌∙◌, inl, inr, ⊎_elim, arith}
use Rattle.std.specs.List.{range_with_len}
use Rattle.std.proofs.lemmas.Bool.{cases_eq, eq-eqb, ne_eqb, cond-true, cond-false, lt-ltb, ltb-true, false≢true}
use Rattle.std.proofs.lemmas.List.Sums.{sum_by-cons}
use Rattle.posix_defs.specs.Memory.{Frames, namings, frames_named}
use Rattle.kheap_slabs.specs.Objects.{InUse, count}
use Rattle.kheap_slabs.specs.declared.objects.Page.{Page}
use Rattle.page_space.specs.Accounts.{AreFrames}

-- one number that passes may be left out
without_one : (test : ℕ → Bool) (one n from : ℕ) → from ≤ one → one < from + n → test one ≡ true
    → count_by test (range_with_len from n) ≡ count_by (λ k. cond (eqb k one) false (test k)) (range_with_len from n) + 1
without_one test one zero from above below passes = absurd (omega arith)
without_one test one (suc n) from above below passes = ⊎_elim
    (λ here.
    let first : cond (test from) 1 0 ≡ 1 = cond-true {A = ℕ} (test from) 1 0 (ap test here ∙ passes) in
    let gone : cond (cond (eqb from one) false (test from)) 1 0 ≡ 0 = cond-false {A = ℕ} (cond (eqb from one) false (test from)) 1 0 (cond-true (eqb from one) false (test from) (eq-eqb from one here)) in
    omega (
      arith,
      sum_by-cons (λ k. cond {A = ℕ} (test k) 1 0) from (range_with_len (from + 1) n),
      sum_by-cons (λ k. cond {A = ℕ} (cond (eqb k one) false (test k)) 1 0) from (range_with_len (from + 1) n),
      first,
      gone,
      beyond n (from + 1) (omega (arith, here)),
    ))
    (λ apart.
    let same : cond {A = ℕ} (cond (eqb from one) false (test from)) 1 0 ≡ cond {A = ℕ} (test from) 1 0 =
    ap (λ b. cond {A = ℕ} b 1 0) (cond-false (eqb from one) false (test from) (ne_eqb from one apart)) in
    omega (
      arith,
      sum_by-cons (λ k. cond {A = ℕ} (test k) 1 0) from (range_with_len (from + 1) n),
      sum_by-cons (λ k. cond {A = ℕ} (cond (eqb k one) false (test k)) 1 0) from (range_with_len (from + 1) n),
      same,
      without_one test one n (from + 1) (omega arith) (omega arith) passes,
    ))
    (cases_eq from one)
  where
    beyond : (m start : ℕ) → one < start → count_by test (range_with_len start m) ≡ count_by (λ k. cond (eqb k one) false (test k)) (range_with_len start m)
    beyond zero start past = refl
    beyond (suc m) start past =
        let same : cond {A = ℕ} (cond (eqb start one) false (test start)) 1 0 ≡ cond {A = ℕ} (test start) 1 0 =
        ap (λ b. cond {A = ℕ} b 1 0) (cond-false (eqb start one) false (test start) (ne_eqb start one (λ equal. omega arith))) in
        omega (
          arith,
          sum_by-cons (λ k. cond {A = ℕ} (test k) 1 0) start (range_with_len (start + 1) m),
          sum_by-cons (λ k. cond {A = ℕ} (cond (eqb k one) false (test k)) 1 0) start (range_with_len (start + 1) m),
          same,
          beyond m (start + 1) (omega arith),
        )

none_passes : (test : ℕ → Bool) (n from : ℕ) → ((k : ℕ) → from ≤ k → k < from + n → test k ≡ false) → count_by test (range_with_len from n) ≡ 0
none_passes test zero from none = refl
none_passes test (suc n) from none =
    omega (
      arith,
      sum_by-cons (λ k. cond {A = ℕ} (test k) 1 0) from (range_with_len (from + 1) n),
      cond-false {A = ℕ} (test from) 1 0 (none from (omega arith) (omega arith)),
      none_passes test n (from + 1) (λ k above below. none k (omega arith) (omega arith)),
    )

-- The objects that are there are as many as the numbers below a limit that pass, where each of them has one of these numbers.
pub numbers_counted : {X : Type 0} (objects : List (Option X)) (number : ℕ → ℕ) (test : ℕ → Bool) (made : ℕ)
    → ((key : ℕ) → InUse objects key → (number key < made) × (test (number key) ≡ true))
    → ((one other : ℕ) → InUse objects one → InUse objects other → number one ≡ number other → one ≡ other)
    → ((n : ℕ) → n < made → test n ≡ true → (key : ℕ) × InUse objects key × (number key ≡ n))
    → count objects ≡ count_by test (range_with_len 0 made)
numbers_counted [] number test made passes once found = sym (none_passes test made 0 (λ k above below. by (test k) refl below))
  where
    by : {k : ℕ} (b : Bool) → test k ≡ b → k < 0 + made → test k ≡ false
    by false is below = is
    by {k} true is below = absurd (false≢true (let there = found k (omega arith) is in there.1))
numbers_counted {X} (None ∷ objects) number test made passes once found =
    let rest : count objects ≡ count_by test (range_with_len 0 made) =
    numbers_counted objects (λ key. number (suc key)) test made
    (λ key used. passes (suc key) used)
    (λ one other used used_other same. before one other (once (suc one) (suc other) used used_other same))
    (λ n below is. behind (found n below is)) in
    omega (arith, sum_by-cons (λ (x : Option X). cond {A = ℕ} (is_some x) 1 0) None objects, rest)
  where
    before : (a b : ℕ) → suc a ≡ suc b → a ≡ b
    before a b same = omega arith

    behind : {n : ℕ} → (key : ℕ) × InUse (None ∷ objects) key × (number key ≡ n) → (key : ℕ) × InUse objects key × (number (suc key) ≡ n)
    behind (zero, used, is) = absurd (false≢true used)
    behind (suc key, used, is) = (key, used, is)
numbers_counted {X} (Some x ∷ objects) number test made passes once found =
    let first : (number 0 < made) × (test (number 0) ≡ true) = passes 0 refl in
    let test' : ℕ → Bool = λ k. cond (eqb k (number 0)) false (test k) in
    let rest : count objects ≡ count_by test' (range_with_len 0 made) =
    numbers_counted objects (λ key. number (suc key)) test' made
    (λ key used. let other = passes (suc key) used in (
      other.0,
      cond-false (eqb (number (suc key)) (number 0)) false (test (number (suc key)))
          (ne_eqb (number (suc key)) (number 0) (λ same. differ key (once (suc key) 0 used refl same))) ∙ other.1,
    ))
    (λ one other used used_other same. before one other (once (suc one) (suc other) used used_other same))
    (λ n below is. behind n is (cases_eq n (number 0)) below) in
    omega (
      arith,
      sum_by-cons (λ (y : Option X). cond {A = ℕ} (is_some y) 1 0) (Some x) objects,
      rest,
      without_one test (number 0) made 0 (omega arith) (omega (arith, first.0)) first.1,
    )
  where
    before : (a b : ℕ) → suc a ≡ suc b → a ≡ b
    before a b same = omega arith

    differ : (key : ℕ) → suc key ≡ 0 → ⊥
    differ key same = omega arith

    there : (n : ℕ) → (n ≡ number 0 → ⊥) → (key : ℕ) × InUse (Some x ∷ objects) key × (number key ≡ n) → (key : ℕ) × InUse objects key × (number (suc key) ≡ n)
    there n apart (zero, used, is) = absurd (apart (sym is))
    there n apart (suc key, used, is) = (key, used, is)

    behind : (n : ℕ) → cond (eqb n (number 0)) false (test n) ≡ true → (n ≡ number 0) ⊎ (n ≡ number 0 → ⊥) → n < made → (key : ℕ) × InUse objects key × (number (suc key) ≡ n)
    behind n is (inl same) below = absurd (false≢true (sym (cond-true (eqb n (number 0)) false (test n) (eq-eqb n (number 0) same)) ∙ is))
    behind n is (inr apart) below = there n apart (found n below (sym (cond-false (eqb n (number 0)) false (test n) (ne_eqb n (number 0) apart)) ∙ is))

-- as many frames are named as there are pages
pub frames_are_pages : (number : ℕ → ℕ) (pages : List (Option Page)) (frames : Frames) → AreFrames number pages frames
    → ((key : ℕ) → InUse pages key → 0 < namings frames.places (number key)) → count pages ≡ frames_named frames
frames_are_pages number pages frames are named =
    numbers_counted pages number (λ frame. ltb 0 (namings frames.places frame)) frames.made
    (λ key used. (are.made key used, lt-ltb 0 (namings frames.places (number key)) (named key used)))
    are.once
    (λ n below is. are.found n (ltb-true 0 (namings frames.places n) is))

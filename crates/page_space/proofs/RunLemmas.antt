-- A search for the lowest run of unmapped pages, page by page.
use Rattle.std.proofs.Common.{◌≡◌, ◌≢◌, ◌⊎◌, ℕ, zero, suc, ◌+◌, ◌-◌, ◌<◌, ◌≤◌, Bool, true, false, not, ◌&&◌, leb, find, None, Some, refl, sym, ap, ◌∙◌, subst, inl, inr, ⊎_elim, arith}
use Rattle.std.specs.List.{list_all, range_with_len}
use Rattle.std.proofs.lemmas.Bool.{cases_lt, cases_eq, and_from, and_left, and_right, le-leb, lt-leb, cond-true, cond-false}
use Rattle.posix_defs.specs.Memory.{is_free_run, lowest_free_run}
use Rattle.page_space.specs.Runs.{IsFreeFrom}

pub all_pass : (p : ℕ → Bool) (a n : ℕ) → ((k : ℕ) → a ≤ k → k < a + n → p k ≡ true) → list_all p (range_with_len a n) ≡ true
all_pass p a zero pass = refl
all_pass p a (suc n) pass =
    and_from (p a) (list_all p (range_with_len (a + 1) n)) (pass a (omega arith) (omega arith))
    (all_pass p (a + 1) n (λ k above below. pass k (omega arith) (omega arith)))

pub one_fails : (p : ℕ → Bool) (a n k : ℕ) → a ≤ k → k < a + n → p k ≡ false → list_all p (range_with_len a n) ≡ false
one_fails p a zero k above below fails = absurd (omega arith)
one_fails p a (suc n) k above below fails =
    ⊎_elim
    (λ same. and_left (p a) (list_all p (range_with_len (a + 1) n)) (ap p same ∙ fails))
    (λ apart. and_right (p a) (list_all p (range_with_len (a + 1) n)) (one_fails p (a + 1) n k (omega arith) (omega arith) fails))
    (cases_eq a k)

found_at : (p : ℕ → Bool) (a n r : ℕ) → a ≤ r → r < a + n → p r ≡ true → ((k : ℕ) → a ≤ k → k < r → p k ≡ false) → find p (range_with_len a n) ≡ Some r
found_at p a zero r above below passes none = absurd (omega arith)
found_at p a (suc n) r above below passes none =
    ⊎_elim
    (λ same. cond-true (p a) (Some a) (find p (range_with_len (a + 1) n)) (ap p same ∙ passes) ∙ ap Some same)
    (λ apart. cond-false (p a) (Some a) (find p (range_with_len (a + 1) n)) (none a (omega arith) (omega arith))
    ∙ found_at p (a + 1) n r (omega arith) (omega arith) passes (λ k low high. none k (omega arith) high))
    (cases_eq a r)

found_none : (p : ℕ → Bool) (a n : ℕ) → ((k : ℕ) → a ≤ k → k < a + n → p k ≡ false) → find p (range_with_len a n) ≡ None
found_none p a zero none = refl
found_none p a (suc n) none =
    cond-false (p a) (Some a) (find p (range_with_len (a + 1) n)) (none a (omega arith) (omega arith))
    ∙ found_none p (a + 1) n (λ k low high. none k (omega arith) (omega arith))

-- a run is free where it lies in the address space and none of its pages is mapped
run_free : (mapped : ℕ → Bool) (count first : ℕ) → first + count ≤ 256 → ((k : ℕ) → first ≤ k → k < first + count → mapped k ≡ false) → is_free_run mapped count first ≡ true
run_free mapped count first within free =
    and_from (leb (first + count) 256) (list_all (λ k. not (mapped k)) (range_with_len first count)) (le-leb (first + count) 256 within)
    (all_pass (λ k. not (mapped k)) first count (λ k low high. ap not (free k low high)))

run_taken : (mapped : ℕ → Bool) (count first k : ℕ) → first ≤ k → k < first + count → mapped k ≡ true → is_free_run mapped count first ≡ false
run_taken mapped count first k low high taken =
    and_right (leb (first + count) 256) (list_all (λ j. not (mapped j)) (range_with_len first count))
    (one_fails (λ j. not (mapped j)) first count k low high (ap not taken))

run_outside : (mapped : ℕ → Bool) (count first : ℕ) → 256 < first + count → is_free_run mapped count first ≡ false
run_outside mapped count first outside =
    and_left (leb (first + count) 256) (list_all (λ j. not (mapped j)) (range_with_len first count)) (lt-leb (first + count) 256 outside)

-- The pages below this one have been looked at: so many just before it are unmapped, the one before these is mapped or
-- page 0, and no run of that length ends below.
pub record IsSearched (mapped : ℕ → Bool) (pages unmapped page : ℕ) : Type 0 where
  pub behind : unmapped < page
  pub short : unmapped < pages
  pub free : (k : ℕ) → page ≤ k + unmapped → k < page → mapped k ≡ false
  pub before : (unmapped + 1 ≡ page) ⊎ ((k : ℕ) → k + unmapped + 1 ≡ page → mapped k ≡ true)
  pub none : (first : ℕ) → 1 ≤ first → first + pages ≤ page → is_free_run mapped pages first ≡ false

module _ (mapped : ℕ → Bool) (pages : ℕ) where
  pub IsSearched-none : 0 < pages → IsSearched mapped pages 0 1
  IsSearched-none some = record {
    behind = omega arith;
    short = some;
    free = λ k above below. absurd (omega arith);
    before = inl refl;
    none = λ first low high. absurd (omega arith);
  }

  pub IsSearched-mapped : (unmapped page : ℕ) → IsSearched mapped pages unmapped page → mapped page ≡ true → IsSearched mapped pages 0 (page + 1)
  IsSearched-mapped unmapped page known is = record {
    behind = omega arith;
    short = omega (arith, known.short);
    free = λ k above below. absurd (omega arith);
    before = inr (λ k at. let same : page ≡ k = omega arith in subst (λ j. mapped j ≡ true) same is);
    none = λ first low high. ⊎_elim
        (λ now. run_taken mapped pages first page (omega (arith, known.short)) (omega arith) is)
        (λ earlier. known.none first low (omega arith))
        (cases_lt page (first + pages));
  }

  -- the run that ends with this page isn't free
  ends_taken : (unmapped page : ℕ) → IsSearched mapped pages unmapped page → unmapped + 1 < pages → (first : ℕ) → 1 ≤ first → first + pages ≡ page + 1 → is_free_run mapped pages first ≡ false
  ends_taken unmapped page known short first low ends =
      ⊎_elim
      (λ whole. absurd (omega arith))
      (λ taken. run_taken mapped pages first (page - unmapped - 1) (omega arith) (omega (arith, known.behind)) (taken (page - unmapped - 1) (omega (arith, known.behind))))
      known.before

  pub IsSearched-unmapped : (unmapped page : ℕ) → IsSearched mapped pages unmapped page → mapped page ≡ false → unmapped + 1 ≢ pages → IsSearched mapped pages (unmapped + 1) (page + 1)
  IsSearched-unmapped unmapped page known is more = record {
    behind = omega (arith, known.behind);
    short = omega (arith, known.short);
    free = λ k above below. ⊎_elim
        (λ here. subst (λ j. mapped j ≡ false) (sym here) is)
        (λ apart. known.free k (omega arith) (omega arith))
        (cases_eq k page);
    before = ⊎_elim (λ whole. inl (omega arith)) (λ taken. inr (λ k at. taken k (omega arith))) known.before;
    none = λ first low high. ⊎_elim
        (λ now. ends_taken unmapped page known (omega (arith, known.short)) first low (omega arith))
        (λ earlier. known.none first low (omega arith))
        (cases_lt page (first + pages));
  }

  -- the run is long enough
  module _ (unmapped page : ℕ) (known : IsSearched mapped pages unmapped page) (is : mapped page ≡ false) (long : unmapped + 1 ≡ pages) (within : page < 256) where
    pages_free : (k : ℕ) → page + 1 - pages ≤ k → k < page + 1 - pages + pages → mapped k ≡ false
    pages_free k above below = ⊎_elim
        (λ here. subst (λ j. mapped j ≡ false) (sym here) is)
        (λ apart. known.free k (omega (arith, known.behind)) (omega (arith, known.behind)))
        (cases_eq k page)

    pub run_found : lowest_free_run mapped pages ≡ Some (page + 1 - pages)
    unfolding lowest_free_run
    run_found = found_at (is_free_run mapped pages) 1 255 (page + 1 - pages) (omega (arith, known.behind)) (omega (arith, known.behind))
        (run_free mapped pages (page + 1 - pages) (omega (arith, known.behind)) pages_free)
        (λ first low high. known.none first low (omega (arith, known.behind)))

    pub run_is_free : IsFreeFrom mapped pages (page + 1 - pages)
    run_is_free = record { behind_zero = omega (arith, known.behind); within = omega (arith, known.behind); free = pages_free }

  pub run_missing : (unmapped : ℕ) → IsSearched mapped pages unmapped 256 → lowest_free_run mapped pages ≡ None
  unfolding lowest_free_run
  run_missing unmapped known = found_none (is_free_run mapped pages) 1 255 (λ first low high. ⊎_elim
      (λ outside. run_outside mapped pages first outside)
      (λ inside. known.none first low inside)
      (cases_lt 256 (first + pages)))

-- tests that agree on the pages of the address space find the same run
list_all-same : (p q : ℕ → Bool) (a n : ℕ) → ((k : ℕ) → k < a + n → p k ≡ q k) → list_all p (range_with_len a n) ≡ list_all q (range_with_len a n)
list_all-same p q a zero same = refl
list_all-same p q a (suc n) same = rw (same a (omega arith), list_all-same p q (a + 1) n (λ k below. same k (omega arith))) refl

is_free_run-same : (p q : ℕ → Bool) → ((k : ℕ) → k < 256 → p k ≡ q k) → (count first : ℕ) → is_free_run p count first ≡ is_free_run q count first
is_free_run-same p q same count first =
    ⊎_elim
    (λ outside. run_outside p count first outside ∙ sym (run_outside q count first outside))
    (λ inside. ap (λ all. leb (first + count) 256 && all) (list_all-same (λ k. not (p k)) (λ k. not (q k)) first count (λ k below. ap not (same k (omega arith)))))
    (cases_lt 256 (first + count))

find-same : (p q : ℕ → Bool) → ((k : ℕ) → p k ≡ q k) → (a n : ℕ) → find p (range_with_len a n) ≡ find q (range_with_len a n)
find-same p q same a zero = refl
find-same p q same a (suc n) = rw (same a, find-same p q same (a + 1) n) refl

pub lowest_free_run-same : (p q : ℕ → Bool) → ((k : ℕ) → k < 256 → p k ≡ q k) → (count : ℕ) → lowest_free_run p count ≡ lowest_free_run q count
unfolding lowest_free_run
lowest_free_run-same p q same count = find-same (is_free_run p count) (is_free_run q count) (is_free_run-same p q same count) 1 255

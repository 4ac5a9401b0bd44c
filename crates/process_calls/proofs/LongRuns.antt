-- No run of pages is as long as the address space.
use Rattle.std.proofs.Common.{◌≡◌, ℕ, zero, suc, ◌+◌, ◌≤◌, ◌&&◌, not, Bool, true, false, cond, None, Some, refl, ap, sym, ◌∙◌, arith, inl, inr}
use Rattle.std.specs.Prelude.{find, nat_le}
use Rattle.std.specs.List.{list_all, range_with_len}
use Rattle.std.proofs.lemmas.Bool.Decides.{leb_tells}
use Rattle.posix_defs.specs.Memory.{is_free_run, lowest_free_run}

too_long : (mapped : ℕ → Bool) (count first : ℕ) → 256 ≤ count → 1 ≤ first → is_free_run mapped count first ≡ false
too_long mapped count first long some = go (nat_le (first + count) 256) refl
  where
    go : (b : Bool) → nat_le (first + count) 256 ≡ b → is_free_run mapped count first ≡ false
    go false is = ap (λ b. b && list_all (λ page. not (mapped page)) (range_with_len first count)) is
    go true is = elim (leb_tells (first + count) 256) [
      | inl less ↦ absurd (let l : first + count ≤ 256 = less.1 in omega arith)
      | inr more ↦ absurd (let e : true ≡ false = sym is ∙ more.0 in cc)
    ]

none_from : (mapped : ℕ → Bool) (count : ℕ) (n a : ℕ) → 256 ≤ count → 1 ≤ a → find (is_free_run mapped count) (range_with_len a n) ≡ None
none_from mapped count zero a long some = refl
none_from mapped count (suc n) a long some =
    ap (λ b. cond b (Some a) (find (is_free_run mapped count) (range_with_len (a + 1) n))) (too_long mapped count a long some)
    ∙ none_from mapped count n (a + 1) long (omega arith)

pub none_long : (mapped : ℕ → Bool) (count : ℕ) → 256 ≤ count → lowest_free_run mapped count ≡ None
unfolding lowest_free_run
none_long mapped count long = none_from mapped count 255 1 long (omega arith)

find_passes : (p : ℕ → Bool) (n a k : ℕ) → find p (range_with_len a n) ≡ Some k → p k ≡ true
find_passes p zero a k e = cc
find_passes p (suc n) a k e = go (p a) refl e (λ rest. find_passes p n (a + 1) k rest)
  where
    go : (b : Bool) → p a ≡ b → cond b (Some a) (find p (range_with_len (a + 1) n)) ≡ Some k → (find p (range_with_len (a + 1) n) ≡ Some k → p k ≡ true) → p k ≡ true
    go true is e rest = (let same : a ≡ k = (cc) in ap p (sym same) ∙ is)
    go false is e rest = rest e

-- a run that is found lies in the address space
pub run_within : (mapped : ℕ → Bool) (count first : ℕ) → lowest_free_run mapped count ≡ Some first → first + count ≤ 256
unfolding lowest_free_run
run_within mapped count first e = go (nat_le (first + count) 256) refl (find_passes (is_free_run mapped count) 255 1 first e)
  where
    go : (b : Bool) → nat_le (first + count) 256 ≡ b → is_free_run mapped count first ≡ true → first + count ≤ 256
    go true is passes = elim (leb_tells (first + count) 256) [
      | inl less ↦ less.1
      | inr more ↦ absurd (let f : true ≡ false = sym is ∙ more.0 in cc)
    ]
    go false is passes =
        absurd (let f : false ≡ true = sym (ap (λ b. b && list_all (λ page. not (mapped page)) (range_with_len first count)) is) ∙ passes in cc)

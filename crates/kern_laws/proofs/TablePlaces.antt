-- What is found in a table of processes after it has changed.
use Rattle.std.proofs.Common.{◌≡◌, ◌≢◌, ℕ, zero, suc, ◌+◌, ◌<◌, ◌≤◌, List, [], ◌∷◌, ◌++◌, length, map, Option, None, Some, slice_get, slice_set, unwrap_or, refl, ap, sym, ◌∙◌, subst, arith, ◌⊎◌, inl, inr, length-append}
use Rattle.std.specs.Option.{option_map}
use Rattle.std.proofs.lemmas.List.{get_or-set_same, get_or-set_other, length-set}
use Rattle.std.proofs.lemmas.Option.{slice_get-map, slice_get-get_or, slice_get_past}
use Rattle.posix_defs.specs.ByPid.{with_pid}
use Rattle.posix_defs.specs.Process.{Process, Table, process_at}
use Rattle.kern_laws.proofs.EnabledEvents.{get_behind}

-- one number is less than another, or it isn't
pub below_or_not : (i n : ℕ) → (i < n) ⊎ (n ≤ i)
below_or_not i zero = inr (omega arith)
below_or_not zero (suc n) = inl (omega arith)
below_or_not (suc i) (suc n) = elim (below_or_not i n) [ inl h ↦ inl (omega arith) | inr h ↦ inr (omega arith) ]

pub get_set_same : {X : Type 0} (xs : List X) (i : ℕ) (y : X) → i < length xs → slice_get (slice_set xs i y) i ≡ Some y
get_set_same xs i y h =
    slice_get-get_or (slice_set xs i y) i y (subst (λ n. i < n) (sym (length-set xs i y)) h) ∙ ap Some (get_or-set_same xs i y y h)

pub get_set_other : {X : Type 0} (xs : List X) (i j : ℕ) (y : X) → j ≢ i → slice_get (slice_set xs i y) j ≡ slice_get xs j
get_set_other xs i j y other = elim (below_or_not j (length xs)) [
  | inl h ↦ slice_get-get_or (slice_set xs i y) j y (subst (λ n. j < n) (sym (length-set xs i y)) h)
      ∙ ap Some (get_or-set_other xs i j y y other) ∙ sym (slice_get-get_or xs j y h)
  | inr h ↦ slice_get_past (slice_set xs i y) j (subst (λ n. n ≤ j) (sym (length-set xs i y)) h) ∙ sym (slice_get_past xs j h)
]

pub get_front : {X : Type 0} (xs ys : List X) (i : ℕ) → i < length xs → slice_get (xs ++ ys) i ≡ slice_get xs i
get_front [] ys i h = absurd (omega arith)
get_front (x ∷ xs) ys zero h = refl
get_front (x ∷ xs) ys (suc i) h = get_front xs ys i (omega arith)

-- nobody has a pid that was not made yet
pub past_last : (table : Table) (pid : ℕ) → length table < pid → process_at table pid ≡ None
past_last table zero h = refl
past_last table (suc i) h = ap (λ found. unwrap_or found None) (slice_get_past table i (omega arith))

-- who is there was made
pub was_made : (table : Table) (pid : ℕ) (process : Process) → process_at table pid ≡ Some process → (0 < pid) × (pid ≤ length table)
was_made table pid process is = elim (below_or_not (length table) pid) [
  | inl h ↦ absurd (let none = past_last table pid h in nothing none is)
  | inr h ↦ (positive pid is, h)
]
  where
    nothing : process_at table pid ≡ None → process_at table pid ≡ Some process → ⊥
    nothing e is = cc

    positive : (pid : ℕ) → process_at table pid ≡ Some process → 0 < pid
    positive zero is = cc
    positive (suc i) is = omega arith

-- before the last pid a longer table is the same
pub same_in_front : (table : Table) (child : Option Process) (pid : ℕ) → pid ≤ length table → process_at (table ++ child ∷ []) pid ≡ process_at table pid
same_in_front table child zero h = refl
same_in_front table child (suc i) h = ap (λ found. unwrap_or found None) (get_front table (child ∷ []) i (omega arith))

-- who is put at the end gets the next pid
pub at_end : (table : Table) (child : Option Process) → process_at (table ++ child ∷ []) (suc (length table)) ≡ child
at_end table child = ap (λ found. unwrap_or found None) (get_behind table child [])

is_last : (table : Table) (child : Option Process) (pid : ℕ) → length table < pid → pid ≤ length (table ++ child ∷ []) → pid ≡ suc (length table)
is_last table child pid past within = let more : length (table ++ child ∷ []) ≡ length table + length (child ∷ []) = length-append table (child ∷ []) in omega arith

-- who is in a longer table was in the old one, or is the one at its end
pub in_longer : (table : Table) (child : Option Process) (pid : ℕ) (process : Process) → process_at (table ++ child ∷ []) pid ≡ Some process
    → ((pid ≤ length table) × (process_at table pid ≡ Some process)) ⊎ ((pid ≡ suc (length table)) × (child ≡ Some process))
in_longer table child pid process is = elim (below_or_not (length table) pid) [
  | inl h ↦ let made = was_made (table ++ child ∷ []) pid process is in
      let last = is_last table child pid h made.1 in
      inr (last, sym (at_end table child) ∙ ap (process_at (table ++ child ∷ [])) (sym last) ∙ is)
  | inr h ↦ inl (h, sym (same_in_front table child pid h) ∙ is)
]

-- another item for a pid leaves all other pids as they were
pub with_other : (table : Table) (pid other : ℕ) (there : Option Process) → other ≢ pid → process_at (with_pid table pid there) other ≡ process_at table other
with_other table zero other there apart = refl
with_other table (suc i) zero there apart = refl
with_other table (suc i) (suc j) there apart =
    ap (λ found. unwrap_or found None) (get_set_other table i j there (λ same. apart (ap (λ k. suc k) same)))

pub with_same : (table : Table) (pid : ℕ) (there : Option Process) → 0 < pid → pid ≤ length table → process_at (with_pid table pid there) pid ≡ there
with_same table zero there h within = absurd (omega arith)
with_same table (suc i) there h within = ap (λ found. unwrap_or found None) (get_set_same table i there (omega arith))

-- who goes from a table isn't there
pub is_gone : (table : Table) (pid : ℕ) → process_at (with_pid table pid None) pid ≡ None
is_gone table zero = refl
is_gone table (suc i) = elim (below_or_not i (length table)) [
  | inl h ↦ with_same table (suc i) None (omega arith) (omega arith)
  | inr h ↦ past_last (with_pid table (suc i) None) (suc i) (let same : length (slice_set table i None) ≡ length table = length-set table i None in omega arith)
]

-- each item of a table changed in one way
pub each_changed : (change : Option Process → Option Process) (table : Table) (pid : ℕ) → change None ≡ None
    → process_at (map change table) pid ≡ change (process_at table pid)
each_changed change table zero none = sym none
each_changed change table (suc i) none = ap (λ found. unwrap_or found None) (slice_get-map change table i) ∙ go (slice_get table i)
  where
    go : (found : Option (Option Process)) → unwrap_or (option_map change found) None ≡ change (unwrap_or found None)
    go None = sym none
    go (Some there) = refl

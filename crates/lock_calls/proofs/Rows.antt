-- A row of bits, one place after the other.
use Rattle.std.proofs.Common.{◌≡◌, ◌≢◌, ◌==◌, ℕ, zero, suc, ◌+◌, ◌*◌, ◌^◌, ◌%◌, ◌<◌, ◌≤◌, ◌&&◌, Bool, true, false, cond, nat_lt, List, [], ◌∷◌, drop, get_or, length, slice_set, Option, None, Some, IsSome, refl, ap, sym, ◌∙◌, subst, inl, inr, arith, w64}
use Rattle.std.specs.Int.{bit_at}
use Rattle.std.specs.Prelude.{bit_or, slice_index}
use Rattle.std.proofs.lemmas.Bool.{cases_eq, cases_lt, le-ltb, lt-ltb, ltb-false, ltb-true}
use Rattle.std.proofs.lemmas.Nat.Bits.{bit_at-zero, bit_at_set_other, bit_at_set_same}
use Rattle.std.proofs.lemmas.List.{drop_more, get_or-set_other, get_or-set_same}
use Rattle.proc_table.proofs.PlaceLemmas.{some_same}
use Rattle.proc_table.specs.Table.{key_of}
use Rattle.proc_table.specs.declared.places.Place.{Place}
use Rattle.lock_calls.specs.Waiting.{bit_if, pid_at}

-- the bits of the first places are what a test tells of their processes, and the others are none
abbrev pub AreBits : (Option ℕ → Bool) → List Place → ℕ → ℕ → Type 0
AreBits test listed k row = (at : ℕ) → bit_at row at ≡ bit_if (nat_lt at k && test (pid_at listed at))

pub no_bits : (test : Option ℕ → Bool) (listed : List Place) → AreBits test listed 0 0
no_bits test listed at = bit_at-zero at ∙ sym (ap (λ b. bit_if (b && test (pid_at listed at))) (le-ltb at 0 (omega arith)))

below_next : (at k : ℕ) → at ≢ k → nat_lt at k ≡ nat_lt at (k + 1)
below_next at k apart = go (nat_lt at k) refl
  where
    go : (b : Bool) → nat_lt at k ≡ b → b ≡ nat_lt at (k + 1)
    go true is = sym (lt-ltb at (k + 1) (let h = ltb-true at k is in omega (arith, h)))
    go false is = sym (le-ltb at (k + 1) (let h = ltb-false at k is in omega (arith, h, apart)))

here_none : (k : ℕ) (b : Bool) → bit_if (nat_lt k k && b) ≡ 0
here_none k b = ap (λ t. bit_if (t && b)) (le-ltb k k (omega arith))

here_some : (k : ℕ) (b : Bool) → bit_if (nat_lt k (k + 1) && b) ≡ bit_if b
here_some k b = ap (λ t. bit_if (t && b)) (lt-ltb k (k + 1) (omega arith))

-- one bit more
abbrev pub set_bit : ℕ → ℕ → ℕ
set_bit row k = bit_or row (1 * 2 ^ k % 2 ^ 64)

module _ (test : Option ℕ → Bool) (listed : List Place) (k row pid : ℕ) (before : AreBits test listed k row) (here : pid_at listed k ≡ Some pid) where
  pub bit_set : k < 64 → test (Some pid) ≡ true → AreBits test listed (k + 1) (bit_or row (1 * 2 ^ k % 2 ^ 64))
  bit_set within is at = elim (cases_eq at k) [
    | inl same ↦
        subst (λ n. bit_at (bit_or row (1 * 2 ^ k % 2 ^ 64)) n ≡ bit_if (nat_lt n (k + 1) && test (pid_at listed n))) (sym same)
        (bit_at_set_same w64 row k within ∙ sym (here_some k (test (pid_at listed k)) ∙ ap (λ o. bit_if (test o)) here ∙ ap bit_if is))
    | inr apart ↦ bit_at_set_other w64 row k within at apart ∙ before at ∙ ap (λ b. bit_if (b && test (pid_at listed at))) (below_next at k apart)
  ]

  pub bit_left : test (Some pid) ≡ false → AreBits test listed (k + 1) row
  bit_left is at = elim (cases_eq at k) [
    | inl same ↦
        subst (λ n. bit_at row n ≡ bit_if (nat_lt n (k + 1) && test (pid_at listed n))) (sym same)
        (before k ∙ here_none k (test (pid_at listed k)) ∙ sym (here_some k (test (pid_at listed k)) ∙ ap (λ o. bit_if (test o)) here ∙ ap bit_if is))
    | inr apart ↦ before at ∙ ap (λ b. bit_if (b && test (pid_at listed at))) (below_next at k apart)
  ]

no_place : (listed : List Place) (at : ℕ) → length listed ≤ at → pid_at listed at ≡ None
no_place [] at past = refl
no_place (place ∷ listed) zero past = absurd (omega (arith, past))
no_place (place ∷ listed) (suc at) past = no_place listed at (omega (arith, past))

-- all of them
pub all_bits : (test : Option ℕ → Bool) (listed : List Place) (k row : ℕ) → test None ≡ false → length listed ≤ k → AreBits test listed k row → (at : ℕ) → bit_at row at ≡ bit_if (test (pid_at listed at))
all_bits test listed k row none past are at = are at ∙ go (nat_lt at k) refl
  where
    go : (b : Bool) → nat_lt at k ≡ b → bit_if (b && test (pid_at listed at)) ≡ bit_if (test (pid_at listed at))
    go true is = refl
    go false is =
        sym (ap bit_if (ap test (no_place listed at (let h = ltb-false at k is in omega (arith, h, past))) ∙ none))

-- the process of a place
pub place_pid : (listed : List Place) (k : ℕ) (d : Place) → k < length listed → pid_at listed k ≡ Some (get_or listed k d).pid
place_pid [] k d within = absurd (omega (arith, within))
place_pid (place ∷ listed) zero d within = refl
place_pid (place ∷ listed) (suc k) d within = place_pid listed k d (omega (arith, within))

-- ---- rows, one after the other

-- the processes of the first places have their rows
abbrev pub HaveRows : (ℕ → ℕ → Type 0) → List Place → ℕ → List ℕ → Type 0
HaveRows IsRow listed at rows = (k pid : ℕ) → k < at → pid_at listed k ≡ Some pid → IsRow pid (slice_index rows k)

pub one_row : (IsRow : ℕ → ℕ → Type 0) (listed : List Place) (rows : List ℕ) (at row : ℕ) (d : Place) → at < length rows → at < length listed → IsRow (get_or listed at d).pid row
    → HaveRows IsRow listed at rows → HaveRows IsRow listed (at + 1) (slice_set rows at row)
one_row IsRow listed rows at row d room within here before k pid below is = elim (cases_eq k at) [
  | inl same ↦
      let its : (get_or listed at d).pid ≡ pid = some_same (pid_at listed k) _ _ (ap (pid_at listed) same ∙ place_pid listed at d within) is in
      subst (λ n. IsRow pid (slice_index (slice_set rows at row) n)) (sym same)
      (subst (IsRow pid) (sym (get_or-set_same rows at row 0 room)) (subst (λ p. IsRow p row) its here))
  | inr apart ↦ subst (IsRow pid) (sym (get_or-set_other rows at k row 0 apart)) (before k pid (omega (arith, below, apart)) is)
]

none_some : {X : Type 0} (pid : ℕ) → None ≡ Some pid → X
none_some pid e = cc

-- who stands at a place stands among them
pub place_within : (listed : List Place) (at pid : ℕ) → pid_at listed at ≡ Some pid → at < length listed
place_within listed at pid is = elim (cases_lt at (length listed)) [
  | inl below ↦ below
  | inr beyond ↦ none_some pid (sym (no_place listed at beyond) ∙ is)
]

-- so all have
pub all_rows : (IsRow : ℕ → ℕ → Type 0) (listed : List Place) (at : ℕ) (rows : List ℕ) → length listed ≤ at → HaveRows IsRow listed at rows
    → (k pid : ℕ) → pid_at listed k ≡ Some pid → IsRow pid (slice_index rows k)
all_rows IsRow listed at rows past before k pid is = elim (cases_lt k at) [
  | inl below ↦ before k pid below is
  | inr beyond ↦ let none = no_place listed k (omega (arith, past, beyond)) in none_some pid (sym none ∙ is)
]

-- ---- who isn't found yet is among the rest

pub found_behind : (listed : List Place) (at pid : ℕ) (d : Place) → at < length listed → ((get_or listed at d).pid == pid) ≡ false
    → IsSome (key_of (drop at listed) pid) → IsSome (key_of (drop (at + 1) listed) pid)
found_behind listed at pid d within other some =
    let both : IsSome (key_of (get_or listed at d ∷ drop (at + 1) listed) pid) = subst (λ places. IsSome (key_of places pid)) (drop_more listed at d within) some in
    subst IsSome (ap (λ b. cond b (Some (get_or listed at d).key) (key_of (drop (at + 1) listed) pid)) other) both

pub none_behind : {X : Type 0} (listed : List Place) (at pid : ℕ) → length listed ≤ at → IsSome (key_of (drop at listed) pid) → X
none_behind [] zero pid past some = cc
none_behind [] (suc at) pid past some = cc
none_behind (place ∷ listed) zero pid past some = absurd (omega (arith, past))
none_behind (place ∷ listed) (suc at) pid past some = none_behind listed at pid (omega (arith, past)) some

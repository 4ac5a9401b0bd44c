-- Bits of two words of 64.
use Rattle.std.proofs.Common.{◌≡◌, ◌≢◌, ℕ, ◌*◌, ◌^◌, ◌%◌, ◌<◌, ap, sym, inl, inr, ◌⊎◌, ◌∙◌, arith, w64}
use Rattle.std.specs.Prelude.{bit_and}
use Rattle.std.specs.Int.{bit_at, bit_not, trailing_zeros}
use Rattle.std.proofs.lemmas.Bool.{cases_eq}
use Rattle.std.proofs.lemmas.Nat.{and_le_l}
use Rattle.std.proofs.lemmas.Nat.Bits.{bit_at_and, bit_at-zero, bit_at-lt, bit_at_clear_same, bit_at_clear_other, bit_at-trailing_zeros}

-- the lowest bit of those that two words share is in both
pub lowest_shared : (a b : ℕ) → a < 2 ^ 64 → bit_and a b ≢ 0
    → (trailing_zeros w64 (bit_and a b) < 64) × (bit_at a (trailing_zeros w64 (bit_and a b)) ≡ 1) × (bit_at b (trailing_zeros w64 (bit_and a b)) ≡ 1)
lowest_shared a b fits some =
    let k : ℕ = trailing_zeros w64 (bit_and a b) in
    let low = bit_at-trailing_zeros w64 (bit_and a b) (omega arith) (omega (arith, and_le_l a b)) in
    (low.0, omega (arith, low.1, bit_at_and a b k, bit_at-lt a k, bit_at-lt b k), omega (arith, low.1, bit_at_and a b k, bit_at-lt a k, bit_at-lt b k))

-- a word is less without one of its bits, and has the others still
pub cleared : (word k : ℕ) → k < 64 → bit_at word k ≡ 1
    → let left = bit_and word (bit_not w64 (1 * 2 ^ k % 2 ^ 64)) in
    (left < word) × ((j : ℕ) → bit_at left j ≡ 0 → j < 64 → (j ≡ k) ⊎ (bit_at word j ≡ 0))
cleared word k within set =
    let left : ℕ = bit_and word (bit_not w64 (1 * 2 ^ k % 2 ^ 64)) in
    let gone : bit_at left k ≡ 0 = bit_at_clear_same w64 word k within in (
      elim (cases_eq left word) [
        | inl same ↦ absurd (let both : bit_at left k ≡ bit_at word k = ap (λ x. bit_at x k) same in omega arith)
        | inr other ↦ omega (arith, and_le_l word (bit_not w64 (1 * 2 ^ k % 2 ^ 64)))
      ],
      λ j zero small. elim (cases_eq j k) [
        | inl same ↦ inl same
        | inr other ↦ inr (sym (bit_at_clear_other w64 word k within j small other) ∙ zero)
      ],
    )

-- of two words that share no bit, one hasn't what the other has
pub apart : (a b j : ℕ) → bit_and a b ≡ 0 → bit_at a j ≡ 1 → bit_at b j ≡ 0
apart a b j none set =
    let both : bit_at (bit_and a b) j ≡ 0 = ap (λ n. bit_at n j) none ∙ bit_at-zero j in
    omega (arith, both, bit_at_and a b j, bit_at-lt b j)

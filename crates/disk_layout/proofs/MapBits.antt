-- One bit of a map is changed.
use Rattle.std.proofs.Common.{◌≡◌, ◌≢◌, ℕ, ◌/◌, ◌%◌, ◌<◌, inl, inr, List, length, get_or, set, sym, ap, ◌∙◌, arith}
use Rattle.std.proofs.lemmas.List.{get_or-set_same, get_or-set_other}
use Rattle.std.proofs.lemmas.Bool.{cases_eq}
use Rattle.std.specs.Int.{bit_at}
use Rattle.posix_defs.specs.SoundDisk.{bit_of}

-- the bit of this number is that of the byte that was put
pub this_bit : (map : List ℕ) (number byte : ℕ) → number / 8 < length map → bit_of (set map (number / 8) byte) number ≡ bit_at byte (number % 8)
this_bit map number byte within = ap (λ (b : ℕ). bit_at b (number % 8)) (get_or-set_same map (number / 8) byte 0 within)

-- every other bit stays, where the byte has the others of the one before
pub other_bits : (map : List ℕ) (number byte : ℕ) → number / 8 < length map → ((i : ℕ) → i < 8 → i ≢ number % 8 → bit_at byte i ≡ bit_at (get_or map (number / 8) 0) i)
    → (other : ℕ) → other ≢ number → bit_of (set map (number / 8) byte) other ≡ bit_of map other
other_bits map number byte within same other apart =
    elim (cases_eq (other / 8) (number / 8)) [
      | inl e ↦
          let now : get_or (set map (number / 8) byte) (other / 8) 0 ≡ byte = ap (λ (k : ℕ). get_or (set map (number / 8) byte) k 0) e ∙ get_or-set_same map (number / 8) byte 0 within in
          let was : get_or map (number / 8) 0 ≡ get_or map (other / 8) 0 = ap (λ (k : ℕ). get_or map k 0) (sym e) in
          let bit : bit_at byte (other % 8) ≡ bit_at (get_or map (number / 8) 0) (other % 8) = same (other % 8) (omega arith) (λ i. apart (omega (arith, e, i))) in
          ap (λ (b : ℕ). bit_at b (other % 8)) now ∙ bit ∙ ap (λ (b : ℕ). bit_at b (other % 8)) was
      | inr elsewhere ↦ ap (λ (b : ℕ). bit_at b (other % 8)) (get_or-set_other map (number / 8) (other / 8) byte 0 elsewhere)
    ]

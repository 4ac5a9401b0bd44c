-- From which of the first of 64 a chain of waits leads back to them, as bits.
use Rattle.std.proofs.Common.{◌≡◌, ◌≢◌, ℕ, ◌+◌, ◌*◌, ◌^◌, ◌%◌, ◌<◌, ◌≤◌, List, refl, sym, ◌∙◌, subst, inl, inr, arith, w64}
use Rattle.std.specs.Prelude.{◌↔◌, bit_or}
use Rattle.std.specs.Int.{bit_at}
use Rattle.std.proofs.lemmas.Bool.{cases_eq}
use Rattle.std.proofs.lemmas.Nat.Bits.{bit_at-zero, bit_at_set_other, bit_at_set_same}
use Rattle.wait_graph.specs.Chains.{LeadsTo}

-- the bits of the first are told, and no other is set
pub record IsTold (edges : List ℕ) (from circles : ℕ) : Type 0 where
  pub told : (i : ℕ) → i < from → (bit_at circles i ≡ 1) ↔ LeadsTo edges i i
  pub clear : (i : ℕ) → from ≤ i → bit_at circles i ≡ 0

pub IsTold-none : (edges : List ℕ) → IsTold edges 0 0
IsTold-none edges = record { told = λ i below. absurd (omega (arith, below)); clear = λ i past. bit_at-zero i }

module _ (edges : List ℕ) (k circles : ℕ) (before : IsTold edges k circles) where
  -- a chain leads back to the next one
  pub IsTold-set : k < 64 → LeadsTo edges k k → IsTold edges (k + 1) (bit_or circles (1 * 2 ^ k % 2 ^ 64))
  IsTold-set within chain = record {
    told = λ i below. elim (cases_eq i k) [
      | inl same ↦
          subst (λ n. (bit_at (bit_or circles (1 * 2 ^ k % 2 ^ 64)) n ≡ 1) ↔ LeadsTo edges n n) (sym same)
          ((λ set. chain), (λ leads. bit_at_set_same w64 circles k within))
      | inr apart ↦
          subst (λ b. (b ≡ 1) ↔ LeadsTo edges i i) (sym (bit_at_set_other w64 circles k within i apart)) (before.told i (omega (arith, below, apart)))
    ];
    clear = λ i past. bit_at_set_other w64 circles k within i (omega (arith, past)) ∙ before.clear i (omega (arith, past));
  }

  -- none does
  pub IsTold-left : (LeadsTo edges k k → ⊥) → IsTold edges (k + 1) circles
  IsTold-left none = record {
    told = λ i below. elim (cases_eq i k) [
      | inl same ↦
          subst (λ n. (bit_at circles n ≡ 1) ↔ LeadsTo edges n n) (sym same)
          ((λ set. absurd (let zero = before.clear k (omega arith) in omega (arith, set, zero))), (λ leads. absurd (none leads)))
      | inr apart ↦ before.told i (omega (arith, below, apart))
    ];
    clear = λ i past. before.clear i (omega (arith, past));
  }

-- Chains of waits, step by step.
use Rattle.std.proofs.Common.{◌≡◌, ℕ, ◌*◌, ◌-◌, ◌%◌, ◌^◌, ◌<◌, ◌⊎◌, List, [], ◌∷◌, ◌++◌, get_or, inl, inr, subst, arith, w64}
use Rattle.std.specs.Prelude.{bit_and, bit_or, ◌↔◌}
use Rattle.std.specs.Int.{bit_at, bit_not}
use Rattle.std.proofs.lemmas.Bool.{cases_eq, cases_lt}
use Rattle.std.proofs.lemmas.Nat.Bits.{bit_at_or, bit_at-lt, bit_at_above, bit_at_ones}
use Rattle.wait_graph.proofs.Bits.{apart, cleared}
use Rattle.wait_graph.specs.Chains.{WaitsFor, IsChain, LeadsTo}

-- all bits of one word are bits of the other
abbrev pub IsWithin : ℕ → ℕ → Type 0
IsWithin word reached = (j : ℕ) → bit_at word j ≡ 1 → bit_at reached j ≡ 1

-- a chain with one wait more at its end
chain-further : (edges : List ℕ) (i : ℕ) (between : List ℕ) (j k : ℕ) → IsChain edges i between j → WaitsFor edges j k → IsChain edges i (between ++ j ∷ []) k
chain-further edges i [] j k chain wait = (chain, wait)
chain-further edges i (h ∷ hs) j k chain wait = (chain.0, chain-further edges h hs j k chain.1 wait)

pub further : (edges : List ℕ) (i j k : ℕ) → LeadsTo edges i j → WaitsFor edges j k → LeadsTo edges i k
further edges i j k chain wait = (chain.0 ++ j ∷ [], chain-further edges i chain.0 j k chain.1 wait)

-- where the rows of the first and of all that is reached are in what is reached, so is the end of each chain
pub all_reached : (edges : List ℕ) (reached : ℕ) → ((i : ℕ) → bit_at reached i ≡ 1 → IsWithin (get_or edges i 0) reached)
    → (i : ℕ) → IsWithin (get_or edges i 0) reached → (between : List ℕ) (target : ℕ) → IsChain edges i between target → bit_at reached target ≡ 1
all_reached edges reached closed i first [] target chain = first target chain
all_reached edges reached closed i first (j ∷ js) target chain =
    all_reached edges reached closed j (closed j (first j chain.0)) js target chain.1

-- what is in one word is in both
pub in_both : (a b : ℕ) → IsWithin a (bit_or a b)
in_both a b j set = omega (arith, set, bit_at_or a b j, bit_at-lt a j, bit_at-lt b j)

pub in_both_too : (a b : ℕ) → IsWithin b (bit_or a b)
in_both_too a b j set = omega (arith, set, bit_at_or a b j, bit_at-lt a j, bit_at-lt b j)

either : (a b j : ℕ) → bit_at (bit_or a b) j ≡ 1 → (bit_at a j ≡ 1) ⊎ (bit_at b j ≡ 1)
either a b j set = elim (cases_eq (bit_at a j) 1) [
  | inl one ↦ inl one
  | inr none ↦ inr (omega (arith, set, none, bit_at_or a b j, bit_at-lt a j, bit_at-lt b j))
]

-- a bit of a word of 64 bits
below : (word j : ℕ) → word < 2 ^ 64 → bit_at word j ≡ 1 → j < 64
below word j fits set = elim (cases_lt j 64) [
  | inl lt ↦ lt
  | inr le ↦ absurd (omega (arith, set, bit_at_above word 64 j fits le))
]

-- to all that is reached a chain leads, and what the first waits for, and all whose waits were followed, is reached
pub record IsFollowed (edges : List ℕ) (from reached fresh : ℕ) : Type 0 where
  pub first : IsWithin (get_or edges from 0) reached
  pub led : (j : ℕ) → bit_at reached j ≡ 1 → LeadsTo edges from j
  pub followed : (i : ℕ) → i < 64 → bit_at fresh i ≡ 0 → IsWithin (get_or edges i 0) reached

-- at first only the waits of the first are followed
pub IsFollowed-first : (edges : List ℕ) (from : ℕ) → IsFollowed edges from (get_or edges from 0) (2 ^ 64 - 1)
IsFollowed-first edges from = record {
  first = λ j set. set;
  led = λ j set. ([], set);
  followed = λ i small zero. absurd (omega (arith, zero, bit_at_ones 64 i small));
}

-- and then those of one more
pub IsFollowed-next : (edges : List ℕ) (from reached fresh k : ℕ) → k < 64 → bit_at reached k ≡ 1 → bit_at fresh k ≡ 1
    → IsFollowed edges from reached fresh → IsFollowed edges from (bit_or reached (get_or edges k 0)) (bit_and fresh (bit_not w64 (1 * 2 ^ k % 2 ^ 64)))
IsFollowed-next edges from reached fresh k within set new known =
    let row : ℕ = get_or edges k 0 in
    record {
      first = λ j waits. in_both reached row j (known.first j waits);
      led = λ j here. elim (either reached row j here) [
        | inl before ↦ known.led j before
        | inr more ↦ further edges from k j (known.led k set) more
      ];
      followed = λ i small zero j waits. elim ((cleared fresh k within new).1 i zero small) [
        | inl same ↦ in_both_too reached row j (subst (λ n. bit_at (get_or edges n 0) j ≡ 1) same waits)
        | inr before ↦ in_both reached row j (known.followed i small before j waits)
      ];
    }

-- where nothing is left to be followed, what is reached is where chains lead
pub IsFollowed-all : (edges : List ℕ) (from reached fresh : ℕ) → reached < 2 ^ 64 → bit_and reached fresh ≡ 0 → IsFollowed edges from reached fresh
    → (j : ℕ) → (bit_at reached j ≡ 1) ↔ LeadsTo edges from j
IsFollowed-all edges from reached fresh fits none known j = (
  known.led j,
  λ chain. all_reached edges reached (λ i here. known.followed i (below reached i fits here) (apart reached fresh i none here)) from known.first chain.0 j chain.1,
)

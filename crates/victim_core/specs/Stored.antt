-- What is known of a closure that scores weights, in a form that can be kept beside the closure.
use Rattle.std.specs.Prelude.{◌≡◌, ℕ}
use Rattle.std.specs.Coded.{×_prop, Π_prop, Coded-set, coded_ℕ}
use mathlib.Core.HProp.{IsProp-prop}
use Rattle.kabi_types.specs.declared.classes.Weight.{Weight}
use Rattle.kabi_types.specs.declared.scripts.Policy.{Policy}
use Rattle.posix_defs.specs.Victim.{score_of}
use Rattle.victim_core.specs.Victims.{IsInRange}

-- The closure may be called with each weight in range, whatever else it asks of one. A fact beside a closure may have
-- one proof at most, so what the closure asks has one too.
abbrev pub TakesWeights : (Weight → Type 0) → Type 0
TakesWeights asks = ((w : Weight) → IsProp (asks w)) × ((w : Weight) → IsInRange w → asks w)

-- each answer that it may give is the score
abbrev pub AnswersScores : Policy → (Weight → ℕ → Type 0) → Type 0
AnswersScores policy gives = (w : Weight) (score : ℕ) → IsInRange w → gives w score → score ≡ score_of policy w

-- the closure may be called with each weight in range, and answers the score of the policy
abbrev pub Scores : Policy → (Weight → Type 0) → (Weight → ℕ → Type 0) → Type 0
Scores policy asks gives = TakesWeights asks × AnswersScores policy gives

-- a fact that rules out a second proof of itself has one at most
pub prop_if : {T : Type 0} → (T → IsProp T) → IsProp T
prop_if h x y = h x x y

pub Scores-prop : (policy : Policy) (asks : Weight → Type 0) (gives : Weight → ℕ → Type 0) → IsProp (Scores policy asks gives)
Scores-prop policy asks gives =
    ×_prop
    (prop_if (λ known. ×_prop (Π_prop (λ w. IsProp-prop)) (Π_prop (λ w. Π_prop (λ in_range. known.0 w)))))
    (Π_prop (λ w. Π_prop (λ score. Π_prop (λ in_range. Π_prop (λ given. Coded-set coded_ℕ score (score_of policy w))))))

-- How far joined constants are read.
use Rattle.std.proofs.Common.{◌≡◌, ℕ, Bool, false, ◌==◌, List, [], ◌∷◌, ◌++◌, Option, None, Some, refl, sym, ap, ◌∙◌}
use Rattle.std.specs.Prelude.{bit_or}
use Rattle.std.specs.List.{All, slice_split}
use Rattle.std.proofs.lemmas.List.Splits.{slice_split_at, slice_split_none}
use Rattle.posix_defs.specs.ScriptValues.{constant_said, joined, joined_to}

abbrev is_bar : ℕ → Bool
is_bar byte = byte == 124

-- what the parts say, behind a number
abbrev behind : ℕ → List ℕ → Option ℕ
behind n word = joined (Some n) (slice_split is_bar word)

first_part : (n : ℕ) (word part next : List ℕ) → word ≡ part ++ (124 ∷ next) → All (λ byte. is_bar byte ≡ false) part
    → behind n word ≡ joined (joined_to n (constant_said part)) (slice_split is_bar next)
first_part n word part next is plain = ap (behind n) is ∙ ap (joined (Some n)) (slice_split_at is_bar part 124 next plain refl)

pub more_joined : (n m : ℕ) (word part next : List ℕ) → word ≡ part ++ (124 ∷ next) → All (λ byte. is_bar byte ≡ false) part
    → Some m ≡ constant_said part → behind n word ≡ behind (bit_or n m) next
more_joined n m word part next is plain said =
    first_part n word part next is plain ∙ ap (λ o. joined (joined_to n o) (slice_split is_bar next)) (sym said)

pub none_joined : (n : ℕ) (word part next : List ℕ) → word ≡ part ++ (124 ∷ next) → All (λ byte. is_bar byte ≡ false) part
    → None ≡ constant_said part → behind n word ≡ None
none_joined n word part next is plain said =
    first_part n word part next is plain ∙ ap (λ o. joined (joined_to n o) (slice_split is_bar next)) (sym said)

pub last_joined : (n : ℕ) (word : List ℕ) (said : Option ℕ) → All (λ byte. is_bar byte ≡ false) word → said ≡ constant_said word
    → behind n word ≡ joined_to n said
last_joined n word said plain is = ap (joined (Some n)) (slice_split_none is_bar word plain) ∙ ap (λ o. joined (joined_to n o) []) (sym is) ∙ alone n said
  where
    alone : (n : ℕ) (said : Option ℕ) → joined (joined_to n said) [] ≡ joined_to n said
    alone n None = refl
    alone n (Some m) = refl

-- A label of a round is short enough for a name.
use Rattle.std.proofs.Common.{ℕ, ◌<◌, ◌≤◌, ◌^◌, ◌∷◌, length, decimal, arith}
use Rattle.std.proofs.lemmas.Fmt.{length-decimal-le}

pub label_fits : (letter i : ℕ) → i < 2 ^ 32 → length (letter ∷ decimal i) ≤ 27
label_fits letter i below = let short : length (decimal i) ≤ 10 = length-decimal-le 10 i (omega arith) (omega arith) (omega arith) in omega arith

-- The byte of two hexadecimal digits, by what each of them is.
use Rattle.std.proofs.Common.{◌≡◌, ℕ, ◌+◌, ◌-◌, ◌*◌, ◌<◌, ◌≤◌, List, [], ◌∷◌, length, get_or, take, drop, Some, None, refl, ap, ◌∙◌, arith}
use Rattle.std.proofs.lemmas.List.{take_all}
use Rattle.posix_defs.specs.ScriptWords.{gives, hex_number, hex_piece, hex_value}

pub two_digits : (bytes : List ℕ) (high low : ℕ) → 2 ≤ length bytes → Some high ≡ hex_value (get_or bytes 0 0) → Some low ≡ hex_value (get_or bytes 1 0)
    → Some (Some (16 * high + low), take (length bytes - 2) (drop 2 bytes)) ≡ hex_piece bytes
two_digits [] high low two is_high is_low = absurd (omega (arith, two))
two_digits (a ∷ []) high low two is_high is_low = absurd (omega (arith, two))
two_digits (a ∷ b ∷ rest) high low two is_high is_low =
    ap (λ more. Some (Some (16 * high + low), more)) (take_all _ rest (omega arith))
    ∙ ap (λ l. gives rest (hex_number (Some high) l)) is_low ∙ ap (λ h. gives rest (hex_number h (hex_value b))) is_high

pub no_high : (bytes : List ℕ) → 2 ≤ length bytes → None ≡ hex_value (get_or bytes 0 0) → None ≡ hex_piece bytes
no_high [] two none = refl
no_high (a ∷ []) two none = refl
no_high (a ∷ b ∷ rest) two none = ap (λ h. gives rest (hex_number h (hex_value b))) none

pub no_low : (bytes : List ℕ) (high : ℕ) → 2 ≤ length bytes → Some high ≡ hex_value (get_or bytes 0 0) → None ≡ hex_value (get_or bytes 1 0) → None ≡ hex_piece bytes
no_low [] high two is_high none = refl
no_low (a ∷ []) high two is_high none = refl
no_low (a ∷ b ∷ rest) high two is_high none =
    ap (λ l. gives rest (hex_number (Some high) l)) none ∙ ap (λ h. gives rest (hex_number h (hex_value b))) is_high

pub fewer : (bytes : List ℕ) → length bytes < 2 → None ≡ hex_piece bytes
fewer [] few = refl
fewer (a ∷ []) few = refl
fewer (a ∷ b ∷ rest) few = absurd (omega (arith, few))

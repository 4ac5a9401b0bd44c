-- What the toolchain reads as a number is what the definition says.
use Rattle.std.proofs.Common.{◌≡◌, ℕ, zero, suc, ℤ, pos, negsuc, Bool, true, false, ◌==◌, cond, List, [], ◌∷◌, Ok, Err, refl, sym, subst, arith}
use Rattle.std.specs.Int.{w64}
use Rattle.std.specs.Prelude.{int_le, FitsSigned, if◌then◌else◌}
use Rattle.std.specs.Str.{IsUtf8, IsAscii, all_ascii_digits}
use Rattle.std.specs.Str.Parse.{IsNumeral, without_leading_plus, without_leading_sign, signed_digits_value}
use Rattle.std.proofs.lemmas.Str.{IsUtf8-from_ascii}
use Rattle.std.proofs.lemmas.Str.Parse.{numerals_by_value, tells_all_ascii_digits, without_leading_plus_none}
use Rattle.posix_defs.specs.ScriptValues.{least_value, greatest_value, is_digits, is_decimal, number_by, number_said, begins_number}
use Rattle.kabi_types.specs.declared.scripts.FaultKind.TheVariants.{OutOfRange}

all_of : (digits : List ℕ) → is_digits digits ≡ true → all_ascii_digits digits ≡ true
all_of [] e = absurd (let wrong : false ≡ true = e in cc)
all_of (byte ∷ rest) e = e

digits_ascii : (digits : List ℕ) → all_ascii_digits digits ≡ true → IsAscii digits
digits_ascii [] e i = omega arith
digits_ascii (byte ∷ rest) e zero = omega (arith, (tells_all_ascii_digits.parts byte rest e).0.1)
digits_ascii (byte ∷ rest) e (suc i) = digits_ascii rest (tells_all_ascii_digits.parts byte rest e).1 i

signed_ascii : (byte : ℕ) (rest : List ℕ) (minus : Bool) → (byte == 45) ≡ minus
    → (if minus then is_digits rest else is_digits (byte ∷ rest)) ≡ true → IsAscii (byte ∷ rest)
signed_ascii byte rest true is e zero = grind (arith, is)
signed_ascii byte rest true is e (suc i) = digits_ascii rest (all_of rest e) i
signed_ascii byte rest false is e i = digits_ascii (byte ∷ rest) e i

decimal_ascii : (word : List ℕ) → is_decimal word ≡ true → IsAscii word
decimal_ascii [] e i = omega arith
decimal_ascii (byte ∷ rest) e i = signed_ascii byte rest (byte == 45) refl e i

-- a decimal number is UTF-8
pub decimal_utf8 : (word : List ℕ) → is_decimal word ≡ true → IsUtf8 word
decimal_utf8 word e = IsUtf8-from_ascii word (decimal_ascii word e)

numeral : (digits : List ℕ) → is_digits digits ≡ true → IsNumeral 10 digits
numeral [] e = absurd (let wrong : false ≡ true = e in cc)
numeral (byte ∷ rest) e = (omega arith, (numerals_by_value (λ ds. all_ascii_digits ds ≡ true) tells_all_ascii_digits).to (byte ∷ rest) e)

signed_numeral : (byte : ℕ) (rest : List ℕ) (minus : Bool) → (byte == 45) ≡ minus
    → (if minus then is_digits rest else is_digits (byte ∷ rest)) ≡ true → IsNumeral 10 (cond minus rest (without_leading_plus (byte ∷ rest)))
signed_numeral byte rest true is e = numeral rest e
signed_numeral byte rest false is e =
    let digit = (tells_all_ascii_digits.parts byte rest e).0 in
    subst (IsNumeral 10) (sym (without_leading_plus_none (byte ∷ rest) (λ same. omega (arith, digit.0, same)))) (numeral (byte ∷ rest) e)

-- a decimal number is a numeral behind its sign
pub decimal_numeral : (word : List ℕ) → is_decimal word ≡ true → IsNumeral 10 (without_leading_sign word)
decimal_numeral [] e = absurd (let wrong : false ≡ true = e in cc)
decimal_numeral (byte ∷ rest) e = signed_numeral byte rest (byte == 45) refl e

-- a number between the two ends has 64 bits
fits : (n : ℤ) → int_le least_value n ≡ true → int_le n greatest_value ≡ true → FitsSigned w64 n
fits (pos n) low high = record { sfits = grind (arith, high) }
fits (negsuc n) low high = record { sfits = grind (arith, low) }

out_of : (n : ℤ) (above below : Bool) → int_le least_value n ≡ above → int_le n greatest_value ≡ below → (FitsSigned w64 n → ⊥)
    → Err OutOfRange ≡ (if above then (if below then Ok n else Err OutOfRange) else Err OutOfRange)
out_of n true true low high none = absurd (none (fits n low high))
out_of n true false low high none = refl
out_of n false below low high none = refl

-- a decimal number that has more than 64 bits
pub too_great : (word : List ℕ) → begins_number word ≡ true → is_decimal word ≡ true
    → ((IsNumeral 10 (without_leading_sign word) × FitsSigned w64 (signed_digits_value 10 word)) → ⊥) → Err OutOfRange ≡ number_said word
too_great word begins decimal none =
    let n = signed_digits_value 10 word in
    subst (λ b. Err OutOfRange ≡ number_by b (is_decimal word) n) (sym begins)
    (subst (λ d. Err OutOfRange ≡ number_by true d n) (sym decimal)
    (out_of n (int_le least_value n) (int_le n greatest_value) refl refl (λ of. none (decimal_numeral word decimal, of))))

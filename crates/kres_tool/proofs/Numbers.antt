-- How a number of 32 bits is spelled.
use Rattle.std.proofs.Common.{◌≡◌, ◌≢◌, ℕ, zero, suc, ◌<◌, ◌^◌, List, [], ◌∷◌, length, get_or, decimal, Result, Ok, sym, ap, ◌∙◌, subst, arith}
use Rattle.std.specs.Result.{OkIff}
use Rattle.std.specs.Str.Parse.{AllDigits, ParsesUnsigned, digits_value}
use Rattle.std.proofs.lemmas.Fmt.{decimal-digits_value, decimal_digit, decimal_nonempty, first_decimal, parse-decimal}
use Rattle.std.proofs.lemmas.Str.Parse.{IsNumeralModel, numerals_by_value, parse_plain, tells_digits}

own : IsNumeralModel (AllDigits 10) (digits_value 10)
own = numerals_by_value (AllDigits 10) tells_digits

-- what is read of digits without a sign and without a zero before others is spelled so
pub spelled : {E : Type 0} (digits : List ℕ) (number : ℕ) (read : Result ℕ E) → read ≡ Ok number → ParsesUnsigned 32 10 digits read
    → get_or digits 0 0 ≢ 43 → (get_or digits 0 0 ≡ 48 → length digits ≡ 1) → digits ≡ decimal number
spelled digits number read is parses no_sign alone =
    let found = subst (λ r. OkIff r (AllDigits 10 digits × (0 < length digits) × (digits_value 10 digits < 2 ^ 32)) (digits_value 10 digits)) is (parse_plain own 32 digits read parses no_sign) in
    let fits : digits_value 10 digits < 2 ^ 32 = found.0.2 in
    sym (ap decimal found.1 ∙ decimal-digits_value own digits found.0.0 found.0.1 alone (omega arith))

-- a number that is spelled is read
pub read_back : {E : Type 0} (digits : List ℕ) (number : ℕ) (read : Result ℕ E) → ParsesUnsigned 32 10 digits read → number < 2 ^ 32
    → digits ≡ decimal number → read ≡ Ok number
read_back digits number read parses few is = parse-decimal 32 number digits read (omega arith) (omega arith) is parses

pub has_digits : (digits : List ℕ) (n : ℕ) → n < 2 ^ 32 → digits ≡ decimal n → 0 < length digits
has_digits digits n few is = subst (λ ds. 0 < length ds) (sym is) (decimal_nonempty n (omega arith))

pub nought : decimal 0 ≡ 48 ∷ []
nought = decimal_digit 0 (omega arith)

-- no sign and no zero stands before the digits of a number above 0
pub first_digit : (digits : List ℕ) (n : ℕ) → n < 2 ^ 32 → digits ≡ decimal n → digits ≢ 48 ∷ [] → 48 < get_or digits 0 0
first_digit digits zero few is other = absurd (other (is ∙ nought))
first_digit digits (suc n) few is other = subst (λ ds. 48 < get_or ds 0 0) (sym is) (first_decimal (suc n) (omega arith) (omega arith))

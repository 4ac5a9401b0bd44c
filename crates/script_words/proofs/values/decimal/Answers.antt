use Rattle.std.proofs.Common.{sym, subst}
use Rattle.std.specs.Int.{w64}
use Rattle.std.specs.Prelude.{FitsSigned}
use Rattle.std.specs.Str.Parse.{IsNumeral, without_leading_sign, signed_digits_value}
use Rattle.script_words.proofs.Numbers.{too_great, decimal_utf8}
use Rattle.script_words.proofs.values.decimal.Goals as goal

pub returns-in-Err-from_str_radix : goal.returns-in-Err-from_str_radix
returns-in-Err-from_str_radix c =
    too_great c.args.word.now (sym c.if-not-begins_number.ensures) (sym c.if-not-is_decimal.ensures)
    (subst (λ w. (IsNumeral 10 (without_leading_sign w) × FitsSigned w64 (signed_digits_value 10 w)) → ⊥) c.in-Ok.ensures.cases.0
    c.in-Err-from_str_radix.ensures.value)

pub returns-in-Err : goal.returns-in-Err
returns-in-Err c = absurd (c.in-Err.ensures.cases.0 (decimal_utf8 c.args.word.now (sym c.if-not-is_decimal.ensures)))

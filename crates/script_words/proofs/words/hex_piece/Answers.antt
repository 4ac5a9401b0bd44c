use Rattle.std.proofs.Common.{arith, ap, ◌∙◌}
use Rattle.std.specs.Option.{option_map}
use Rattle.script_words.proofs.HexDigits.{fewer, no_high, no_low, two_digits}
use Rattle.script_words.proofs.words.hex_piece.Goals as goal

pub returns-in_err-high-in-len2-up : goal.returns-in_err-high-in-len2-up
returns-in_err-high-in-len2-up c =
    ap (λ result. option_map (λ p. (p.0, p.1.now)) result) c.from_residual.ensures
    ∙ no_high c.args.bytes.now (omega arith) c.in_err-high-in-len2-up.ensures

pub returns-in_err-low-in-len2-up : goal.returns-in_err-low-in-len2-up
returns-in_err-low-in-len2-up c =
    ap (λ result. option_map (λ p. (p.0, p.1.now)) result) c.from_residual-in_err-low-in-len2-up.ensures
    ∙ no_low c.args.bytes.now c.in_ok-high-in-len2-up.high (omega arith) c.in_ok-high-in-len2-up.ensures c.in_err-low-in-len2-up.ensures

pub returns-in_default : goal.returns-in_default
returns-in_default c = fewer c.args.bytes.now (omega arith)

pub returns-in_ok-low-in-len2-up : goal.returns-in_ok-low-in-len2-up
returns-in_ok-low-in-len2-up c =
    two_digits c.args.bytes.now c.in_ok-high-in-len2-up.high c.in_ok-low-in-len2-up.low (omega arith) c.in_ok-high-in-len2-up.ensures
    c.in_ok-low-in-len2-up.ensures

use Rattle.std.proofs.Common.{◌≡◌, ◌≢◌, ◌<◌, ◌≤◌, [], ◌∷◌, length, get_or, Ok, sym, ◌∙◌, subst, arith, rules, tests}
use Rattle.kres_tool.proofs.Numbers.{first_digit, has_digits, nought, read_back, spelled}
use Rattle.kres_tool.proofs.commands.number_within.Goals as goal

pub returns-then-eq-clause-some : goal.returns-then-eq-clause-some
returns-then-eq-clause-some c =
    let zero : c.args.number.now ≡ 48 ∷ [] = search (rules, tests) in
    (zero ∙ sym nought, omega arith)

pub returns-then-is_empty-clause-none : goal.returns-then-is_empty-clause-none
returns-then-is_empty-clause-none c = λ n few is.
    let some : 0 < length c.args.number.now = has_digits c.args.number.now n (omega arith) is in
    let none : length c.as_bytes-digits.result.now ≡ 0 = search (rules, tests) in
    omega (arith, c.as_bytes-digits.ensures.len)

pub returns-then-digits-lt49-clause-none : goal.returns-then-digits-lt49-clause-none
returns-then-digits-lt49-clause-none c = λ n few is.
    let other : c.args.number.now ≢ 48 ∷ [] = search (rules, tests) in
    let above : 48 < get_or c.args.number.now 0 0 = first_digit c.args.number.now n (omega arith) is other in
    let below : get_or c.args.number.now 0 0 < 49 = subst (λ digits. get_or digits 0 0 < 49) c.as_bytes-digits.ensures.value c.if-digits-lt49.true in
    omega arith

pub returns-in_default-clause-none : goal.returns-in_default-clause-none
returns-in_default-clause-none c = λ n few is.
    let read : c.parse.result ≡ Ok n = read_back c.args.number.now n c.parse.result c.parse.ensures.value.0 (omega arith) is in
    cc c.in_default.is

pub returns-then-read-most-clause-some : goal.returns-then-read-most-clause-some
returns-then-read-most-clause-some c =
    let first : 49 ≤ get_or c.args.number.now 0 0 = subst (λ digits. 49 ≤ get_or digits 0 0) c.as_bytes-digits.ensures.value c.if-digits-lt49.false in (
      spelled c.args.number.now c.in-Ok.read c.parse.result c.in-Ok.is c.parse.ensures.value.0 (λ sign. omega arith) (λ zero. omega arith),
      c.if-read-most.true,
    )

pub returns-else-read-most-clause-none : goal.returns-else-read-most-clause-none
returns-else-read-most-clause-none c = λ n few is.
    let read : c.parse.result ≡ Ok n = read_back c.args.number.now n c.parse.result c.parse.ensures.value.0 (omega arith) is in
    let same : n ≡ c.in-Ok.read = cc c.in-Ok.is in
    omega arith

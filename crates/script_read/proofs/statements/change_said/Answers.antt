use Rattle.std.proofs.Common.{arith, ◌∙◌}
use Rattle.script_words.proofs.FewWords.{two_are}
use Rattle.script_words.proofs.Told.{err_is}
use Rattle.script_read.proofs.StatementWords.{changed, no_target, no_amount, too_few, too_many}
use Rattle.script_read.proofs.statements.change_said.Goals as goal

pub returns-in_err-register-in-len2 : goal.returns-in_err-register-in-len2
returns-in_err-register-in-len2 c =
    let target = c.target-item.result in
    let amount = c.amount-item.result in
    let kind = c.in_err-register-in-len2.field-0.0 in
    err_is kind c.from_residual.result c.from_residual.ensures.1
    ∙ no_target c.args.words.now target amount kind
    (two_are c.args.words.now target amount (omega arith) (omega arith) c.target-item.is c.amount-item.is)
    c.in_err-register-in-len2.ensures

pub returns-in_err-value-in-len2 : goal.returns-in_err-value-in-len2
returns-in_err-value-in-len2 c =
    let target = c.target-item.result in
    let amount = c.amount-item.result in
    let kind = c.in_err-value-in-len2.field-0.0 in
    err_is kind c.from_residual-in_err-value-in-len2.result c.from_residual-in_err-value-in-len2.ensures.1
    ∙ no_amount c.args.words.now target amount c.in_ok-register-in-len2.field-0 kind
    (two_are c.args.words.now target amount (omega arith) (omega arith) c.target-item.is c.amount-item.is)
    c.in_ok-register-in-len2.ensures c.in_err-value-in-len2.ensures

pub returns-in_ok-value-in-len2 : goal.returns-in_ok-value-in-len2
returns-in_ok-value-in-len2 c =
    let target = c.target-item.result in
    let amount = c.amount-item.result in
    changed c.args.words.now target amount c.in_ok-register-in-len2.field-0 c.in_ok-value-in-len2.field-0
    (two_are c.args.words.now target amount (omega arith) (omega arith) c.target-item.is c.amount-item.is)
    c.in_ok-register-in-len2.ensures c.in_ok-value-in-len2.ensures

pub returns-in_default : goal.returns-in_default
returns-in_default c = too_few c.args.words.now (omega arith)

pub returns-in_default-2 : goal.returns-in_default-2
returns-in_default-2 c = too_many c.args.words.now (omega arith)

use Rattle.script_print.proofs.Printed.{adds_both, adds_same, last_added}
use Rattle.script_print.proofs.printing_words.push_test.Goals as goal

pub returns : goal.returns
returns c =
    let right = adds_both c.push-4.ensures (last_added c.push_operand-2.ensures) in
    let test = adds_both c.push-2.ensures (adds_both (adds_same c.test_word.ensures c.push-3.ensures) right) in
    adds_both c.push.ensures (adds_both c.push_operand.ensures test)

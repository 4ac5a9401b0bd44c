use Rattle.std.proofs.Common.{◌≡◌, ℕ, List, [], ◌∷◌, Option, ap, sym}
use Rattle.std.specs.Prelude.{codes}
use Rattle.kabi_types.specs.Words.{word_of}
use Rattle.kabi_types.specs.declared.scripts.Statement.{Statement}
use Rattle.posix_defs.specs.Canonical.{label_word, operand_word, operand_words, shown_bytes, statement_words, target_words, test_text, words_text}
use Rattle.posix_defs.specs.ScriptLines.{shape_of}
use Rattle.posix_defs.specs.declared.said.Word.TheVariants.{Bare}
use Rattle.script_print.specs.Printing.{Adds}
use Rattle.script_print.proofs.Printed.{adds_both, adds_same, last_added, words_added, words_before}
use Rattle.script_print.proofs.printing.push_statement.Goals as goal

-- the statement is this one
printed_as : {a b : Option (List ℕ)} (body : List Statement) {statement is : Statement} → statement ≡ is → Adds a (words_text (statement_words body is)) b
    → Adds a (words_text (statement_words body statement)) b
printed_as body same adds = adds_same (ap (λ s. words_text (statement_words body s)) (sym same)) adds

pub returns-in-If : goal.returns-in-If
returns-in-If c =
    let here = c.in-If in
    printed_as c.args.body.now here.is
    (words_added (Bare (codes "if")) (operand_word here.left ∷ Bare (test_text here.test) ∷ operand_word here.right ∷ [])
    (label_word c.args.body.now here.place ∷ []) c.push_test.ensures c.push_label.ensures)

pub returns-in-Jump : goal.returns-in-Jump
returns-in-Jump c = printed_as c.args.body.now c.in-Jump.is (adds_both c.push.ensures c.push_label-in-Jump.ensures)

pub returns-in-Label : goal.returns-in-Label
returns-in-Label c =
    printed_as c.args.body.now c.in-Label.is
    (adds_both c.push-in-Label.ensures (last_added (adds_same (ap shown_bytes c.items.ensures.same) c.push_name.ensures)))

pub returns-in-Loop : goal.returns-in-Loop
returns-in-Loop c =
    printed_as c.args.body.now c.in-Loop.is
    (adds_both c.push-in-Loop.ensures (adds_both c.push_register.ensures c.push_label-in-Loop.ensures))

pub returns-in-Invoke : goal.returns-in-Invoke
returns-in-Invoke c =
    let here = c.in-Invoke in
    let call = adds_same (ap (λ values. words_text (Bare (word_of here.kind) ∷ operand_words (shape_of here.kind) values c.items-in-Invoke-2.result.now)) c.items-in-Invoke.ensures)
    c.push_call.ensures in
    let of = adds_same (ap (λ texts. words_text (Bare (word_of here.kind) ∷ operand_words (shape_of here.kind) here.operands texts)) c.items-in-Invoke-2.ensures) call in
    printed_as c.args.body.now here.is
    (adds_same (words_before (target_words here.first here.second) (Bare (word_of here.kind)) (operand_words (shape_of here.kind) here.operands here.texts))
    (adds_both c.push_targets.ensures of))

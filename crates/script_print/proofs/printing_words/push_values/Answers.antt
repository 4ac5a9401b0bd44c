use Rattle.std.proofs.Common.{◌++◌, arith}
use Rattle.posix_defs.specs.Canonical.{word_text, operand_word}
use Rattle.posix_defs.specs.Lines.{blank}
use Rattle.script_print.proofs.Printed.{adds_both, all_printed, next_printed}
use Rattle.script_print.proofs.printing_words.push_values.Goals as goal

pub returns : goal.returns
returns c = all_printed _ _ (λ word. blank ++ word_text word) operand_word c.loop-value.value-index c.args.values.now (omega arith) c.loop-value.invariant

pub loop-value-preserved : goal.loop-value-preserved
loop-value-preserved c =
    next_printed _ _ _ (λ value. blank ++ word_text (operand_word value)) c.args.values.now c.loop-value.value-index _ (omega arith) c.loop-value.invariant
    (adds_both c.push.ensures c.push_operand.ensures)

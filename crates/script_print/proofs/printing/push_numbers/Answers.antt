use Rattle.std.proofs.Common.{◌++◌, ap, arith}
use Rattle.posix_defs.specs.Canonical.{word_text, number_word}
use Rattle.std.specs.Prelude.{decimal}
use Rattle.posix_defs.specs.Lines.{blank}
use Rattle.script_print.proofs.Printed.{adds_both, adds_same, all_printed, next_printed}
use Rattle.script_print.proofs.printing.push_numbers.Goals as goal

pub returns : goal.returns
returns c = all_printed _ _ (λ word. blank ++ word_text word) number_word c.loop-number.number-index c.args.numbers.now (omega arith) c.loop-number.invariant

pub loop-number-preserved : goal.loop-number-preserved
loop-number-preserved c =
    next_printed _ _ _ (λ number. blank ++ word_text (number_word number)) c.args.numbers.now c.loop-number.number-index 0 (omega arith) c.loop-number.invariant
    (adds_both c.push.ensures (adds_same (ap decimal c.from.ensures) c.push_number.ensures))

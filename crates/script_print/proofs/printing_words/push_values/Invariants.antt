use Rattle.std.proofs.Common.{◌++◌, take}
use Rattle.std.specs.List.{flat_map}
use Rattle.script_print.specs.Printing.{Adds}
use Rattle.posix_defs.specs.Canonical.{word_text, operand_word}
use Rattle.posix_defs.specs.Lines.{blank}
use Rattle.script_print.proofs.printing_words.push_values.Given as goal

abbrev pub invariant-loop-value : goal.invariant-loop-value
invariant-loop-value l = Adds l.fn.out (flat_map (λ value. blank ++ word_text (operand_word value)) (take l.value-index l.values)) l.out

use Rattle.std.proofs.Common.{◌++◌, take}
use Rattle.std.specs.List.{flat_map}
use Rattle.script_print.specs.Printing.{Adds}
use Rattle.posix_defs.specs.Canonical.{word_text, number_word}
use Rattle.posix_defs.specs.Lines.{blank}
use Rattle.script_print.proofs.printing.push_numbers.Given as goal

abbrev pub invariant-loop-number : goal.invariant-loop-number
invariant-loop-number l = Adds l.fn.out (flat_map (λ number. blank ++ word_text (number_word number)) (take l.number-index l.numbers)) l.out

use Rattle.std.proofs.Common.{◌++◌, take}
use Rattle.std.specs.List.{flat_map}
use Rattle.script_print.specs.Printing.{Adds}
use Rattle.posix_defs.specs.Canonical.{word_text}
use Rattle.posix_defs.specs.Lines.{blank}
use Rattle.posix_defs.specs.declared.said.Word.TheVariants.{Quoted}
use Rattle.script_print.proofs.printing_words.push_texts.Given as goal

abbrev pub invariant-loop-text : goal.invariant-loop-text
invariant-loop-text l = Adds l.fn.out (flat_map (λ text. blank ++ word_text (Quoted text)) (take l.text-index l.texts)) l.out

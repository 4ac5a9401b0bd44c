use Rattle.std.proofs.Common.{◌++◌, ap, arith}
use Rattle.posix_defs.specs.Canonical.{shown_bytes, word_text}
use Rattle.posix_defs.specs.Lines.{blank}
use Rattle.posix_defs.specs.declared.said.Word.TheVariants.{Quoted}
use Rattle.script_print.proofs.Printed.{adds_both, adds_same, all_printed, next_item}
use Rattle.script_print.proofs.printing_words.push_texts.Goals as goal

pub returns : goal.returns
returns c = all_printed _ _ (λ word. blank ++ word_text word) Quoted c.loop-text.text-index c.args.texts.now (omega arith) c.loop-text.invariant

pub loop-text-preserved : goal.loop-text-preserved
loop-text-preserved c =
    let text = adds_same (ap shown_bytes c.items.ensures) c.push_bytes.ensures in
    next_item _ _ _ (λ text. blank ++ word_text (Quoted text)) c.args.texts.now c.loop-text.text-index _ (omega arith) c.text-item.is c.loop-text.invariant
    (adds_both c.push.ensures (adds_both text c.push-in-loop-text.ensures))

use Rattle.std.proofs.Common.{◌∙◌, ap, sym}
use Rattle.group_heap.specs.Texts.{up_to_blank}
use Rattle.group_heap.proofs.Cutting.{word_is}
use Rattle.group_heap.proofs.lines.up_to_blank.Goals as goal

pub returns : goal.returns
returns c = sym (word_is c.cut_word.result.0.now c.cut_word.result.1.now c.cut_word.ensures.plain c.cut_word.ensures.ends) ∙ ap up_to_blank (sym c.cut_word.ensures.whole)

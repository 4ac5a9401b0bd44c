use Rattle.std.proofs.Common.{refl}
use Rattle.script_words.proofs.Told.{told_as}
use Rattle.script_read.proofs.FirstWords.{passed, taken}
use Rattle.script_read.proofs.statements.statement_said.Goals as goal

pub returns-then-is_word : goal.returns-then-is_word
returns-then-is_word c = told_as _ c.set_said.result (taken _ _ _ c.if-is_word.ensures) c.set_said.ensures

pub returns-then-is_word-2 : goal.returns-then-is_word-2
returns-then-is_word-2 c = told_as _ c.add_said.result (passed _ _ _ _ c.if-is_word.ensures (taken _ _ _ c.if-is_word-2.ensures)) c.add_said.ensures

pub returns-then-is_word-3 : goal.returns-then-is_word-3
returns-then-is_word-3 c = told_as _ c.if_said.result (passed _ _ _ _ c.if-is_word.ensures (passed _ _ _ _ c.if-is_word-2.ensures (taken _ _ _ c.if-is_word-3.ensures))) c.if_said.ensures

pub returns-then-is_word-4 : goal.returns-then-is_word-4
returns-then-is_word-4 c = told_as _ c.jump_said.result (passed _ _ _ _ c.if-is_word.ensures (passed _ _ _ _ c.if-is_word-2.ensures (passed _ _ _ _ c.if-is_word-3.ensures (taken _ _ _ c.if-is_word-4.ensures)))) c.jump_said.ensures

pub returns-then-is_word-5 : goal.returns-then-is_word-5
returns-then-is_word-5 c = told_as _ c.label_said.result (passed _ _ _ _ c.if-is_word.ensures (passed _ _ _ _ c.if-is_word-2.ensures (passed _ _ _ _ c.if-is_word-3.ensures (passed _ _ _ _ c.if-is_word-4.ensures (taken _ _ _ c.if-is_word-5.ensures))))) c.label_said.ensures

pub returns-then-is_word-6 : goal.returns-then-is_word-6
returns-then-is_word-6 c = told_as _ c.loop_said.result (passed _ _ _ _ c.if-is_word.ensures (passed _ _ _ _ c.if-is_word-2.ensures (passed _ _ _ _ c.if-is_word-3.ensures (passed _ _ _ _ c.if-is_word-4.ensures (passed _ _ _ _ c.if-is_word-5.ensures (taken _ _ _ c.if-is_word-6.ensures)))))) c.loop_said.ensures

pub returns-else-is_word-6 : goal.returns-else-is_word-6
returns-else-is_word-6 c = told_as _ c.call_for.result (passed _ _ _ _ c.if-is_word.ensures (passed _ _ _ _ c.if-is_word-2.ensures (passed _ _ _ _ c.if-is_word-3.ensures (passed _ _ _ _ c.if-is_word-4.ensures (passed _ _ _ _ c.if-is_word-5.ensures (passed _ _ _ _ c.if-is_word-6.ensures refl)))))) c.call_for.ensures

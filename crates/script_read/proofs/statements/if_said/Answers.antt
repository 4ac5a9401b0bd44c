use Rattle.std.proofs.Common.{ap, arith, sym}
use Rattle.posix_defs.specs.ScriptLines.{if_said}
use Rattle.script_words.proofs.FewWords.{four_are}
use Rattle.script_words.proofs.Told.{told_as}
use Rattle.script_read.proofs.statements.if_said.Goals as goal

pub returns-in-len4 : goal.returns-in-len4
returns-in-len4 c =
    let are = four_are c.args.words.now c.left-item.result c.test-item.result c.right-item.result c.label-item.result
    (omega arith) (omega arith) c.left-item.is c.test-item.is c.right-item.is c.label-item.is in
    told_as _ c.if_of.result (ap if_said (sym are)) c.if_of.ensures

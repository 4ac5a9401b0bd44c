use Rattle.std.proofs.Common.{arith}
use Rattle.posix_defs.specs.Canonical.{line_text, statement_words}
use Rattle.script_print.proofs.Printed.{adds_both, all_printed, next_item}
use Rattle.script_print.proofs.printing.push_body.Goals as goal

pub returns : goal.returns
returns c =
    all_printed _ _ line_text (statement_words c.args.body.now) c.loop-statement.statement-index c.args.body.now (omega arith) c.loop-statement.invariant

pub loop-statement-preserved : goal.loop-statement-preserved
loop-statement-preserved c =
    next_item _ _ _ (λ statement. line_text (statement_words c.args.body.now statement)) c.args.body.now c.loop-statement.statement-index _ (omega arith)
    c.statement-item.is c.loop-statement.invariant (adds_both c.push_statement.ensures c.push.ensures)

use Rattle.std.proofs.Common.{arith}
use Rattle.posix_defs.specs.ScriptText.{too_long}
use Rattle.script_read.proofs.Lines.{outcome_is}
use Rattle.script_parse.proofs.TextReads.{text_means}
use Rattle.script_parse.proofs.ValidScripts.{parsed_valid}
use Rattle.script_parse.proofs.scripts.parse.Goals as goal

pub returns-then-text-gt-MOST_BYTES-clause-reads : goal.returns-then-text-gt-MOST_BYTES-clause-reads
returns-then-text-gt-MOST_BYTES-clause-reads c = too_long c.args.text.now (omega arith)

pub returns-clause-reads : goal.returns-clause-reads
returns-clause-reads c = outcome_is _ _ c.read.result (λ outcome read. text_means c.args.text.now outcome (omega arith) read) c.read.ensures

pub returns-clause-valid : goal.returns-clause-valid
returns-clause-valid c =
    parsed_valid c.args.text.now c.read.result
    (outcome_is _ _ c.read.result (λ outcome read. text_means c.args.text.now outcome (omega arith) read) c.read.ensures)

use Rattle.call_run.proofs.Numbering.{no_bytes}
use Rattle.call_run.proofs.numbers.moves.Goals as goal

pub returns-in_default : goal.returns-in_default
returns-in_default c = no_bytes c.args.call.now c.in_default.not-Read c.in_default.not-Write

use Rattle.kern_laws.proofs.Refusals.{wants_nothing}
use Rattle.kern_laws.proofs.runs.no_reply_wants_memory.Goals as goal

pub returns : goal.returns
returns c = λ script history past is_run. wants_nothing is_run

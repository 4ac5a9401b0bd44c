use Rattle.kern_laws.proofs.Legal.{legal}
use Rattle.kern_laws.proofs.runs.entries_are_a_legal_history.Goals as goal

pub returns : goal.returns
returns c = λ script steps run s is_run. let found = legal is_run in (found.past, found.is_run, found.plain_is, found.account_is)

use Rattle.kern_shared.proofs.Keeping.{few_held}
use Rattle.kern_shared.proofs.values.few_processes_are_held.Goals as goal

pub returns : goal.returns
returns g c = few_held g.T.Turner.stands g.T.Turner.script g.T.Turner.beside

use Rattle.kern_shared.proofs.Keeping.{before_starved}
use Rattle.kern_shared.proofs.values.a_reserved_call_finds_no_starved.Goals as goal

pub returns : goal.returns
returns g c = before_starved g.T.Turner.stands g.T.Turner.script g.T.Turner.beside

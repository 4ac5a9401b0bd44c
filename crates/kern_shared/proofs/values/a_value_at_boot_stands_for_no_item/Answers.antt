use Rattle.kern_shared.proofs.Keeping.{at_boot}
use Rattle.kern_shared.proofs.values.a_value_at_boot_stands_for_no_item.Goals as goal

pub returns : goal.returns
returns g c = at_boot g.T.Turner.stands g.T.Turner.script g.T.Turner.beside

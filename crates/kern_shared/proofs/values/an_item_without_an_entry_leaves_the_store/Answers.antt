use Rattle.kern_shared.proofs.Keeping.{behind_back, behind_given, behind_live, behind_starved}
use Rattle.kern_shared.proofs.values.an_item_without_an_entry_leaves_the_store.Goals as goal

pub returns-clause-given : goal.returns-clause-given
returns-clause-given g c = behind_given g.T.Turner.stands g.T.Turner.script g.T.Turner.beside

pub returns-clause-back : goal.returns-clause-back
returns-clause-back g c = behind_back g.T.Turner.stands g.T.Turner.script g.T.Turner.beside

pub returns-clause-live : goal.returns-clause-live
returns-clause-live g c = behind_live g.T.Turner.stands g.T.Turner.script g.T.Turner.beside

pub returns-clause-starved : goal.returns-clause-starved
returns-clause-starved g c = behind_starved g.T.Turner.stands g.T.Turner.script g.T.Turner.beside

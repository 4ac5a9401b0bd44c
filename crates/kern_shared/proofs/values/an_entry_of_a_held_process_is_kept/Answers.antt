use Rattle.kern_shared.proofs.Turning.{behind_gone, behind_refused, behind_turn}
use Rattle.kern_shared.proofs.values.an_entry_of_a_held_process_is_kept.Goals as goal

pub returns-clause-gone : goal.returns-clause-gone
returns-clause-gone g c = behind_gone g.T.Turner.stands g.T.Turner.script g.T.Turner.beside

pub returns-clause-turned : goal.returns-clause-turned
returns-clause-turned g c = behind_turn g.T.Turner.stands g.T.Turner.script g.T.Turner.beside

pub returns-clause-refused : goal.returns-clause-refused
returns-clause-refused g c = behind_refused g.T.Turner.stands g.T.Turner.script g.T.Turner.beside

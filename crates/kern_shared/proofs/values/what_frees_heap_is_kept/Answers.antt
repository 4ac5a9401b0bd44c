use Rattle.kern_shared.proofs.Turning.{behind_cleared, behind_killed}
use Rattle.kern_shared.proofs.values.what_frees_heap_is_kept.Goals as goal

pub returns-clause-cleared : goal.returns-clause-cleared
returns-clause-cleared g c = behind_cleared g.T.Turner.stands g.T.Turner.script g.T.Turner.beside

pub returns-clause-killed : goal.returns-clause-killed
returns-clause-killed g c = behind_killed g.T.Turner.stands g.T.Turner.script g.T.Turner.beside

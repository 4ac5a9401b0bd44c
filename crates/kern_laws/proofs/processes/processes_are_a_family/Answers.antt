use Rattle.kern_laws.proofs.Families.{reached_kept}
use Rattle.kern_laws.proofs.processes.processes_are_a_family.Goals as goal

pub returns-clause-family : goal.returns-clause-family
returns-clause-family c = λ script history past run. let kept = reached_kept run in kept.family

pub returns-clause-counted : goal.returns-clause-counted
returns-clause-counted c = λ script history past run. let kept = reached_kept run in kept.counted

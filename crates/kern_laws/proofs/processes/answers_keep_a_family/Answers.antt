use Rattle.kern_laws.proofs.Families.{answers_on}
use Rattle.kern_laws.proofs.processes.answers_keep_a_family.Goals as goal

pub returns : goal.returns
returns c = answers_on

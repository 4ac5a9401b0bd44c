use Rattle.kern_laws.proofs.Families.{nobody_alive, reached_kept}
use Rattle.kern_laws.proofs.processes.nobody_outlives_the_first_process.Goals as goal

pub returns : goal.returns
returns c = λ script history past run dead pid. let kept = reached_kept run in nobody_alive past.plain.table kept.family dead pid

use Rattle.machine_laws.proofs.Entries.{follows_dead}
use Rattle.machine_laws.proofs.runs.who_has_ended_stays_so.Goals as goal

pub returns : goal.returns
returns c = λ script history past added next run follows. follows_dead added next run follows

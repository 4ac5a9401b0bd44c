use Rattle.machine_laws.proofs.Entries.{follows_own}
use Rattle.machine_laws.proofs.runs.an_entry_of_another_leaves_alone.Goals as goal

pub returns : goal.returns
returns c = λ script history past added next run follows. follows_own added next run follows

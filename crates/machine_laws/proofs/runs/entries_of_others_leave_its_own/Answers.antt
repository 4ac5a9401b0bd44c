use Rattle.machine_laws.proofs.Entries.{all_own}
use Rattle.machine_laws.proofs.runs.entries_of_others_leave_its_own.Goals as goal

pub returns : goal.returns
returns c = λ script history past entries next run follow. all_own run follow

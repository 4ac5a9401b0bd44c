use Rattle.machine_laws.proofs.Alone.{answers_leave_alone}
use Rattle.machine_laws.proofs.Struck.{answers_end}
use Rattle.machine_laws.proofs.own.another_call_leaves_alone.Goals as goal

pub returns-clause-alone : goal.returns-clause-alone
returns-clause-alone c = answers_leave_alone

pub returns-clause-ended : goal.returns-clause-ended
returns-clause-ended c = answers_end

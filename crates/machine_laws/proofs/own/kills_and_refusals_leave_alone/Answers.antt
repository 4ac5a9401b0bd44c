use Rattle.machine_laws.proofs.Alone.{killed_leaves_alone, refused_leaves_alone}
use Rattle.machine_laws.proofs.own.kills_and_refusals_leave_alone.Goals as goal

pub returns-clause-refused : goal.returns-clause-refused
returns-clause-refused c = refused_leaves_alone

pub returns-clause-killed : goal.returns-clause-killed
returns-clause-killed c = killed_leaves_alone

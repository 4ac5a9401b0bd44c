use Rattle.machine_laws.proofs.Chains.{never_slept, sleeps_in_none, told_in_a_circle, waits_so}
use Rattle.machine_laws.proofs.locks.a_circle_is_refused_and_never_slept_in.Goals as goal

pub returns-clause-answered : goal.returns-clause-answered
returns-clause-answered c = waits_so

pub returns-clause-told : goal.returns-clause-told
returns-clause-told c = λ script plain next pid fd kind start size told. told_in_a_circle script plain pid fd kind start size next told

pub returns-clause-refused : goal.returns-clause-refused
returns-clause-refused c = never_slept

pub returns-clause-slept : goal.returns-clause-slept
returns-clause-slept c = sleeps_in_none

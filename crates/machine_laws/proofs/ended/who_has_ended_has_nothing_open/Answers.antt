use Rattle.machine_laws.proofs.Placing.{answers_placed, boot_placed, die_placed}
use Rattle.machine_laws.proofs.ended.who_has_ended_has_nothing_open.Goals as goal

pub returns-clause-boot : goal.returns-clause-boot
returns-clause-boot c = boot_placed

pub returns-clause-answered : goal.returns-clause-answered
returns-clause-answered c = λ script plain pid call placed alive. answers_placed script plain pid placed alive call

pub returns-clause-killed : goal.returns-clause-killed
returns-clause-killed c = die_placed

use Rattle.machine_laws.proofs.Naming.{answers_described, boot_described, die_described}
use Rattle.machine_laws.proofs.ended.every_description_is_named.Goals as goal

pub returns-clause-boot : goal.returns-clause-boot
returns-clause-boot c = boot_described

pub returns-clause-answered : goal.returns-clause-answered
returns-clause-answered c = answers_described

pub returns-clause-killed : goal.returns-clause-killed
returns-clause-killed c = die_described

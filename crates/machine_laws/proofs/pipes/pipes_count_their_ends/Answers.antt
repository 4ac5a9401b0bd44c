use Rattle.machine_laws.proofs.Piping.{answers_piped, boot_piped, die_piped, reached_piped}
use Rattle.machine_laws.proofs.pipes.pipes_count_their_ends.Goals as goal

pub returns-clause-boot : goal.returns-clause-boot
returns-clause-boot c = boot_piped

pub returns-clause-answered : goal.returns-clause-answered
returns-clause-answered c = answers_piped

pub returns-clause-killed : goal.returns-clause-killed
returns-clause-killed c = die_piped

pub returns-clause-reached : goal.returns-clause-reached
returns-clause-reached c = reached_piped

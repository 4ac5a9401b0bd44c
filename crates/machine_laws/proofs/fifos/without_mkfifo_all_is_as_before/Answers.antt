use Rattle.machine_laws.proofs.FifoLess.{boot_free, killed_free, reached_free, same_closed, same_ended, same_machine, same_nodes, stays_free}
use Rattle.machine_laws.proofs.fifos.without_mkfifo_all_is_as_before.Goals as goal

pub returns-clause-boot : goal.returns-clause-boot
returns-clause-boot c = boot_free

pub returns-clause-stays : goal.returns-clause-stays
returns-clause-stays c = stays_free

pub returns-clause-refused : goal.returns-clause-refused
returns-clause-refused c = λ script plain pid none. none

pub returns-clause-killed : goal.returns-clause-killed
returns-clause-killed c = killed_free

pub returns-clause-reached : goal.returns-clause-reached
returns-clause-reached c = reached_free

pub returns-clause-same : goal.returns-clause-same
returns-clause-same c = λ script plain pid call none. same_machine script plain pid none call

pub returns-clause-nodes : goal.returns-clause-nodes
returns-clause-nodes c = same_nodes

pub returns-clause-closed : goal.returns-clause-closed
returns-clause-closed c = same_closed

pub returns-clause-ended : goal.returns-clause-ended
returns-clause-ended c = same_ended

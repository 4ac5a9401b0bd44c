use Rattle.machine_laws.proofs.Ignoring.{boot_ignores, die_all, same_machine, stay_ignoring}
use Rattle.machine_laws.proofs.signals.without_signal_all_is_as_before.Goals as goal

pub returns-clause-boot : goal.returns-clause-boot
returns-clause-boot c = boot_ignores

pub returns-clause-stays : goal.returns-clause-stays
returns-clause-stays c = λ script plain pid call all. stay_ignoring script plain pid all call

pub returns-clause-refused : goal.returns-clause-refused
returns-clause-refused c = λ script plain pid all. all

pub returns-clause-killed : goal.returns-clause-killed
returns-clause-killed c = λ plain pid status all. die_all plain.table pid status all

pub returns-clause-same : goal.returns-clause-same
returns-clause-same c = λ script plain pid call all. same_machine script plain pid all call

use Rattle.machine_laws.proofs.Ignoring.{write_ends_so}
use Rattle.machine_laws.proofs.signals.a_write_that_ends_its_caller_moved_nothing.Goals as goal

pub returns : goal.returns
returns c = write_ends_so

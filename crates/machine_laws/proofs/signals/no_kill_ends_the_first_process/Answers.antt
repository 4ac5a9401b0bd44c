use Rattle.machine_laws.proofs.Ignoring.{kill_spares_first}
use Rattle.machine_laws.proofs.signals.no_kill_ends_the_first_process.Goals as goal

pub returns : goal.returns
returns c = kill_spares_first

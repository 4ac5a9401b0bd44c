use Rattle.proc_table.proofs.OpenLemmas.{have_asleep, have_booted, have_ended, have_forked, have_nodes, have_turned, have_waited}
use Rattle.proc_table.proofs.laws.descriptors_go_on.Goals as goal

pub returns : goal.returns
returns c = record { booted = have_booted; forked = have_forked; ended = have_ended; waited = have_waited; remembers = have_nodes; turned = have_turned; sleeps = have_asleep }

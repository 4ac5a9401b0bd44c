use Rattle.machine_laws.proofs.Ignoring.{ignoring_never_ends, sent_leaves}
use Rattle.machine_laws.proofs.signals.who_ignores_a_signal_is_not_ended_by_it.Goals as goal

pub returns-clause-sent : goal.returns-clause-sent
returns-clause-sent c = sent_leaves

pub returns-clause-broken : goal.returns-clause-broken
returns-clause-broken c = ignoring_never_ends

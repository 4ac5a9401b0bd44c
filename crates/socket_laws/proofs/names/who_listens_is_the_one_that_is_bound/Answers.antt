use Rattle.socket_laws.proofs.ListenerLemmas.{listener_found, listener_is, nobody_listens}
use Rattle.socket_laws.proofs.names.who_listens_is_the_one_that_is_bound.Goals as goal

pub returns-clause-found : goal.returns-clause-found
returns-clause-found c = listener_found

pub returns-clause-bound : goal.returns-clause-bound
returns-clause-bound c = λ sockets place number is. (listener_is sockets place number is).bound

pub returns-clause-listens : goal.returns-clause-listens
returns-clause-listens c = λ sockets place number is. let it = listener_is sockets place number is in (it.waiting, it.stage)

pub returns-clause-nobody : goal.returns-clause-nobody
returns-clause-nobody c = nobody_listens

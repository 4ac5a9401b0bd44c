use Rattle.socket_laws.proofs.ListenerLemmas.{freed_name, no_name_to_free, freed_is_nobodys, freed_once}
use Rattle.socket_laws.proofs.names.a_freed_name_is_nobodys.Goals as goal

pub returns-clause-one : goal.returns-clause-one
returns-clause-one c = freed_name

pub returns-clause-none : goal.returns-clause-none
returns-clause-none c = no_name_to_free

pub returns-clause-freed : goal.returns-clause-freed
returns-clause-freed c = freed_is_nobodys

pub returns-clause-once : goal.returns-clause-once
returns-clause-once c = freed_once

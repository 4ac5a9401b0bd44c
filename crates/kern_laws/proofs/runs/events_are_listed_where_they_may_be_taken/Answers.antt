use Rattle.kern_laws.proofs.EnabledEvents.{enabled, listed}
use Rattle.kern_laws.proofs.runs.events_are_listed_where_they_may_be_taken.Goals as goal

pub returns-clause-listed : goal.returns-clause-listed
returns-clause-listed c = λ script s i event sound is. enabled script s i event sound.rising is

pub returns-clause-all : goal.returns-clause-all
returns-clause-all c = λ script s event may. listed script s event may

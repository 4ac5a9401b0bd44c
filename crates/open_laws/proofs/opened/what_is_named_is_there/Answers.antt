use Rattle.open_laws.proofs.GoingLemmas.{counts_few, droppable, named_there}
use Rattle.open_laws.proofs.opened.what_is_named_is_there.Goals as goal

pub returns : goal.returns
returns c = record { droppable = droppable; there = named_there; few = counts_few }

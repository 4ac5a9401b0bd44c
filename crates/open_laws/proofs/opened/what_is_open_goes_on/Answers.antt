use Rattle.open_laws.proofs.GoingLemmas.{held_open_on, named_on, open_on}
use Rattle.open_laws.proofs.opened.what_is_open_goes_on.Goals as goal

pub returns : goal.returns
returns c = record { opened = open_on; held = held_open_on; named = named_on }

use Rattle.turn_words.proofs.Notes.{goes_on}
use Rattle.turn_words.proofs.laws.what_is_noted_goes_on.Goals as goal

pub returns : goal.returns
returns c = goes_on

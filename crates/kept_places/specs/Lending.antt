-- What a list of places ends as, where one of its things is lent to be changed.
use Rattle.std.specs.Prelude.{ℕ, List, Option}
use Rattle.std.specs.Borrow.{Lends, Fml, RattleType, MutBor}
use Rattle.kept_places.specs.Places.{put}
use Rattle.kept_places.specs.contracts.places.Places.{the_row}

module _ (X : RattleType) (places : MutBor (List (Option X.Denot))) (place : ℕ) where
  -- once the borrow ends, the thing that was last written through it is at its place
  abbrev pub lends_what : MutBor X.Denot → Fml
  lends_what lent = Lends (the_row X) X places lent (put places.now place)

-- What a shelf ends as, where one of its objects is lent to be changed.
use Rattle.std.specs.Prelude.{ℕ, List, Option}
use Rattle.std.specs.Borrow.{Lends, Fml, RattleType, MutBor}
use Rattle.kheap_slabs.specs.Objects.{put}
use Rattle.kheap_slabs.specs.contracts.shelf.Shelf.{the_row}

module _ (T : RattleType) (shelf : MutBor (List (Option T.Denot))) (key : ℕ) where
  -- once the borrow ends, the key names the object that was last written through it
  abbrev pub lends_object : MutBor T.Denot → Fml
  lends_object r = Lends (the_row T) T shelf r (put shelf.now key)

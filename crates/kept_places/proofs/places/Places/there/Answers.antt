use Rattle.std.proofs.Common.{sym}
use Rattle.kept_places.proofs.Changes.{there-spread}
use Rattle.kept_places.proofs.places.Places.there.Goals as goal

pub returns : goal.returns
returns g c = rw (c.as_slice.ensures.value, ← c.self.view_is) (sym (there-spread c.self.inside.made c.self.inside.there.items c.self.invariant))

use Rattle.std.proofs.Common.{length, sym, ap, ◌∙◌}
use Rattle.kept_places.proofs.Changes.{length-spread}
use Rattle.kept_places.proofs.places.Places.made.Goals as goal

pub returns : goal.returns
returns g c = sym (length-spread c.self.inside.made c.self.inside.there.items) ∙ ap length c.self.view_is

use Rattle.std.proofs.Common.{◌≡◌, Some, None, sym, ap, ◌∙◌}
use Rattle.kept_places.specs.Rising.{IsFoundAt, found}
use Rattle.kept_places.proofs.Changes.{at-spread, at_index}
use Rattle.kept_places.proofs.places.Places.get.Goals as goal

pub returns-in_err-index : goal.returns-in_err-index
returns-in_err-index g c =
    let nowhere : found c.self.inside.there.items c.args.place ≡ None = rw c.deref.ensures.value at c.in_err-index.ensures in
    rw (c.from_residual.ensures, ← c.self.view_is) (sym (at-spread c.self.inside.made c.self.inside.there.items c.args.place c.self.invariant ∙ nowhere))

pub returns : goal.returns
returns g c =
    let stands : IsFoundAt c.self.inside.there.items c.args.place (Some c.in_ok-index.index) = rw c.deref.ensures.value at c.in_ok-index.ensures in
    let now = c.index.result.now in
    rw (← c.self.view_is) (ap (λ k. Some k.what) c.index.ensures ∙ sym (at_index c.self.inside.made c.self.inside.there.items c.in_ok-index.index now c.args.place c.self.invariant stands.0 (stands.1 now)))

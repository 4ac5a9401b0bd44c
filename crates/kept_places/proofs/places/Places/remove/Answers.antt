use Rattle.std.proofs.Common.{◌≡◌, Some, None, sym, ap, ◌∙◌}
use Rattle.kept_places.specs.Rising.{IsFoundAt, found}
use Rattle.kept_places.proofs.Changes.{AreRising-removed, at-spread, at_index, spread-removed, without_none}
use Rattle.kept_places.proofs.places.Places.remove.Goals as goal

pub returns-in_err-index-clause-taken : goal.returns-in_err-index-clause-taken
returns-in_err-index-clause-taken g c =
    let nowhere : found c.self.inside.there.items c.args.place ≡ None = rw c.deref.ensures.value at c.in_err-index.ensures in
    rw (c.from_residual.ensures, ← c.self.view_is) (sym (at-spread c.self.inside.made c.self.inside.there.items c.args.place c.self.invariant ∙ nowhere))

pub returns-in_err-index-clause-left : goal.returns-in_err-index-clause-left
returns-in_err-index-clause-left g c =
    let nowhere : found c.self.inside.there.items c.args.place ≡ None = rw c.deref.ensures.value at c.in_err-index.ensures in
    without_none c.args.self.now c.args.place (rw (← c.self.view_is) (at-spread c.self.inside.made c.self.inside.there.items c.args.place c.self.invariant ∙ nowhere))

pub invariant_of-self : goal.invariant_of-self
invariant_of-self g c =
    let found_so : IsFoundAt c.self.inside.there.items c.args.place (Some c.in_ok-index.index) = rw c.deref.ensures.value at c.in_ok-index.ensures in
    rw c.remove.ensures.items (AreRising-removed c.self.inside.made c.self.inside.there.items c.in_ok-index.index c.self.invariant found_so.0)

pub returns-clause-taken : goal.returns-clause-taken
returns-clause-taken g c =
    let found_so : IsFoundAt c.self.inside.there.items c.args.place (Some c.in_ok-index.index) = rw c.deref.ensures.value at c.in_ok-index.ensures in
    let was = c.remove.result in
    rw (← c.self.view_is) (ap (λ k. Some k.what) c.remove.ensures.value ∙ sym (at_index c.self.inside.made c.self.inside.there.items c.in_ok-index.index was c.args.place c.self.invariant found_so.0 (found_so.1 was)))

pub returns-clause-left : goal.returns-clause-left
returns-clause-left g c =
    let found_so : IsFoundAt c.self.inside.there.items c.args.place (Some c.in_ok-index.index) = rw c.deref.ensures.value at c.in_ok-index.ensures in
    rw (c.remove.ensures.items, ← c.self.view_is) (spread-removed c.self.inside.made c.self.inside.there.items c.in_ok-index.index c.remove.result c.args.place c.self.invariant found_so.0 (found_so.1 c.remove.result))

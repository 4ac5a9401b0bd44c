use Rattle.std.proofs.Common.{◌≡◌, length, sym, ap, ◌∙◌, arith}
use Rattle.kept_places.proofs.Changes.{AreRising-pushed, length-spread, spread-pushed}
use Rattle.kept_places.proofs.places.Places.push.Goals as goal

pub overflow_add-self : goal.overflow_add-self
overflow_add-self g c =
    let made = length-spread c.self.inside.made c.self.inside.there.items in
    let same : length c.args.self.now ≡ c.self.inside.made = rw (← c.self.view_is) made in
    record { fits = omega (arith, c.requires) }

pub invariant_of-self-2 : goal.invariant_of-self-2
invariant_of-self-2 g c = rw c.in_ok-push.ensures.items (AreRising-pushed c.self.inside.made c.self.inside.there.items c.args.what c.self.invariant)

pub returns-clause-place : goal.returns-clause-place
returns-clause-place g c = sym (length-spread c.self.inside.made c.self.inside.there.items) ∙ ap length c.self.view_is

pub returns-clause-pushed : goal.returns-clause-pushed
returns-clause-pushed g c =
    rw (c.in_ok-push.ensures.items, ← c.self.view_is) (spread-pushed c.self.inside.made c.self.inside.there.items c.args.what c.self.invariant)

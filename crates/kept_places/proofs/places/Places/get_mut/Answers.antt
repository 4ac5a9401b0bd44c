use Rattle.std.proofs.Common.{◌≡◌, Some, None, refl, sym, ap, ◌∙◌}
use Rattle.std.proofs.lemmas.Bool.{false≢true}
use Rattle.kept_places.specs.Places.{at}
use Rattle.kept_places.specs.Rising.{IsFoundAt, found}
use Rattle.kept_places.proofs.Changes.{AreRising-written, at-spread, at_index, spread-written}
use Rattle.kept_places.proofs.places.Places.get_mut.Goals as goal

pub unreachable-requires : goal.unreachable-requires
unreachable-requires g c =
    let nowhere : found c.self.inside.there.items c.args.place ≡ None = rw c.deref.ensures.value at c.in-None.ensures in
    let none : at c.args.self.now c.args.place ≡ None = rw (← c.self.view_is) (at-spread c.self.inside.made c.self.inside.there.items c.args.place c.self.invariant ∙ nowhere) in
    false≢true (rw none at c.requires)

pub invariant_of-self-lent : goal.invariant_of-self-lent
invariant_of-self-lent g c =
    let stands : IsFoundAt c.self.inside.there.items c.args.place (Some c.in-Some.index) = rw c.deref.ensures.value at c.in-Some.ensures in
    λ w. AreRising-written c.self.inside.made c.self.inside.there.items c.in-Some.index c.index_mut.result.now w c.self.invariant stands.0 c.index_mut.ensures.value

pub returns : goal.returns
returns g c =
    let stands : IsFoundAt c.self.inside.there.items c.args.place (Some c.in-Some.index) = rw c.deref.ensures.value at c.in-Some.ensures in
    let now = c.index_mut.result.now in (
      (refl, λ w. rw (← c.self.view_is) (spread-written c.self.inside.made c.self.inside.there.items c.in-Some.index now w c.args.place c.self.invariant stands.0 c.index_mut.ensures.value (stands.1 now))),
      record {
        writes_back = tt;
        value = rw (← c.self.view_is) (at_index c.self.inside.made c.self.inside.there.items c.in-Some.index now c.args.place c.self.invariant stands.0 (stands.1 now) ∙ sym (ap (λ k. Some k.what) c.index_mut.ensures.value));
      },
    )

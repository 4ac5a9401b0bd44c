use Rattle.std.proofs.Common.{◌≡◌, get_or, None, Some, refl, ◌∙◌}
use Rattle.kheap_slabs.proofs.ShelfLemmas.{used_given, object_named, objects-changed}
use Rattle.kheap_slabs.proofs.shelf.Shelf.get_mut.Goals as goal

pub place_at-place-requires : goal.place_at-place-requires
place_at-place-requires g c = rw c.deref.ensures.value (used_given c.self.inside.slab c.self.inside.limit c.self.inside.places.items _ c.self.inside.free.items _ c.self.inside.spare.items _ c.self.invariant c.args.key (rw (← c.self.view_is) at c.requires))

pub returns : goal.returns
returns g c =
    let placed : get_or c.self.inside.places.items c.args.key None ≡ Some c.place_at-place.result = rw c.deref.ensures.value at c.place_at-place.ensures in (
      (refl {a = c.index_mut.result.ghost_name}, λ w. rw (← c.self.view_is) (objects-changed c.self.inside.slab c.self.inside.limit c.self.inside.places.items _ c.self.inside.free.items _ c.self.inside.spare.items _ c.self.invariant c.args.key c.place_at-place.result placed w)),
      record { writes_back = tt; value = rw (← c.self.view_is) (object_named c.self.inside.slab c.self.inside.limit c.self.inside.places.items _ c.self.inside.free.items _ c.self.inside.spare.items _ c.self.invariant c.args.key c.place_at-place.result placed ∙ c.index_mut.ensures.value) },
    )

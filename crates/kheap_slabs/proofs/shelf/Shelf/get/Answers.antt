use Rattle.std.proofs.Common.{◌≡◌, Some, None, get_or, ◌∙◌}
use Rattle.kheap_slabs.proofs.ShelfLemmas.{used_given, object_named}
use Rattle.kheap_slabs.proofs.shelf.Shelf.get.Goals as goal

pub place_at-requires : goal.place_at-requires
place_at-requires g c = rw c.deref.ensures.value (used_given c.self.inside.slab c.self.inside.limit c.self.inside.places.items _ c.self.inside.free.items _ c.self.inside.spare.items _ c.self.invariant c.args.key (rw (← c.self.view_is) at c.requires))

pub returns : goal.returns
returns g c =
    let placed : get_or c.self.inside.places.items c.args.key None ≡ Some c.place_at.result = rw c.deref.ensures.value at c.place_at.ensures in
    record { value = rw (← c.self.view_is) (object_named c.self.inside.slab c.self.inside.limit c.self.inside.places.items _ c.self.inside.free.items _ c.self.inside.spare.items _ c.self.invariant c.args.key c.place_at.result placed ∙ c.index.ensures) }

use Rattle.std.proofs.Common.{◌+◌, ap, ◌∙◌, arith}
use Rattle.kheap_slabs.specs.Objects.{object, count}
use Rattle.kheap_slabs.proofs.ObjectLemmas.{InUse-within, object-without, count-without}
use Rattle.kheap_slabs.proofs.ShelfLemmas.{used_given, freed_fits, objects-removed, IsShelf-removed}
use Rattle.kheap_slabs.proofs.shelf.Shelf+Name.take_out.Goals as goal

pub let_go-place-requires-clause-used : goal.let_go-place-requires-clause-used
let_go-place-requires-clause-used c = used_given c.self.inside.slab c.self.inside.limit c.self.inside.places.items _ c.self.inside.free.items _ c.self.inside.spare.items _ c.self.invariant c.args.key (rw (← c.self.view_is) at c.requires)

pub let_go-place-requires-clause-room : goal.let_go-place-requires-clause-room
let_go-place-requires-clause-room c =
    let more = freed_fits c.self.inside.slab c.self.inside.limit c.self.inside.places.items _ c.self.inside.free.items _ c.self.inside.spare.items _ c.self.invariant c.args.key (rw (← c.self.view_is) at c.requires) in
    omega (arith, c.self.inside.free.ok, more)

pub invariant_of-self : goal.invariant_of-self
invariant_of-self c =
    rw (c.let_go-place.ensures.gone, c.let_go-place.ensures.freed, c.let_go-place.ensures.capacity, c.let_go-place.ensures.places_capacity)
    (IsShelf-removed c.self.inside.slab c.self.inside.limit c.self.inside.places.items _ c.self.inside.free.items _ c.self.inside.spare.items _ c.self.invariant c.args.key c.let_go-place.result c.let_go-place.ensures.place c.remove.new.self c.remove.ensures.updates c.remove.ensures.len c.remove.ensures.capacity)

pub returns-clause-kept : goal.returns-clause-kept
returns-clause-kept c =
    rw (c.let_go-place.ensures.gone, ← c.self.view_is)
    (objects-removed c.self.inside.slab c.self.inside.limit c.self.inside.places.items _ c.self.inside.free.items _ c.self.inside.spare.items _ c.self.invariant c.args.key c.let_go-place.result c.let_go-place.ensures.place c.remove.new.self c.remove.ensures.updates)

pub returns-clause-gone : goal.returns-clause-gone
returns-clause-gone c = ap (λ objects. object objects c.args.key) (returns-clause-kept c) ∙ object-without c.args.self.now c.args.key (InUse-within c.args.self.now c.args.key c.requires)

pub returns-clause-counted : goal.returns-clause-counted
returns-clause-counted c = ap (λ objects. count objects + 1) (returns-clause-kept c) ∙ count-without c.args.self.now c.args.key c.requires

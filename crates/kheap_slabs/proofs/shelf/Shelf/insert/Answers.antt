use Rattle.std.proofs.Common.{◌≡◌, ◌<◌, arith, length, None, ap, ◌∙◌}
use Rattle.std.proofs.lemmas.List.{length-map, get_or-map}
use Rattle.kheap_slabs.specs.Objects.{object, count}
use Rattle.kheap_slabs.specs.Places.{found_at, all_places}
use Rattle.kheap_slabs.proofs.ObjectLemmas.{object-put, count-put_new, length-put}
use Rattle.kheap_slabs.proofs.ShelfLemmas.{key_is_left, object_fits, IsShelf-insert, key_was_free, objects-insert}
use Rattle.kheap_slabs.proofs.shelf.Shelf.insert.Goals as goal

room_left : (g : _) (c : goal.After-take_key g) → length c.self.inside.free.items ≡ 0 → length c.self.inside.places.items < c.self.inside.limit
room_left g c = key_is_left c.self.inside.slab c.self.inside.limit c.self.inside.places.items _ c.self.inside.free.items _ c.self.inside.spare.items _ c.self.invariant (rw (← c.self.view_is) at c.requires)

pub put_in-place-requires-clause-left_there : goal.put_in-place-requires-clause-left_there
put_in-place-requires-clause-left_there g c = λ i lt. c.self.invariant.sound.left_there i (omega (arith, c.self.inside.spare.ok, lt))

pub put_in-place-requires-clause-room : goal.put_in-place-requires-clause-room
put_in-place-requires-clause-room g c = λ none. object_fits c.self.inside.slab c.self.inside.limit c.self.inside.places.items _ c.self.inside.free.items _ c.self.inside.spare.items _ c.self.invariant (rw (← c.self.view_is) at c.requires) (omega (arith, c.self.inside.spare.ok, none))

pub take_key-requires-clause-given : goal.take_key-requires-clause-given
take_key-requires-clause-given g c = λ i lt. let given = c.self.invariant.given i (omega (arith, c.self.inside.free.ok, lt)) in omega (arith, given, c.self.inside.places.ok)

pub take_key-requires-clause-room : goal.take_key-requires-clause-room
take_key-requires-clause-room g c = λ none. let left = key_is_left c.self.inside.slab c.self.inside.limit c.self.inside.places.items _ c.self.inside.free.items _ c.self.inside.spare.items _ c.self.invariant (rw (← c.self.view_is) at c.requires) (omega (arith, c.self.inside.free.ok, none)) in omega (arith, left, c.self.invariant.fits, c.self.inside.places.ok)

pub invariant_of-self : goal.invariant_of-self
invariant_of-self g c =
    rw (c.put_in-place.ensures.spare_room, c.take_key.ensures.capacity, c.take_key.ensures.free_capacity)
    (IsShelf-insert c.self.inside.slab c.self.inside.limit c.self.inside.places.items _ c.self.inside.free.items _ c.self.inside.spare.items _ c.self.invariant c.put_in-place.new.slab c.put_in-place.new.spare.items c.put_in-place.result c.args.value c.take_key.new.places.items c.take_key.new.free.items c.take_key.result c.put_in-place.ensures.takes (room_left g c) c.take_key.ensures.takes c.put_in-place.ensures.capacity)

pub returns-clause-in_range : goal.returns-clause-in_range
returns-clause-in_range g c = rw (← c.self.view_is, length-map) (key_was_free c.self.inside.slab c.self.inside.limit c.self.inside.places.items _ c.self.inside.free.items _ c.self.inside.spare.items _ c.self.invariant c.put_in-place.new.slab c.put_in-place.new.spare.items c.put_in-place.result c.args.value c.take_key.new.places.items c.take_key.new.free.items c.take_key.result c.put_in-place.ensures.takes (room_left g c) c.take_key.ensures.takes).0

pub returns-clause-vacant : goal.returns-clause-vacant
returns-clause-vacant g c =
    let next = key_was_free c.self.inside.slab c.self.inside.limit c.self.inside.places.items _ c.self.inside.free.items _ c.self.inside.spare.items _ c.self.invariant c.put_in-place.new.slab c.put_in-place.new.spare.items c.put_in-place.result c.args.value c.take_key.new.places.items c.take_key.new.free.items c.take_key.result c.put_in-place.ensures.takes (room_left g c) c.take_key.ensures.takes in
    rw (← c.self.view_is) (get_or-map (found_at c.self.inside.slab) (all_places c.self.inside.limit c.self.inside.places.items) c.take_key.result None None next.0 ∙ ap (found_at c.self.inside.slab) next.1)

pub returns-clause-kept : goal.returns-clause-kept
returns-clause-kept g c = rw (← c.self.view_is) (objects-insert c.self.inside.slab c.self.inside.limit c.self.inside.places.items _ c.self.inside.free.items _ c.self.inside.spare.items _ c.self.invariant c.put_in-place.new.slab c.put_in-place.new.spare.items c.put_in-place.result c.args.value c.take_key.new.places.items c.take_key.new.free.items c.take_key.result c.put_in-place.ensures.takes (room_left g c) c.take_key.ensures.takes)

pub returns-clause-stored : goal.returns-clause-stored
returns-clause-stored g c = ap (λ objects. object objects c.take_key.result) (returns-clause-kept g c) ∙ object-put c.args.self.now c.take_key.result c.args.value (returns-clause-in_range g c)

pub returns-clause-counted : goal.returns-clause-counted
returns-clause-counted g c = ap count (returns-clause-kept g c) ∙ count-put_new c.args.self.now c.take_key.result c.args.value (returns-clause-in_range g c) (returns-clause-vacant g c)

pub returns-clause-len : goal.returns-clause-len
returns-clause-len g c = ap length (returns-clause-kept g c) ∙ length-put c.args.self.now c.take_key.result c.args.value

use Rattle.std.proofs.Common.{ap, ◌∙◌, length}
use Rattle.std.specs.Prelude.{None}
use Rattle.std.proofs.lemmas.List.{length-replicate}
use Rattle.kheap_slabs.proofs.ObjectLemmas.{count-none}
use Rattle.kheap_slabs.proofs.GivenKeys.{none_given}
use Rattle.kheap_slabs.proofs.ShelfLemmas.{shelved-boot, IsShelf-boot}
use Rattle.kheap_slabs.proofs.shelf.Shelf.boot.Goals as goal

pub invariant_of-result : goal.invariant_of-result
invariant_of-result g c =
    IsShelf-boot c.in_ok-slab.slab c.in_ok-places.places.items c.in_ok-free.free.items c.in_ok-spare.spare.items c.args.limit _ _ _ c.in_ok-slab.ensures.empty c.in_ok-slab.ensures.capacity c.in_ok-places.ensures.items c.in_ok-places.ensures.capacity c.in_ok-free.ensures.items c.in_ok-free.ensures.capacity c.in_ok-spare.ensures.items c.in_ok-spare.ensures.capacity

pub returns-clause-empty : goal.returns-clause-empty
returns-clause-empty g c = rw (none_given c.args.limit c.in_ok-places.places.items c.in_ok-places.ensures.items) (shelved-boot c.in_ok-slab.slab c.args.limit)

pub returns-clause-counted : goal.returns-clause-counted
returns-clause-counted g c = count-none _ c.args.limit (returns-clause-empty g c)

pub returns-clause-len : goal.returns-clause-len
returns-clause-len g c = ap length (returns-clause-empty g c) ∙ length-replicate c.args.limit None

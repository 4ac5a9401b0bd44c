use Rattle.std.proofs.Common.{◌≡◌, ◌∙◌, List, Option, ap}
use Rattle.kheap_slabs.specs.Objects.{object}
use Rattle.kheap_slabs.specs.Leaves.{row_at, row_of}
use Rattle.kheap_slabs.specs.declared.objects.Descriptor.{Descriptor}
use Rattle.path_calls.proofs.held.add_leaf.Goals as goal

pub add_row-requires-clause-named : goal.add_row-requires-clause-named
add_row-requires-clause-named c =
    let row : row_at c.args.heap.now.leaves c.args.leaf ≡ c.get_leaf.result.now.descriptors = ap (row_at c.args.heap.now.leaves) c.in-Some.is ∙ ap row_of c.get_leaf.ensures in
    λ fd held is. c.requires.named fd held (ap (λ (places : List (Option Descriptor)). object places fd) row ∙ is)

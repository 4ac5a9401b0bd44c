use Rattle.std.proofs.Common.{◌≡◌}
use Rattle.kheap_slabs.specs.Leaves.{numbers_by}
use Rattle.posix_defs.specs.Files.Descriptors.{lowest_free_from}
use Rattle.desc_table.specs.Numbered.{descriptors_in}
use Rattle.desc_table.proofs.descriptors.lowest_among.Given as goal

-- where the search stands, it finds what it finds from its beginning
abbrev pub invariant-loop-fd : goal.invariant-loop-fd
invariant-loop-fd l = lowest_free_from (descriptors_in (numbers_by l.heap.leaves l.places l.leaves)) l.fd ≡ lowest_free_from (descriptors_in (numbers_by l.heap.leaves l.places l.leaves)) l.from

use Rattle.std.proofs.Common.{◌≡◌, count_by, take}
use Rattle.kheap_slabs.specs.Spaces.{is_mapped}
use Rattle.page_space.proofs.spaces.has_mapped.Given as goal

abbrev pub invariant-loop-entry : goal.invariant-loop-entry
invariant-loop-entry l = count_by is_mapped (take l.entry-index l.node.entries) ≡ 0

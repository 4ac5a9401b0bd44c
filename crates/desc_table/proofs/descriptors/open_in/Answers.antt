use Rattle.std.proofs.Common.{IfSome, count_by, is_some, sym, ap, subst, ◌∙◌}
use Rattle.kheap_slabs.specs.Leaves.{row_at, row_of}
use Rattle.kheap_slabs.specs.Objects.{InUse}
use Rattle.desc_table.proofs.descriptors.open_in.Goals as goal

pub get_leaf-requires : goal.get_leaf-requires
get_leaf-requires c = subst (λ o. IfSome o (InUse c.args.heap.now.leaves)) c.in-Some.is c.requires

pub returns-in-Some-clause-count : goal.returns-in-Some-clause-count
returns-in-Some-clause-count c =
    c.open_among.ensures.count
    ∙ sym (ap (λ k. count_by is_some (row_at c.args.heap.now.leaves k)) c.in-Some.is ∙ ap (λ o. count_by is_some (row_of o)) c.get_leaf.ensures)

pub returns-in-None-clause-count : goal.returns-in-None-clause-count
returns-in-None-clause-count c = sym (ap (λ k. count_by is_some (row_at c.args.heap.now.leaves k)) c.in-None.is)

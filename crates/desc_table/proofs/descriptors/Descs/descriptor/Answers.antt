use Rattle.std.proofs.Common.{get_or, None, sym, ap, subst, ◌∙◌}
use Rattle.kheap_slabs.specs.Leaves.{OwnsLeaves}
use Rattle.desc_table.specs.Numbered.{InHand, numbers}
use Rattle.desc_table.proofs.LeafChanges.{below_most}
use Rattle.desc_table.proofs.NumberLemmas.{no_some, none_some}
use Rattle.desc_table.proofs.descriptors.Descs.descriptor.Goals as goal

pub at-requires-clause-owns : goal.at-requires-clause-owns
at-requires-clause-owns c = subst (λ (d : InHand). OwnsLeaves c.args.heap.now.leaves d.leaves) (sym c.self.view_is) c.requires.owns

pub at-requires-clause-number : goal.at-requires-clause-number
at-requires-clause-number c =
    below_most c.args.heap.now c.self.inside.places c.self.inside.leaves c.args.self.now c.self.view_is c.self.invariant.0 c.self.invariant.1 c.is_well_formed.ensures.leaf_rows c.args.fd c.requires.opened

pub unreachable-requires : goal.unreachable-requires
unreachable-requires c =
    none_some (get_or (numbers c.args.heap.now c.args.self.now) c.args.fd None)
    (ap (λ (d : InHand). get_or (numbers c.args.heap.now d) c.args.fd None) (sym c.self.view_is) ∙ (sym c.at.ensures ∙ no_some c.at.result c.in_default.not-Some)) c.requires.opened

pub returns : goal.returns
returns c = ap (λ (d : InHand). get_or (numbers c.args.heap.now d) c.args.fd None) (sym c.self.view_is) ∙ (sym c.at.ensures ∙ c.in-Some.is)

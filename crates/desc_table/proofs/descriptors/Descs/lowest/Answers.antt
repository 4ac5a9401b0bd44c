use Rattle.std.proofs.Common.{◌≡◌, sym, subst}
use Rattle.kheap_slabs.specs.Leaves.{OwnsLeaves}
use Rattle.posix_defs.specs.Files.Descriptors.{lowest_free_from}
use Rattle.desc_table.specs.Numbered.{InHand, descriptors_in, numbers}
use Rattle.desc_table.proofs.descriptors.Descs.lowest.Goals as goal

pub lowest_among-requires : goal.lowest_among-requires
lowest_among-requires c = subst (λ (d : InHand). OwnsLeaves c.args.heap.now.leaves d.leaves) (sym c.self.view_is) c.requires.owns

pub returns : goal.returns
returns c =
    subst (λ (d : InHand). c.lowest_among.result ≡ lowest_free_from (descriptors_in (numbers c.args.heap.now d)) c.args.from) c.self.view_is c.lowest_among.ensures

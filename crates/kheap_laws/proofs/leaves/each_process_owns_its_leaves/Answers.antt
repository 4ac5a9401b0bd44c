use Rattle.kheap_laws.proofs.LeafOwners.{HoldLeaves-owns, LeavesChange-hold, LeavesChange-others}
use Rattle.kheap_laws.proofs.leaves.each_process_owns_its_leaves.Goals as goal

pub returns : goal.returns
returns c = record { owns = HoldLeaves-owns; others = LeavesChange-others; hold = LeavesChange-hold }

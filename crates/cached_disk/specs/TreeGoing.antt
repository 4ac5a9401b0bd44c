-- What is lent to look at directories goes on from call to call.
use Rattle.std.specs.Prelude.{◌≡◌, ℕ, refl}
use Rattle.std.proofs.Common.{ap, ◌∙◌, le_refl, le_trans}
use Rattle.kheap_slabs.specs.Purse.{Purse}
use Rattle.kheap_slabs.specs.Heap.{Heap}
use Rattle.kheap_laws.proofs.PaidLemmas.{IsPaid-refl, IsPaid-trans}
use Rattle.cached_disk.specs.TreeLent.{TreeParts, TreeGoesOn, with_cached}

pub TreeGoesOn-refl : (a : TreeParts) → TreeGoesOn a a
TreeGoesOn-refl a = record {
  heap = refl;
  purse = refl;
  paid = IsPaid-refl a.heap a.purse;
  capacities = (refl, refl, refl);
  bytes = refl;
  reads = le_refl _;
  pins = λ pins has. has;
}

pub TreeGoesOn-trans : (a b c : TreeParts) → TreeGoesOn a b → TreeGoesOn b c → TreeGoesOn a c
TreeGoesOn-trans a b c first second = record {
  heap = second.heap ∙ ap (λ (h : Heap). record h { vnodes = c.heap.vnodes; names = c.heap.names; blocks = c.heap.blocks; high = c.heap.high }) first.heap;
  purse = second.purse ∙ ap (λ (p : Purse). with_cached p c.purse) first.purse;
  paid = IsPaid-trans a.heap a.purse b.heap b.purse c.heap c.purse first.paid second.paid;
  capacities = (second.capacities.0 ∙ first.capacities.0, second.capacities.1 ∙ first.capacities.1, second.capacities.2 ∙ first.capacities.2);
  bytes = second.bytes ∙ first.bytes;
  reads = le_trans first.reads second.reads;
  pins = λ pins has. second.pins pins (first.pins pins has);
}

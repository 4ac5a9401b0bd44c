-- What is lent goes on from call to call.
use Rattle.std.specs.Prelude.{◌≡◌, ℕ, List, Option, refl}
use Rattle.std.proofs.Common.{sym, ap, ◌∙◌, le_refl, le_trans}
use Rattle.kheap_slabs.specs.Purse.{Purse}
use Rattle.kheap_slabs.specs.declared.objects.Block.{Block}
use Rattle.kheap_slabs.specs.Heap.{Heap}
use Rattle.kheap_laws.proofs.PaidLemmas.{IsPaid-refl, IsPaid-trans}
use Rattle.block_cache.specs.Blocks.{with_blocks}
use Rattle.cached_disk.specs.Lent.{Parts, GoesOn}

-- a heap that is the same but for these Blocks, and for the most that was taken, is so for its own
pub only_blocks : (old new : Heap) (blocks : List (Option Block)) (high : ℕ) → new ≡ record old { blocks = blocks; high = high } → new ≡ record old { blocks = new.blocks; high = new.high }
only_blocks old new blocks high is = is ∙ ap (λ (h : Heap). record old { blocks = h.blocks; high = h.high }) (sym is)

-- a purse that is the same but for these counts and fills of Blocks is so for its own
pub only_fills : (before after : Purse) (left : ℕ) (fills : List ℕ) → after ≡ with_blocks before left fills → after ≡ with_blocks before after.left.block after.blocks
only_fills before after left fills is = is ∙ ap (λ (p : Purse). with_blocks before p.left.block p.blocks) (sym is)

pub GoesOn-refl : (a : Parts) → GoesOn a a
GoesOn-refl a = record {
  heap = refl;
  purse = refl;
  filled = refl;
  paid = IsPaid-refl a.heap a.purse;
  capacity = refl;
  reads = le_refl _;
}

pub GoesOn-trans : (a b c : Parts) → GoesOn a b → GoesOn b c → GoesOn a c
GoesOn-trans a b c first second = record {
  heap = second.heap ∙ ap (λ (h : Heap). record h { blocks = c.heap.blocks; high = c.heap.high }) first.heap;
  purse = second.purse ∙ ap (λ (p : Purse). with_blocks p c.purse.left.block c.purse.blocks) first.purse;
  filled = second.filled ∙ first.filled;
  paid = IsPaid-trans a.heap a.purse b.heap b.purse c.heap c.purse first.paid second.paid;
  capacity = second.capacity ∙ first.capacity;
  reads = le_trans first.reads second.reads;
}

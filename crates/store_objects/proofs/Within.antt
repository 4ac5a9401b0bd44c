-- What the caches have more is within a call's need where it was paid for.
use Rattle.std.proofs.Common.{◌≡◌, ℕ, ◌+◌, ◌≤◌, ap, arith}
use Rattle.desc_table.specs.Copying.{spends_leaves}
use Rattle.kabi_types.specs.declared.calls.Call.{Call}
use Rattle.kabi_types.specs.declared.classes.Class.TheVariants as class
use Rattle.kheap_slabs.specs.Heap.{Heap}
use Rattle.kheap_slabs.specs.Objects.{count}
use Rattle.kheap_slabs.specs.Purse.{Purse}
use Rattle.kheap_slabs.specs.Paid.{IsPaid, TakesNothing}
use Rattle.posix_defs.specs.Needs.{need_of}
use Rattle.store_objects.specs.declared.objects.Objects.{Objects}
use Rattle.store_objects.specs.FileMoves.{CachesWithin}

-- what was paid is within what the purse had
few : (new left old had need : ℕ) → new + left ≤ old + had → had ≡ need → new ≤ old + need
few new left old had need paid same = omega arith

-- a purse that is as it was has paid for nothing
none : (new old left before need : ℕ) → new + left ≤ old + before → left ≡ before → new ≤ old + need
none new old left before need paid same = omega arith

more : (new old need : ℕ) → new ≤ old → new ≤ old + need
more new old need within = omega arith

-- by a purse that had the call's need of names, blocks and inodes
pub within_paid : (old new : Objects) (before after : Purse) (which : Call) → IsPaid old.heap before new.heap after → before.left.name ≡ (need_of which).name
    → before.left.block ≡ (need_of which).block → before.left.vnode ≡ (need_of which).vnode → old.tree.disk.reads ≤ new.tree.disk.reads → CachesWithin old new which
within_paid old new before after which paid name block vnode reads = record {
  names = few (count new.heap.names) after.left.name (count old.heap.names) before.left.name (need_of which).name (paid.counts class.Name) name;
  blocks = few (count new.heap.blocks) after.left.block (count old.heap.blocks) before.left.block (need_of which).block (paid.counts class.Block) block;
  vnodes = few (count new.heap.vnodes) after.left.vnode (count old.heap.vnodes) before.left.vnode (need_of which).vnode (paid.counts class.Vnode) vnode;
  reads = reads;
}

-- by one that is as it was in the end
pub within_same : (old new : Objects) (before after : Purse) (which : Call) → IsPaid old.heap before new.heap after → after ≡ before
    → old.tree.disk.reads ≤ new.tree.disk.reads → CachesWithin old new which
within_same old new before after which paid same reads = record {
  names = none (count new.heap.names) (count old.heap.names) after.left.name before.left.name (need_of which).name (paid.counts class.Name) (ap (λ (p : Purse). p.left.name) same);
  blocks = none (count new.heap.blocks) (count old.heap.blocks) after.left.block before.left.block (need_of which).block (paid.counts class.Block) (ap (λ (p : Purse). p.left.block) same);
  vnodes = none (count new.heap.vnodes) (count old.heap.vnodes) after.left.vnode before.left.vnode (need_of which).vnode (paid.counts class.Vnode) (ap (λ (p : Purse). p.left.vnode) same);
  reads = reads;
}

-- by what is kept back, and then by one of which Leaves alone are spent
pub within_turns : (old new : Objects) (mid : Heap) (back before after : Purse) (which : Call) → IsPaid old.heap back mid back → IsPaid mid before new.heap after
    → after ≡ spends_leaves before after → old.tree.disk.reads ≤ new.tree.disk.reads → CachesWithin old new which
within_turns old new mid back before after which closes opens spent reads = record {
  names = twice (count old.heap.names) (count mid.names) (count new.heap.names) back.left.name before.left.name after.left.name (need_of which).name
      (closes.counts class.Name) (opens.counts class.Name) (ap (λ (p : Purse). p.left.name) spent);
  blocks = twice (count old.heap.blocks) (count mid.blocks) (count new.heap.blocks) back.left.block before.left.block after.left.block (need_of which).block
      (closes.counts class.Block) (opens.counts class.Block) (ap (λ (p : Purse). p.left.block) spent);
  vnodes = twice (count old.heap.vnodes) (count mid.vnodes) (count new.heap.vnodes) back.left.vnode before.left.vnode after.left.vnode (need_of which).vnode
      (closes.counts class.Vnode) (opens.counts class.Vnode) (ap (λ (p : Purse). p.left.vnode) spent);
  reads = reads;
}
  where
    twice : (old mid new back before after need : ℕ) → mid + back ≤ old + back → new + after ≤ mid + before → after ≡ before → new ≤ old + need
    twice old mid new back before after need closes opens same = omega arith

-- and by none, where nothing is taken
pub within_nothing : (old new : Objects) (which : Call) → TakesNothing old.heap new.heap → old.tree.disk.reads ≤ new.tree.disk.reads → CachesWithin old new which
within_nothing old new which takes reads = record {
  names = more (count new.heap.names) (count old.heap.names) (need_of which).name (takes.counts class.Name);
  blocks = more (count new.heap.blocks) (count old.heap.blocks) (need_of which).block (takes.counts class.Block);
  vnodes = more (count new.heap.vnodes) (count old.heap.vnodes) (need_of which).vnode (takes.counts class.Vnode);
  reads = reads;
}

-- A purse of which nothing is spent.
use Rattle.std.proofs.Common.{◌≡◌, ◌+◌, ◌<◌, ◌≤◌, [], sym, subst, arith}
use Rattle.kabi_types.specs.declared.classes.Need.{Need}
use Rattle.kabi_types.specs.Counts.{need_bytes}
use Rattle.kheap_slabs.specs.Purse.{Purse}
use Rattle.kheap_slabs.specs.Heap.{Heap, live_bytes}
use Rattle.kheap_laws.proofs.FillLemmas.{AreFills-none}
use Rattle.memfs_ops.specs.FileTree.{MayWalk}

pub may_walk : (heap : Heap) (purse : Purse) (need : Need) → purse ≡ record { need = need; left = need; vnodes = []; names = []; blocks = [] } → live_bytes heap + need_bytes need ≤ heap.heap
    → (0 < need.name) × (0 < need.vnode) × (0 < need.block) → (need.name ≤ 4) × (need.vnode ≤ 4) × (need.block ≤ 4) → MayWalk heap purse
may_walk heap purse need is room some few = subst (λ (p : Purse). MayWalk heap p) (sym is) (record {
  pays = room;
  fills = record { vnodes = AreFills-none heap.vnodes need.vnode; names = AreFills-none heap.names need.name; blocks = AreFills-none heap.blocks need.block };
  loose = λ slot there. absurd (omega (arith, there.1));
  few = few;
  some = (omega (arith, some.0), omega (arith, some.1), omega (arith, some.2));
})

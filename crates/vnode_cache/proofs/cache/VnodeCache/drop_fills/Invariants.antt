use Rattle.std.proofs.Common.{nat_eq, ◌≡◌, ◌+◌, ◌-◌, ℕ, length}
use Rattle.kheap_slabs.specs.Paid.{IsPaid}
use Rattle.cache_laws.specs.Caches.{objects_without, pairs_without}
use Rattle.vnode_cache.specs.Nodes.{nodes, KeepsNodes, AreLoose, StaysHeld}
use Rattle.vnode_cache.specs.Calls.{HasNodeFills, with_vnodes}
use Rattle.vnode_cache.proofs.cache.VnodeCache.drop_fills.Given as goal

abbrev pub invariant-loop-self : goal.invariant-loop-self
invariant-loop-self l = record {
  keeps : KeepsNodes l.heap.vnodes l.self;
  fills : HasNodeFills l.heap l.purse;
  unpinned : AreLoose l.heap.vnodes l.purse.vnodes;
  held : (other : ℕ) → StaysHeld other l.fn.heap.vnodes l.heap.vnodes;
  paid : IsPaid l.fn.heap l.fn.purse l.heap l.purse;
  heap : l.heap ≡ record l.fn.heap { vnodes = l.heap.vnodes };
  purse : l.purse ≡ with_vnodes l.fn.purse l.purse.left.vnode l.purse.vnodes;
  cache : l.self ≡ nodes l.self.order.pairs l.fn.self.order.capacity l.self.loose;
  left : l.purse.left.vnode + length l.purse.vnodes ≡ l.fn.purse.left.vnode + length l.fn.purse.vnodes;
  loose : l.self.loose - length l.purse.vnodes ≡ l.fn.self.loose - length l.fn.purse.vnodes;
  objects : objects_without l.purse.vnodes l.heap.vnodes ≡ objects_without l.fn.purse.vnodes l.fn.heap.vnodes;
  pairs : pairs_without nat_eq (λ v. v.number) l.purse.vnodes l.heap.vnodes l.self.order.pairs ≡ pairs_without nat_eq (λ v. v.number) l.fn.purse.vnodes l.fn.heap.vnodes l.fn.self.order.pairs;
}

abbrev pub decreases-loop-self : goal.decreases-loop-self
decreases-loop-self l = length l.purse.vnodes

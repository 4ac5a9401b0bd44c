use Rattle.std.proofs.Common.{◌≡◌, ◌+◌, length}
use Rattle.kheap_slabs.specs.Paid.{IsPaid}
use Rattle.lru_index.specs.Order.{order}
use Rattle.cache_laws.specs.Caches.{objects_without, pairs_without}
use Rattle.name_cache.specs.Names.{same_key, key_of, KeepsNames, HasNameFills, with_names}
use Rattle.name_cache.proofs.cache.NameCache.drop_fills.Given as goal

abbrev pub invariant-loop-self : goal.invariant-loop-self
invariant-loop-self l = record {
  keeps : KeepsNames l.heap.names l.self;
  fills : HasNameFills l.heap l.purse;
  paid : IsPaid l.fn.heap l.fn.purse l.heap l.purse;
  heap : l.heap ≡ record l.fn.heap { names = l.heap.names };
  purse : l.purse ≡ with_names l.fn.purse l.purse.left.name l.purse.names;
  cache : l.self ≡ order l.self.pairs l.fn.self.capacity;
  left : l.purse.left.name + length l.purse.names ≡ l.fn.purse.left.name + length l.fn.purse.names;
  objects : objects_without l.purse.names l.heap.names ≡ objects_without l.fn.purse.names l.fn.heap.names;
  pairs : pairs_without same_key key_of l.purse.names l.heap.names l.self.pairs ≡ pairs_without same_key key_of l.fn.purse.names l.fn.heap.names l.fn.self.pairs;
}

abbrev pub decreases-loop-self : goal.decreases-loop-self
decreases-loop-self l = length l.purse.names

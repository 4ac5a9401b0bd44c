use Rattle.std.proofs.Common.{◌≡◌, ℕ, suc, List, ◌++◌, length, IsSome, nat_eq}
use Rattle.std.specs.Prelude.{IfSome}
use Rattle.std.specs.Option.{option_map_or}
use Rattle.lru_index.specs.Order.{first_key, warmer}
use Rattle.vnode_cache.specs.Nodes.{AreHeld, node_slot}
use Rattle.vnode_cache.proofs.cache.VnodeCache.coldest_loose.Given as goal

abbrev pub invariant-loop-next : goal.invariant-loop-next
invariant-loop-next l = record {
  parts : (front : List (ℕ × ℕ)) × (rest : List (ℕ × ℕ)) × (l.self.order.pairs ≡ front ++ rest) × AreHeld l.heap.vnodes l.self.order front × (l.next ≡ first_key rest);
  there : IfSome l.next (λ number. IsSome (node_slot l.self number));
}

abbrev pub decreases-loop-next : goal.decreases-loop-next
decreases-loop-next l = option_map_or (λ number. suc (length (warmer (nat_eq number) l.self.order.pairs))) l.next 0

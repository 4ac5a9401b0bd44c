use Rattle.std.proofs.Common.{◌≡◌, ℕ, ◌+◌, ◌-◌, ◌<◌, ◌≤◌, ◌⊎◌, get_or}
use Rattle.blk_map.specs.Named.{IsInHand, pointer_to}
use Rattle.blk_map.proofs.naming.forget_all.Given as goal

abbrev pub invariant-loop-index : goal.invariant-loop-index
invariant-loop-index l = record {
  many : l.dropped.count ≡ l.initial.dropped.count + (l.index - l.from);
  kept : (k : ℕ) → k < l.initial.dropped.count → get_or l.dropped.blocks k 0 ≡ get_or l.initial.dropped.blocks k 0;
  each : (k : ℕ) → k < l.index - l.from → get_or l.dropped.blocks (l.initial.dropped.count + k) 0 ≡ pointer_to l.initial.direct l.initial.behind (l.from + k);
  these : (index : ℕ) → l.from ≤ index → index < l.index → pointer_to l.direct l.behind index ≡ 0;
  others : (index : ℕ) → IsInHand l.run index → (index < l.from) ⊎ (l.index ≤ index) → pointer_to l.direct l.behind index ≡ pointer_to l.initial.direct l.initial.behind index;
}

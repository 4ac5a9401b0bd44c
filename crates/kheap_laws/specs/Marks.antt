-- The most bytes that were taken since a mark, over the calls that followed it.
use Rattle.std.specs.Prelude.{◌≡◌, ◌⊎◌, ℕ, ◌≤◌, List, [], ◌∷◌, max}
use Rattle.kheap_slabs.specs.Heap.{Heap, live_bytes}

-- a call other than mark: high rises to live, or live doesn't rise and high stays
abbrev pub IsStep : Heap → Heap → Type 0
IsStep old new = (new.high ≡ max old.high (live_bytes new)) ⊎ ((live_bytes new ≤ live_bytes old) × (new.high ≡ old.high))

-- each of these heaps comes from the one before by such a call
abbrev pub AreSteps : Heap → List Heap → Type 0
AreSteps first [] = Unit {0}
AreSteps first (next ∷ rest) = IsStep first next × AreSteps next rest

-- the last of them
abbrev pub last_heap : Heap → List Heap → Heap
last_heap first [] = first
last_heap first (next ∷ rest) = last_heap next rest

-- the greatest live of all of them
abbrev pub greatest_live : Heap → List Heap → ℕ
greatest_live first [] = live_bytes first
greatest_live first (next ∷ rest) = max (live_bytes first) (greatest_live next rest)

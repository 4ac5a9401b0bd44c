-- high is the greatest live since the mark.
use Rattle.std.proofs.Common.{◌≡◌, ◌≤◌, List, [], ◌∷◌, max, inl, inr, arith}
use Rattle.kheap_slabs.specs.Heap.{Heap, live_bytes}
use Rattle.kheap_laws.specs.Marks.{IsStep, AreSteps, last_heap, greatest_live}

-- a step takes high to the greater of itself and the new live, where it was no less than the old live
step_high : (old new : Heap) → live_bytes old ≤ old.high → IsStep old new → new.high ≡ max old.high (live_bytes new)
step_high old new above (inl rises) = rises
step_high old new above (inr falls) = omega (arith, falls.0, falls.1)

above_first : (first : Heap) (rest : List Heap) → live_bytes first ≤ greatest_live first rest
above_first first [] = omega arith
above_first first (next ∷ rest) = omega arith

high_from : (first : Heap) (rest : List Heap) → live_bytes first ≤ first.high → AreSteps first rest → (last_heap first rest).high ≡ max first.high (greatest_live first rest)
high_from first [] above steps = omega arith
high_from first (next ∷ rest) above steps =
    let here = step_high first next above steps.0 in
    omega (arith, here, above_first next rest, high_from next rest (omega (arith, here)) steps.1)

pub high_since_mark : (marked : Heap) (rest : List Heap) → marked.high ≡ live_bytes marked → AreSteps marked rest → (last_heap marked rest).high ≡ greatest_live marked rest
high_since_mark marked rest at steps = omega (arith, high_from marked rest (omega (arith, at)) steps, above_first marked rest)

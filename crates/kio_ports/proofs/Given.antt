-- What a source moves to the front of a buffer.
use Rattle.std.proofs.Common.{◌≡◌, ◌≤◌, ℕ, ◌+◌, ◌-◌, List, ◌++◌, length, take, drop, arith, sym, ◌∙◌, ap}
use Rattle.std.proofs.lemmas.Grind.{common_steps}
use Rattle.std.proofs.lemmas.List.{take-append-drop, drop-drop, length-drop, length-take}
use Rattle.std.proofs.Math.Seq.{take-append_seam, take-length}

-- the first k bytes that are left, at the front of a buffer, and those behind them are all that is left
given-rest : (left front tail : List ℕ) (k : ℕ) → front ≡ take k left → length front ≡ k
    → take k (front ++ tail) ++ drop k left ≡ left
given-rest left front tail k e n =
    let seam : take k (front ++ tail) ≡ front = rw (← n) (take-append_seam front tail) in
    rw (seam, e) (take-append-drop k left)

-- the same where what is left are the bytes from a place on, as a source in memory keeps them
pub left_is_given-rest : (all front tail : List ℕ) (at k : ℕ) → front ≡ take k (take (length all - at) (drop at all))
    → k ≤ length all - at → drop at all ≡ take k (front ++ tail) ++ drop (at + k) all
left_is_given-rest all front tail at k e n =
    let whole : take (length all - at) (drop at all) ≡ drop at all = rw (← (length-drop at all)) (take-length (drop at all)) in
    let first : front ≡ take k (drop at all) = e ∙ ap (take k) whole in
    let len : length front ≡ k = grind (arith, common_steps, length-take k (drop at all), length-drop at all) in
    let rest : drop k (drop at all) ≡ drop (at + k) all = drop-drop k at all in
    rw (← rest) (sym (given-rest (drop at all) front tail k first len))

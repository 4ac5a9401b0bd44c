-- What is read of a file after a write, or after its size changed.
use Rattle.std.proofs.Common.{◌≡◌, ℕ, ◌+◌, ◌-◌, ◌<◌, ◌≤◌, max, inl, inr, List, ◌++◌, length, get_or, take, drop, replicate, refl, sym, ap, ◌∙◌, arith, length-append, length-take, append_assoc}
use Rattle.std.proofs.lemmas.Bool.{cases_lt}
use Rattle.std.proofs.lemmas.List.{get_or_append_left, get_or-append_right, get_or-take, get_or-drop, get_or-replicate, get_or_past, length-replicate, take_at, drop_at}
use Rattle.posix_defs.specs.FileBytes.{resized, overwritten}
use Rattle.tree_laws.proofs.FileRoom.{length-resized, length-overwritten}

zero_of : (n k : ℕ) → ◌≡◌ {A = ℕ} (get_or (replicate n 0) k 0) 0
zero_of n k = elim (cases_lt k n) [
  | inl lt ↦ get_or-replicate n k 0 0 lt
  | inr past ↦ get_or_past (replicate n 0) k 0 (omega (arith, past, length-replicate {A = ℕ} n 0))
]

-- within its size a file has its bytes, and zeros behind them
pub resized_at : (size : ℕ) (bytes : List ℕ) (k : ℕ) → k < size → get_or (resized size bytes) k 0 ≡ get_or bytes k 0
resized_at size bytes k lt =
    let front : List ℕ = take size bytes in
    let zeros : List ℕ = replicate (size - length bytes) 0 in
    elim (cases_lt k (length front)) [
      | inl within ↦ get_or_append_left front zeros 0 k within ∙ get_or-take size bytes k 0 lt
      | inr past ↦
          let short : length bytes ≤ k = omega (arith, past, length-take size bytes, lt) in
          get_or-append_right front zeros (length front) k 0 refl past ∙ zero_of (size - length bytes) (k - length front) ∙ sym (get_or_past bytes k 0 short)
    ]

-- what was written is read
pub written_back : (at : ℕ) (new old : List ℕ) → take (length new) (drop at (overwritten at new old)) ≡ new
written_back at new old =
    let rest : List ℕ = drop (at + length new) old in
    ap (λ (xs : List ℕ). take (length new) (drop at xs)) (append_assoc (resized at old) new rest) ∙ ap (take (length new)) (drop_at (resized at old) (new ++ rest) at (length-resized at old)) ∙ take_at new rest (length new) refl

-- before it and behind it all is as it was; a gap was nothing, and is zeros
pub written_before : (at : ℕ) (new old : List ℕ) (k : ℕ) → k < at → get_or (overwritten at new old) k 0 ≡ get_or old k 0
written_before at new old k lt =
    let front : List ℕ = resized at old in
    get_or_append_left (front ++ new) (drop (at + length new) old) 0 k (omega (arith, length-append front new, length-resized at old, lt))
    ∙ get_or_append_left front new 0 k (omega (arith, length-resized at old, lt)) ∙ resized_at at old k lt

pub written_behind : (at : ℕ) (new old : List ℕ) (k : ℕ) → at + length new ≤ k → get_or (overwritten at new old) k 0 ≡ get_or old k 0
written_behind at new old k le =
    let front : List ℕ = resized at old ++ new in
    let len : length front ≡ at + length new = omega (arith, length-append (resized at old) new, length-resized at old) in
    let place : at + length new + (k - (at + length new)) ≡ k = omega arith in
    get_or-append_right front (drop (at + length new) old) (at + length new) k 0 len le ∙ get_or-drop (at + length new) old (k - (at + length new)) 0 ∙ ap (λ (n : ℕ). get_or old n 0) place

pub written_len : (at : ℕ) (new old : List ℕ) → length (overwritten at new old) ≡ max (at + length new) (length old)
written_len at new old = omega (arith, length-overwritten at new old)

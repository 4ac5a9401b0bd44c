-- What a block and a range of bytes have in common, one byte at a time.
use Rattle.std.proofs.Common.{◌≡◌, ◌≢◌, ℕ, ◌+◌, ◌-◌, ◌*◌, ◌/◌, ◌%◌, ◌<◌, ◌≤◌, ◌⊎◌, inl, inr, List, ◌++◌, length, get_or, take, drop, ap, ◌∙◌, arith, length-take, length-drop}
use Rattle.std.proofs.lemmas.Bool.{cases_lt}
use Rattle.std.proofs.lemmas.List.{get_or_append_left, get_or-append_right, get_or-take, get_or-drop}
use borrow.Rule.Slice.PartMut.{put_mid}
use Rattle.memfs_file.specs.Ranges.{shared}

-- ---- a list with a part of it written anew

put_at : (from count : ℕ) (part xs : List ℕ) (k : ℕ) → from ≤ length xs → from ≤ k → k < from + length part → get_or (put_mid from count xs part) k 0 ≡ get_or part (k - from) 0
put_at from count part xs k within le lt =
    let rest : List ℕ = drop count (drop from xs) in
    let front : length (take from xs) ≡ from = omega (arith, length-take from xs, within) in
    get_or-append_right (take from xs) (part ++ rest) from k 0 front le ∙ get_or_append_left part rest 0 (k - from) (omega (arith, le, lt))

put_off : (from count : ℕ) (part xs : List ℕ) (k : ℕ) → length part ≡ count → from ≤ length xs → (k < from) ⊎ (from + count ≤ k) → get_or (put_mid from count xs part) k 0 ≡ get_or xs k 0
put_off from count part xs k len within (inl lt) =
    let rest : List ℕ = drop count (drop from xs) in
    let front : length (take from xs) ≡ from = omega (arith, length-take from xs, within) in
    get_or_append_left (take from xs) (part ++ rest) 0 k (omega (arith, front, lt)) ∙ get_or-take from xs k 0 lt
put_off from count part xs k len within (inr le) =
    let rest : List ℕ = drop count (drop from xs) in
    let front : length (take from xs) ≡ from = omega (arith, length-take from xs, within) in
    let place : from + (count + (k - from - count)) ≡ k = omega (arith, le) in
    get_or-append_right (take from xs) (part ++ rest) from k 0 front (omega (arith, le)) ∙ get_or-append_right part rest count (k - from) 0 len (omega (arith, le))
    ∙ get_or-drop count (drop from xs) (k - from - count) 0 ∙ get_or-drop from xs (count + (k - from - count)) 0 ∙ ap (λ (n : ℕ). get_or xs n 0) place

-- ---- a block and a range

-- where the part begins in the range and in the block, and how long it is
pub record Part (index at len from start count : ℕ) : Type 0 where
  pub from_is : from ≡ 1024 * index - at
  pub start_is : start ≡ at - 1024 * index
  pub count_is : count ≡ shared index at len
  pub before : 1024 * index < at + len
  pub behind : at < 1024 * (index + 1)

pub in_here : {index at len from start count : ℕ} → Part index at len from start count → (block bytes part : List ℕ) → length block ≡ 1024 → length bytes ≡ len → part ≡ take (from + count - from) (drop from bytes)
    → (place : ℕ) → at ≤ place → place < at + len → place / 1024 ≡ index → get_or (put_mid start (start + count - start) block part) (place % 1024) 0 ≡ get_or bytes (place - at) 0
in_here {index} {at} {len} {from} {start} {count} p block bytes part full len_is part_is place le lt here =
    let long : length part ≡ count = ap length part_is ∙ (let n : length (take (from + count - from) (drop from bytes)) ≡ count = omega (arith, length-take (from + count - from) (drop from bytes), length-drop from bytes, len_is, p.from_is, p.start_is, p.count_is, p.before, p.behind) in n) in
    let low : start ≤ place % 1024 = omega (arith, le, here, p.start_is) in
    let high : place % 1024 < start + count = omega (arith, le, lt, here, p.from_is, p.start_is, p.count_is, p.before, p.behind) in
    let at_is : from + (place % 1024 - start) ≡ place - at = omega (arith, le, here, p.from_is, p.start_is) in
    put_at start (start + count - start) part block (place % 1024) (omega (arith, full, p.start_is, p.behind)) low (omega (arith, high, long))
    ∙ ap (λ (xs : List ℕ). get_or xs (place % 1024 - start) 0) part_is ∙ get_or-take (from + count - from) (drop from bytes) (place % 1024 - start) 0 (omega (arith, low, high))
    ∙ get_or-drop from bytes (place % 1024 - start) 0 ∙ ap (λ (n : ℕ). get_or bytes n 0) at_is

pub in_rest : {index at len from start count : ℕ} → Part index at len from start count → (block bytes part : List ℕ) → length block ≡ 1024 → length bytes ≡ len → part ≡ take (from + count - from) (drop from bytes)
    → (place : ℕ) → place / 1024 ≡ index → (place < at) ⊎ (at + len ≤ place) → get_or (put_mid start (start + count - start) block part) (place % 1024) 0 ≡ get_or block (place % 1024) 0
in_rest {index} {at} {len} {from} {start} {count} p block bytes part full len_is part_is place here off =
    let long : length part ≡ start + count - start = ap length part_is ∙ (let n : length (take (from + count - from) (drop from bytes)) ≡ start + count - start = omega (arith, length-take (from + count - from) (drop from bytes), length-drop from bytes, len_is, p.from_is, p.start_is, p.count_is, p.before, p.behind) in n) in
    let outside : (place % 1024 < start) ⊎ (start + (start + count - start) ≤ place % 1024) = elim off [
      | inl lt ↦ inl (omega (arith, lt, here, p.start_is))
      | inr le ↦ inr (omega (arith, le, here, p.from_is, p.start_is, p.count_is, p.before, p.behind))
    ] in
    put_off start (start + count - start) part block (place % 1024) long (omega (arith, full, p.start_is, p.behind)) outside

pub out_here : {index at len from start count : ℕ} → Part index at len from start count → (block out part : List ℕ) → length block ≡ 1024 → length out ≡ len → part ≡ take (start + count - start) (drop start block)
    → (k : ℕ) → k < len → (at + k) / 1024 ≡ index → get_or (put_mid from (from + count - from) out part) k 0 ≡ get_or block ((at + k) % 1024) 0
out_here {index} {at} {len} {from} {start} {count} p block out part full len_is part_is k lt here =
    let long : length part ≡ count = ap length part_is ∙ (let n : length (take (start + count - start) (drop start block)) ≡ count = omega (arith, length-take (start + count - start) (drop start block), length-drop start block, full, p.from_is, p.start_is, p.count_is, p.before, p.behind) in n) in
    let low : from ≤ k = omega (arith, here, p.from_is) in
    let high : k < from + count = omega (arith, lt, here, p.from_is, p.start_is, p.count_is, p.before, p.behind) in
    let at_is : start + (k - from) ≡ (at + k) % 1024 = omega (arith, here, p.from_is, p.start_is) in
    put_at from (from + count - from) part out k (omega (arith, len_is, p.from_is, p.before)) low (omega (arith, high, long))
    ∙ ap (λ (xs : List ℕ). get_or xs (k - from) 0) part_is ∙ get_or-take (start + count - start) (drop start block) (k - from) 0 (omega (arith, low, high))
    ∙ get_or-drop start block (k - from) 0 ∙ ap (λ (n : ℕ). get_or block n 0) at_is

pub out_rest : {index at len from start count : ℕ} → Part index at len from start count → (block out part : List ℕ) → length block ≡ 1024 → length out ≡ len → part ≡ take (start + count - start) (drop start block)
    → (k : ℕ) → (at + k) / 1024 ≢ index → get_or (put_mid from (from + count - from) out part) k 0 ≡ get_or out k 0
out_rest {index} {at} {len} {from} {start} {count} p block out part full len_is part_is k other =
    let long : length part ≡ from + count - from = ap length part_is ∙ (let n : length (take (start + count - start) (drop start block)) ≡ from + count - from = omega (arith, length-take (start + count - start) (drop start block), length-drop start block, full, p.from_is, p.start_is, p.count_is, p.before, p.behind) in n) in
    let outside : (k < from) ⊎ (from + (from + count - from) ≤ k) = elim (cases_lt k from) [
      | inl lt ↦ inl lt
      | inr le ↦ inr (omega (arith, le, other, p.from_is, p.start_is, p.count_is, p.before, p.behind))
    ] in
    put_off from (from + count - from) part out k long (omega (arith, len_is, p.from_is, p.before)) outside

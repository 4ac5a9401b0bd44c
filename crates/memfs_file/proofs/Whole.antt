-- A block of which a range has all bytes.
use Rattle.std.proofs.Common.{◌≡◌, ℕ, ◌+◌, ◌-◌, ◌*◌, ◌/◌, ◌%◌, ◌<◌, ◌≤◌, List, [], Option, None, Some, length, get_or, take, drop, set, ap, ◌∙◌, arith, length-drop}
use Rattle.std.specs.Prelude.{MatchOption}
use Rattle.std.proofs.lemmas.List.{get_or-take, get_or-drop, get_or-set_same}
use Rattle.posix_defs.specs.SoundDisk.{block_bytes}

-- what is found has another fact, and where nothing is found another cause
pub if_first : {X : Type 0} (result : Option X) (Short Less : Type 0) (IsFirst Fact : X → Type 0) → MatchOption result Short IsFirst → (Short → Less) → ((x : X) → IsFirst x → Fact x) → MatchOption result Less Fact
if_first None Short Less IsFirst Fact is lacks gives = lacks is
if_first (Some x) Short Less IsFirst Fact is lacks gives = gives x is

-- the first bytes of what stands behind the bytes before the block are the block's
pub whole : (index at : ℕ) (bytes chunk : List ℕ) → at ≤ 1024 * index → 1024 ≤ length (drop (1024 * index - at) bytes) → chunk ≡ take 1024 (drop (1024 * index - at) bytes)
    → (at ≤ 1024 * index) × (1024 * (index + 1) ≤ at + length bytes) × ((k : ℕ) → k < 1024 → get_or chunk k 0 ≡ get_or bytes (1024 * index + k - at) 0)
whole index at bytes chunk low enough same =
    let long : length (drop (1024 * index - at) bytes) ≡ length bytes - (1024 * index - at) = length-drop (1024 * index - at) bytes in (
      low,
      omega (arith, low, enough, long),
      λ k lt.
          let place : 1024 * index - at + k ≡ 1024 * index + k - at = omega (arith, low) in
          ap (λ (xs : List ℕ). get_or xs k 0) same ∙ get_or-take 1024 (drop (1024 * index - at) bytes) k 0 lt ∙ get_or-drop (1024 * index - at) bytes k 0 ∙ ap (λ (n : ℕ). get_or bytes n 0) place,
    )

-- where it is written it has them
pub whole_here : (index at number : ℕ) (disk : List (List ℕ)) (bytes chunk : List ℕ) (place : ℕ) → number < length disk → ((k : ℕ) → k < 1024 → get_or chunk k 0 ≡ get_or bytes (1024 * index + k - at) 0) → place / 1024 ≡ index
    → get_or (block_bytes (set disk number chunk) number) (place % 1024) 0 ≡ get_or bytes (place - at) 0
whole_here index at number disk bytes chunk place within each here =
    let back : 1024 * index + place % 1024 - at ≡ place - at = omega (arith, here) in
    ap (λ (xs : List ℕ). get_or xs (place % 1024) 0) (get_or-set_same disk number chunk [] within) ∙ each (place % 1024) (omega arith) ∙ ap (λ (n : ℕ). get_or bytes n 0) back

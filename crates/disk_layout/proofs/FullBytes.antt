-- Bytes of a map that have all of their blocks in use.
use Rattle.std.proofs.Common.{◌≡◌, ℕ, ◌+◌, ◌/◌, ◌%◌, ◌<◌, ◌≤◌, ◌-◌, List, get_or, sym, ap, ◌∙◌, arith}
use Rattle.std.specs.Int.{bit_at}
use Rattle.std.proofs.lemmas.Nat.Bits.{bit_at_ones}
use Rattle.posix_defs.specs.SoundDisk.{bit_of}

pub full_byte : (map : List ℕ) (number : ℕ) → get_or map (number / 8) 0 ≡ 255 → bit_of map number ≡ 1
full_byte map number is = ap (λ (b : ℕ). bit_at b (number % 8)) is ∙ bit_at_ones 8 (number % 8) (omega arith)

-- of eight such bytes in a row each block is in use
pub full_row : (map : List ℕ) (number : ℕ) → number % 8 ≡ 0 → ((k : ℕ) → k < 8 → get_or map (number / 8 + k) 0 ≡ 255) → (block : ℕ) → number ≤ block → block < number + 64 → bit_of map block ≡ 1
full_row map number even full block from to =
    let k : ℕ = block / 8 - number / 8 in
    let at : number / 8 + k ≡ block / 8 = omega (arith, from) in
    full_byte map block (ap (λ (n : ℕ). get_or map n 0) (sym at) ∙ full k (omega (arith, even, from, to)))

-- of one such byte each block is in use
pub full_one : (map : List ℕ) (number : ℕ) → number % 8 ≡ 0 → get_or map (number / 8) 0 ≡ 255 → (block : ℕ) → number ≤ block → block < number + 8 → bit_of map block ≡ 1
full_one map number even full block from to =
    let at : number / 8 ≡ block / 8 = omega (arith, even, from, to) in
    full_byte map block (ap (λ (n : ℕ). get_or map n 0) (sym at) ∙ full)

-- Free blocks that are found one after another.
use Rattle.std.proofs.Common.{◌≡◌, ◌≢◌, ℕ, zero, suc, ◌+◌, ◌-◌, ◌<◌, ◌≤◌, Bool, not, Some, eqb, ◌⊎◌, inl, inr, List, length, get_or, set, sym, ap, subst, ◌∙◌, arith}
use Rattle.std.specs.Prelude.{slice_get}
use Rattle.std.proofs.lemmas.Bool.{cases_eq, eq-eqb, ne_eqb}
use Rattle.std.proofs.lemmas.List.{get_or-set_same, get_or-set_other}
use Rattle.posix_defs.specs.SoundDisk.{bit_of, block_bytes, free_in_map}
use Rattle.disk_laws.proofs.FreeBlocks.{numbers, one, numbers-suc}
use Rattle.blk_map.specs.Found.{free_below}
use Rattle.blk_map.proofs.Blocks.{got}

-- ---- how many numbers of a range pass, from its end

numbers_end : (p : ℕ → Bool) (from n : ℕ) → numbers p from (suc n) ≡ numbers p from n + one (p (from + n))
numbers_end p from zero =
    let at : from + 0 ≡ from = omega arith in
    let same : one (p (from + 0)) ≡ one (p from) = ap (λ (k : ℕ). one (p k)) at in
    omega (arith, numbers-suc p from 0, same)
numbers_end p from (suc n) =
    let at : from + 1 + n ≡ from + suc n = omega arith in
    let same : one (p (from + 1 + n)) ≡ one (p (from + suc n)) = ap (λ (k : ℕ). one (p k)) at in
    omega (arith, numbers-suc p from (suc n), numbers-suc p from n, numbers_end p (from + 1) n, same)

numbers_grow : (p : ℕ → Bool) (n m : ℕ) → numbers p 0 n ≤ numbers p 0 (n + m)
numbers_grow p n zero = let at : n + 0 ≡ n = omega arith in let same : numbers p 0 (n + 0) ≡ numbers p 0 n = ap (λ (k : ℕ). numbers p 0 k) at in omega (arith, same)
numbers_grow p n (suc m) =
    let at : n + suc m ≡ suc (n + m) = omega arith in
    let same : numbers p 0 (n + suc m) ≡ numbers p 0 (suc (n + m)) = ap (λ (k : ℕ). numbers p 0 k) at in
    omega (arith, same, numbers_end p 0 (n + m), numbers_grow p n m)

-- one number more is one free block more, or none
pub free_end : (map : List ℕ) (n : ℕ) → free_below map (n + 1) ≡ free_below map n + one (not (eqb (bit_of map n) 1))
free_end map n =
    let at : n + 1 ≡ suc n = omega arith in
    let here : 0 + n ≡ n = omega arith in
    ap (λ (k : ℕ). free_below map k) at ∙ numbers_end (λ k. not (eqb (bit_of map k) 1)) 0 n ∙ ap (λ (k : ℕ). free_below map n + one (not (eqb (bit_of map k) 1))) here

pub free_grow : (map : List ℕ) (n m : ℕ) → n ≤ m → free_below map n ≤ free_below map m
free_grow map n m le =
    let at : n + (m - n) ≡ m = omega (arith, le) in
    subst (λ (k : ℕ). free_below map n ≤ free_below map k) at (numbers_grow (λ k. not (eqb (bit_of map k) 1)) n (m - n))

-- ---- the search

-- these are the free blocks below a number
pub record Searched (map found : List ℕ) (count number : ℕ) : Type 0 where
  pub each : (k : ℕ) → k < count → (get_or found k 0 < number) × (bit_of map (get_or found k 0) ≢ 1)
  pub apart : (j k : ℕ) → j < count → k < count → get_or found j 0 ≡ get_or found k 0 → j ≡ k
  pub all : (block : ℕ) → block < number → bit_of map block ≢ 1 → (k : ℕ) × (k < count) × (get_or found k 0 ≡ block)
  pub many : count ≡ free_below map number

pub searched_past : (map found : List ℕ) (count number : ℕ) → bit_of map number ≡ 1 → Searched map found count number → Searched map found count (number + 1)
searched_past map found count number used s =
    let none : one (not (eqb (bit_of map number) 1)) ≡ 0 = ap (λ (b : Bool). one (not b)) (eq-eqb (bit_of map number) 1 used) in
    record {
      each = λ k lt. (omega (arith, (s.each k lt).0), (s.each k lt).1);
      apart = s.apart;
      all = λ block lt free. elim (cases_eq block number) [
        | inl e ↦ absurd (free (ap (bit_of map) e ∙ used))
        | inr other ↦ s.all block (omega (arith, lt, other)) free
      ];
      many = omega (arith, s.many, free_end map number, none);
    }

pub searched_one : (map found : List ℕ) (count number : ℕ) → bit_of map number ≢ 1 → count < length found → Searched map found count number → Searched map (set found count number) (count + 1) (number + 1)
searched_one map found count number free room s =
    let more : one (not (eqb (bit_of map number) 1)) ≡ 1 = ap (λ (b : Bool). one (not b)) (ne_eqb (bit_of map number) 1 free) in
    let here : get_or (set found count number) count 0 ≡ number = get_or-set_same found count number 0 room in
    let there : (k : ℕ) → k < count → get_or (set found count number) k 0 ≡ get_or found k 0 = λ k lt. get_or-set_other found count k number 0 (λ e. omega (arith, e, lt)) in
    let at : (k : ℕ) → k < count + 1 → (k ≡ count) ⊎ (k < count) = λ k lt. elim (cases_eq k count) [ inl e ↦ inl e | inr other ↦ inr (omega (arith, lt, other)) ] in
    let last : (k : ℕ) → k ≡ count → get_or (set found count number) k 0 ≡ number = λ k e. ap (λ (j : ℕ). get_or (set found count number) j 0) e ∙ here in
    record {
      each = λ k lt. elim (at k lt) [
        | inl e ↦ (omega (arith, last k e), λ is. free (ap (bit_of map) (sym (last k e)) ∙ is))
        | inr front ↦ (omega (arith, there k front, (s.each k front).0), λ is. (s.each k front).1 (ap (bit_of map) (sym (there k front)) ∙ is))
      ];
      apart = λ j k lt also e. elim (at j lt) [
        | inl a ↦ elim (at k also) [
          | inl b ↦ a ∙ sym b
          | inr b ↦ absurd (omega (arith, e, last j a, there k b, (s.each k b).0))
        ]
        | inr a ↦ elim (at k also) [
          | inl b ↦ absurd (omega (arith, e, last k b, there j a, (s.each j a).0))
          | inr b ↦ s.apart j k a b (sym (there j a) ∙ e ∙ there k b)
        ]
      ];
      all = λ block lt is. elim (cases_eq block number) [
        | inl e ↦ (count, omega arith, here ∙ sym e)
        | inr other ↦ let old = s.all block (omega (arith, lt, other)) is in (old.0, omega (arith, old.1), there old.0 old.1 ∙ old.2)
      ];
      many = omega (arith, s.many, free_end map number, more);
    }

-- a row of blocks in use is passed over
pub searched_row : (map found : List ℕ) (count number n : ℕ) → ((block : ℕ) → number ≤ block → block < number + n → bit_of map block ≡ 1) → Searched map found count number → Searched map found count (number + n)
searched_row map found count number zero used s = let at : number ≡ number + 0 = omega arith in subst (λ (k : ℕ). Searched map found count k) at s
searched_row map found count number (suc n) used s =
    let before = searched_row map found count number n (λ block from to. used block from (omega (arith, to))) s in
    let at : number + n + 1 ≡ number + suc n = omega arith in
    subst (λ (k : ℕ). Searched map found count k) at (searched_past map found count (number + n) (used (number + n) (omega arith) (omega arith)) before)

pub searched_to : (map found : List ℕ) (count number to : ℕ) → number ≤ to → ((block : ℕ) → number ≤ block → block < to → bit_of map block ≡ 1) → Searched map found count number → Searched map found count to
searched_to map found count number to le used s =
    let at : number + (to - number) ≡ to = omega (arith, le) in
    subst (λ (k : ℕ). Searched map found count k) at (searched_row map found count number (to - number) (λ block from lt. used block from (omega (arith, lt, at))) s)

-- and so is one that is counted
free_row : (map : List ℕ) (number n : ℕ) → ((block : ℕ) → number ≤ block → block < number + n → bit_of map block ≡ 1) → free_below map (number + n) ≡ free_below map number
free_row map number zero used = let at : number + 0 ≡ number = omega arith in ap (free_below map) at
free_row map number (suc n) used =
    let before = free_row map number n (λ block from to. used block from (omega (arith, to))) in
    let at : number + suc n ≡ number + n + 1 = omega arith in
    let none : one (not (eqb (bit_of map (number + n)) 1)) ≡ 0 = ap (λ (b : Bool). one (not b)) (eq-eqb (bit_of map (number + n)) 1 (used (number + n) (omega arith) (omega arith))) in
    let same : free_below map (number + suc n) ≡ free_below map (number + n + 1) = ap (free_below map) at in
    omega (arith, same, free_end map (number + n), none, before)

pub free_to : (map : List ℕ) (number to : ℕ) → number ≤ to → ((block : ℕ) → number ≤ block → block < to → bit_of map block ≡ 1) → free_below map to ≡ free_below map number
free_to map number to le used =
    let at : number + (to - number) ≡ to = omega (arith, le) in
    let same : free_below map to ≡ free_below map (number + (to - number)) = ap (free_below map) (sym at) in
    same ∙ free_row map number (to - number) (λ block from lt. used block from (omega (arith, lt, at)))

pub free_one : (map : List ℕ) (number : ℕ) → bit_of map number ≢ 1 → free_below map (number + 1) ≡ free_below map number + 1
free_one map number free =
    let more : one (not (eqb (bit_of map number) 1)) ≡ 1 = ap (λ (b : Bool). one (not b)) (ne_eqb (bit_of map number) 1 free) in
    omega (arith, free_end map number, more)

-- ---- the free blocks of a disk

-- what a map that was read has as free
pub free_read : (disk between : List (List ℕ)) (map : List ℕ) (blocks : ℕ) → between ≡ disk → slice_get disk 0 ≡ Some map → blocks ≡ length between → free_below map blocks ≡ free_in_map disk
free_read disk between map blocks kept read count =
    ap (λ (n : ℕ). free_below map n) (count ∙ ap length kept) ∙ ap (λ (bytes : List ℕ). free_below bytes (length disk)) (sym (got disk 0 map read))

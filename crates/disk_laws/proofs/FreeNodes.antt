-- Something is free exactly where the count of what is free isn't 0.
use Rattle.std.proofs.Common.{◌≡◌, ◌≢◌, ℕ, zero, suc, ◌+◌, ◌-◌, ◌<◌, Bool, true, not, cond, eqb, ◌↔◌, inl, inr, List, [], ◌∷◌, length, get_or, count_by, sym, ap, subst, ◌∙◌, arith}
use Rattle.std.specs.List.{range_with_len}
use Rattle.std.proofs.lemmas.Bool.{cases_Bool, not-true, eqb-true, eq-eqb, eqb-false, ne_eqb}
use Rattle.std.proofs.lemmas.List.FromFn.{length-range_with_len, get_or-range_with_len}
use Rattle.std.proofs.lemmas.List.Sums.{sum_by-cons}
use Rattle.kabi_types.specs.declared.inodes.Inode.{Inode}
use Rattle.posix_defs.specs.SoundDisk.{HasInode, map_bit, IsTable, IsFreeBlock, IsFreeNode, free_in_map, free_inodes}
use Rattle.disk_laws.proofs.FormattedDisk.{one_inode}

abbrev one : Bool → ℕ
one b = cond b 1 0

-- a place at which an item passes
found : {X : Type 0} (p : X → Bool) (xs : List X) (none : X) → 0 < count_by p xs → (place : ℕ) × (place < length xs) × (p (get_or xs place none) ≡ true)
found p [] none some = absurd (omega (arith, some))
found {X} p (x ∷ xs) none some =
    let all : count_by p (x ∷ xs) ≡ one (p x) + count_by p xs = sum_by-cons (λ (y : X). one (p y)) x xs in
    elim (cases_Bool (p x)) [
      | inl e ↦ (0, omega arith, e)
      | inr e ↦
          let not_counted : one (p x) ≡ 0 = ap (λ (b : Bool). one b) e in
          let at = found p xs none (omega (arith, some, all, not_counted)) in
          (suc at.0, omega (arith, at.1), at.2)
    ]

counted : {X : Type 0} (p : X → Bool) (xs : List X) (none : X) (place : ℕ) → place < length xs → p (get_or xs place none) ≡ true → 0 < count_by p xs
counted p [] none place lt passes = absurd (omega (arith, lt))
counted {X} p (x ∷ xs) none zero lt passes =
    let here : one (p x) ≡ 1 = ap (λ (b : Bool). one b) passes in
    omega (arith, sum_by-cons (λ (y : X). one (p y)) x xs, here)
counted {X} p (x ∷ xs) none (suc place) lt passes =
    omega (arith, sum_by-cons (λ (y : X). one (p y)) x xs, counted p xs none place (omega (arith, lt)) passes)

abbrev is_free : List (List ℕ) → ℕ → Bool
is_free disk number = not (eqb (map_bit disk number) 1)

free_says : (disk : List (List ℕ)) (number : ℕ) → is_free disk number ≡ true → map_bit disk number ≢ 1
free_says disk number e = λ marked. eqb-false (map_bit disk number) 1 (not-true (eqb (map_bit disk number) 1) e) marked

pub some_block_is_free : (disk : List (List ℕ)) → (0 < free_in_map disk) ↔ ((number : ℕ) × IsFreeBlock disk number)
some_block_is_free disk = (
  λ some.
      let at = found (is_free disk) (range_with_len 0 (length disk)) 0 some in
      let lt : at.0 < length disk = omega (arith, at.1, length-range_with_len 0 (length disk)) in
      let same : get_or (range_with_len 0 (length disk)) at.0 0 ≡ at.0 = get_or-range_with_len 0 (length disk) at.0 0 lt ∙ (let e : 0 + at.0 ≡ at.0 = omega arith in e) in
      (at.0, (lt, free_says disk at.0 (subst (λ (n : ℕ). is_free disk n ≡ true) same at.2))),
  λ free.
      let same : get_or (range_with_len 0 (length disk)) free.0 0 ≡ free.0 = get_or-range_with_len 0 (length disk) free.0 0 free.1.0 ∙ (let e : 0 + free.0 ≡ free.0 = omega arith in e) in
      let passes : is_free disk free.0 ≡ true = ap (λ (b : Bool). not b) (ne_eqb (map_bit disk free.0) 1 free.1.1) in
      counted (is_free disk) (range_with_len 0 (length disk)) 0 free.0 (omega (arith, free.1.0, length-range_with_len 0 (length disk))) (subst (λ (n : ℕ). is_free disk n ≡ true) (sym same) passes),
)

pub some_node_is_free : (disk : List (List ℕ)) (inodes : List Inode) → IsTable disk inodes → (0 < free_inodes inodes) ↔ ((node : ℕ) × IsFreeNode disk node)
some_node_is_free disk inodes table = (
  λ some.
      let any : Inode = record { kind = 0; nlink = 0; size = 0; direct = []; indirect = 0; double = 0 } in
      let at = found (λ (inode : Inode). eqb inode.kind 0) inodes any some in
      (at.0 + 1, (get_or inodes at.0 any, table.each at.0 any at.1, eqb-true _ 0 at.2)),
  λ free.
      let inode : Inode = free.1.0 in
      let place : ℕ = free.0 - 1 in
      let has : HasInode disk free.0 inode = free.1.1 in
      let within : place < length inodes = omega (arith, has.number.0, has.number.1, table.count) in
      let same_node : place + 1 ≡ free.0 = omega (arith, has.number.0) in
      let at : HasInode disk free.0 (get_or inodes place inode) = subst (λ (n : ℕ). HasInode disk n (get_or inodes place inode)) same_node (table.each place inode within) in
      let same : inode ≡ get_or inodes place inode = one_inode disk free.0 inode (get_or inodes place inode) has at in
      counted (λ (i : Inode). eqb i.kind 0) inodes inode place within (subst (λ (i : Inode). eqb i.kind 0 ≡ true) same (eq-eqb inode.kind 0 free.1.2)),
)

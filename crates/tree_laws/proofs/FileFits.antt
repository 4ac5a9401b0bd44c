-- A write goes as far as there is room.
use Rattle.std.proofs.Common.{◌≡◌, ℕ, ◌+◌, ◌<◌, ◌≤◌, cond, inl, inr, List, length, take, eqb, leb, Result, Ok, Err, sym, ◌∙◌, arith}
use Rattle.std.proofs.lemmas.Bool.{cases_Bool, cases_lt, cond-true, cond-false, eqb-true, leb-true, leb-false}
use Rattle.kabi_types.specs.declared.errnos.Errno.{Errno}
use Rattle.kabi_types.specs.declared.errnos.Errno.TheVariants.{EFBIG, ENOSPC}
use Rattle.posix_defs.specs.DiskFormat.{greatest_size, blocks_of}
use Rattle.posix_defs.specs.FileBytes.{fitting, overwritten}
use Rattle.posix_defs.specs.Tree.{Tree}
use Rattle.posix_defs.specs.TreeChanges.{blocks_for, with_bytes, write, HasNoRoom}
use Rattle.tree_laws.proofs.FileKeeps.{wrote}
use Rattle.tree_laws.proofs.FileRoom.{fits_capacity}

-- beyond what fits there is no room
beyond : (tree : Tree) (number at n count more : ℕ) → count ≡ fitting (blocks_for tree number) at n → count < more → more ≤ n → at + more ≤ greatest_size → HasNoRoom tree number (at + more)
beyond tree number at n count more many further within most =
    elim (cases_lt (blocks_for tree number) (blocks_of (at + more))) [
      | inl none ↦ none
      | inr fits ↦ absurd (omega (arith, fits_capacity (blocks_for tree number) (at + more) most fits, many, further, within))
    ]

pub written_far : (tree : Tree) (number at : ℕ) (bytes : List ℕ) (count : ℕ) (after : Tree) → write tree number at bytes ≡ Ok (count, after)
    → (0 < count) × (count ≤ length bytes) × ((more : ℕ) → count < more → more ≤ length bytes → at + more ≤ greatest_size → HasNoRoom tree number (at + more))
written_far tree number at bytes count after answered =
    let done = wrote tree number at bytes count after answered in
    (omega (arith, done.some), omega (arith, done.many), λ more. beyond tree number at (length bytes) count more done.many)

same_Err : {A : Type 0} (x y : Errno) → ◌≡◌ {A = Result A Errno} (Err x) (Err y) → x ≡ y
same_Err x y same = cc

different : {A : Type 0} (x : A) (e : Errno) → ◌≡◌ {A = Result A Errno} (Ok x) (Err e) → ⊥
different x e same = cc

big_not_full : EFBIG ≡ ENOSPC → ⊥
big_not_full same = cc

pub written_none : (tree : Tree) (number at : ℕ) (bytes : List ℕ) → write tree number at bytes ≡ Err ENOSPC
    → (at < greatest_size) × ((more : ℕ) → 0 < more → more ≤ length bytes → at + more ≤ greatest_size → HasNoRoom tree number (at + more))
written_none tree number at bytes answered =
    let n : ℕ = fitting (blocks_for tree number) at (length bytes) in
    let made : ℕ × Tree = (n, with_bytes tree number (overwritten at (take n bytes))) in
    let rest : Result (ℕ × Tree) Errno = cond (eqb n 0) (Err ENOSPC) (Ok made) in
    elim (cases_Bool (leb greatest_size at)) [
      | inl large ↦ absurd (big_not_full (same_Err EFBIG ENOSPC (sym (cond-true (leb greatest_size at) (Err EFBIG) rest large) ∙ answered)))
      | inr below ↦
          let is_rest : rest ≡ Err ENOSPC = sym (cond-false (leb greatest_size at) (Err EFBIG) rest below) ∙ answered in
          elim (cases_Bool (eqb n 0)) [
            | inl none ↦ (leb-false greatest_size at below, λ more. beyond tree number at (length bytes) 0 more (sym (eqb-true n 0 none)))
            | inr some ↦ absurd (different made ENOSPC (sym (cond-false (eqb n 0) (Err ENOSPC) (Ok made) some) ∙ is_rest))
          ]
    ]

pub written_big : (tree : Tree) (number at : ℕ) (bytes : List ℕ) → write tree number at bytes ≡ Err EFBIG → greatest_size ≤ at
written_big tree number at bytes answered =
    let n : ℕ = fitting (blocks_for tree number) at (length bytes) in
    let made : ℕ × Tree = (n, with_bytes tree number (overwritten at (take n bytes))) in
    let rest : Result (ℕ × Tree) Errno = cond (eqb n 0) (Err ENOSPC) (Ok made) in
    elim (cases_Bool (leb greatest_size at)) [
      | inl large ↦ leb-true greatest_size at large
      | inr below ↦
          let is_rest : rest ≡ Err EFBIG = sym (cond-false (leb greatest_size at) (Err EFBIG) rest below) ∙ answered in
          elim (cases_Bool (eqb n 0)) [
            | inl none ↦ absurd (big_not_full (sym (same_Err ENOSPC EFBIG (sym (cond-true (eqb n 0) (Err ENOSPC) (Ok made) none) ∙ is_rest))))
            | inr some ↦ absurd (different made EFBIG (sym (cond-false (eqb n 0) (Err ENOSPC) (Ok made) some) ∙ is_rest))
          ]
    ]

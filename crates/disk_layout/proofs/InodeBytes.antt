-- An inode is spelled in one way, and its bytes are the bytes of its fields.
use Rattle.std.proofs.Common.{◌≡◌, ℕ, ◌*◌, ◌<◌, ◌≤◌, List, [], ◌∷◌, ◌++◌, length, get_or, take, drop, replicate, Result, Ok, Err, refl, sym, ap, subst, ◌∙◌, arith}
use Rattle.std.specs.Prelude.{IfOk, IfErr}
use Rattle.std.specs.Int.{w16, w32, to_be_bytes}
use Rattle.std.proofs.lemmas.List.{drop_at, drop-drop, get_or-replicate, length-drop, take_all}
use Rattle.kabi_types.specs.declared.inodes.Inode.{Inode}
use Rattle.posix_defs.specs.DiskFormat.{Fits, HasPointers, IsInode, inode_bytes}
use Rattle.disk_layout.specs.declared.faults.BadInode.{BadInode}
use Rattle.disk_layout.specs.declared.faults.BadInode.TheVariants.{BadKind, BadPointer}
use Rattle.disk_layout.specs.Faults.{IsFault}
use Rattle.disk_laws.proofs.DiskSpelling.{words, length-words, same_inode}
use Rattle.disk_layout.proofs.WordBytes.{cut, all_zeros}

two : (xs : List ℕ) → 2 ≤ length xs → take 2 xs ≡ get_or xs 0 0 ∷ get_or xs 1 0 ∷ []
two [] h = absurd (omega (arith, h))
two (x ∷ []) h = absurd (omega (arith, h))
two (x ∷ y ∷ xs) h = refl

pub gathered : (bytes : List ℕ) (i : Inode) → length bytes ≡ 64 → i.kind ≡ get_or bytes 0 0 → get_or bytes 1 0 ≡ 0 → to_be_bytes w16 i.nlink ≡ take 2 (drop 2 bytes) → to_be_bytes w32 i.size ≡ take 4 (drop 4 bytes)
    → words i.direct ≡ take 40 (drop 8 bytes) → to_be_bytes w32 i.indirect ≡ take 4 (drop 48 bytes) → to_be_bytes w32 i.double ≡ take 4 (drop 52 bytes)
    → ((k : ℕ) → k < length (take 8 (drop 56 bytes)) → get_or (take 8 (drop 56 bytes)) k 0 ≡ 0) → bytes ≡ inode_bytes i
unfolding inode_bytes
gathered bytes i len kind zero nlink size direct indirect double zeros =
    let e0 : take 2 bytes ≡ i.kind ∷ 0 ∷ [] = two bytes (omega (arith, len)) ∙ ap (λ (x : ℕ). x ∷ get_or bytes 1 0 ∷ []) (sym kind) ∙ ap (λ (x : ℕ). i.kind ∷ x ∷ []) zero in
    let whole : take 8 (drop 56 bytes) ≡ drop 56 bytes = take_all 8 (drop 56 bytes) (omega (arith, len, length-drop 56 bytes)) in
    let e7 : drop 56 bytes ≡ replicate 8 0 = sym whole ∙ all_zeros (take 8 (drop 56 bytes)) 8 (ap length whole ∙ omega (arith, len, length-drop 56 bytes)) zeros in
    let last : List ℕ = to_be_bytes w32 i.double ++ replicate 8 0 in
    let e6 : drop 52 bytes ≡ last = cut 52 4 bytes ∙ ap (λ (x : List ℕ). x ++ drop 56 bytes) (sym double) ∙ ap (λ (x : List ℕ). to_be_bytes w32 i.double ++ x) e7 in
    let e5 : drop 48 bytes ≡ to_be_bytes w32 i.indirect ++ last = cut 48 4 bytes ∙ ap (λ (x : List ℕ). x ++ drop 52 bytes) (sym indirect) ∙ ap (λ (x : List ℕ). to_be_bytes w32 i.indirect ++ x) e6 in
    let e4 : drop 8 bytes ≡ words i.direct ++ (to_be_bytes w32 i.indirect ++ last) = cut 8 40 bytes ∙ ap (λ (x : List ℕ). x ++ drop 48 bytes) (sym direct) ∙ ap (λ (x : List ℕ). words i.direct ++ x) e5 in
    let e3 = cut 4 4 bytes ∙ ap (λ (x : List ℕ). x ++ drop 8 bytes) (sym size) ∙ ap (λ (x : List ℕ). to_be_bytes w32 i.size ++ x) e4 in
    let e2 = cut 2 2 bytes ∙ ap (λ (x : List ℕ). x ++ drop 4 bytes) (sym nlink) ∙ ap (λ (x : List ℕ). to_be_bytes w16 i.nlink ++ x) e3 in
    cut 0 2 bytes ∙ ap (λ (x : List ℕ). x ++ drop 2 bytes) e0 ∙ ap (λ (x : List ℕ). (i.kind ∷ 0 ∷ []) ++ x) e2

tail_is : (i : Inode) → length i.direct ≡ 10 → drop 56 (inode_bytes i) ≡ replicate 8 0
unfolding inode_bytes
tail_is i len =
    let rest : List ℕ = to_be_bytes w32 i.indirect ++ (to_be_bytes w32 i.double ++ replicate 8 0) in
    sym (drop-drop 48 8 (inode_bytes i)) ∙ sym (drop-drop 8 40 (words i.direct ++ rest)) ∙ ap (drop 8) (drop_at (words i.direct) rest 40 (length-words i.direct ∙ ap (λ (n : ℕ). 4 * n) len))

-- the bytes of an inode that are kept zero
pub first_zero : (bytes : List ℕ) (i : Inode) → bytes ≡ inode_bytes i → get_or bytes 1 0 ≡ 0
unfolding inode_bytes
first_zero bytes i e = ap (λ (xs : List ℕ). get_or xs 1 0) e

pub last_zeros : (bytes : List ℕ) (i : Inode) → Fits i → bytes ≡ inode_bytes i → (k : ℕ) → k < length (take 8 (drop 56 bytes)) → get_or (take 8 (drop 56 bytes)) k 0 ≡ 0
last_zeros bytes i fits e k lt =
    let zeros : take 8 (drop 56 bytes) ≡ replicate 8 0 = ap (λ (xs : List ℕ). take 8 (drop 56 xs)) e ∙ ap (take 8) (tail_is i fits.count) in
    ap (λ (xs : List ℕ). get_or xs k 0) zeros ∙ get_or-replicate 8 k 0 0 (omega (arith, lt, ap length zeros))

-- what was found, or what fault there is, leaves no other answer
pub no_other : (blocks : ℕ) (bytes : List ℕ) (r : Result Inode BadInode) → IfOk r (λ i. IsInode blocks i × (bytes ≡ inode_bytes i)) → IfErr r (λ fault. IsFault blocks bytes fault) → (j : Inode) → IsInode blocks j → bytes ≡ inode_bytes j → r ≡ Ok j
no_other blocks bytes (Ok i) found fault j is e = ap (λ (x : Inode). Ok x) (same_inode i j found.0.fits is.fits (sym found.1 ∙ e))
no_other blocks bytes (Err BadKind) found fault j is e = absurd (fault j is.fits is.kind e)
no_other blocks bytes (Err BadPointer) found fault j is e =
    let same : j ≡ fault.0 = same_inode j fault.0 is.fits fault.1 (sym e ∙ fault.3) in
    absurd (fault.4 (subst (λ (x : Inode). HasPointers blocks x) same is.pointers))

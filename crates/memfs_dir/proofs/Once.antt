-- A look through a directory asks for no block twice.
use Rattle.std.proofs.Common.{◌≡◌, ◌≢◌, ℕ, zero, suc, ◌+◌, ◌-◌, ◌*◌, ◌<◌, ◌≤◌, List, [], ◌∷◌, ◌++◌, map, length, get_or, Option, Some, None, sym, subst, ◌∙◌, append_assoc, arith}
use Rattle.std.specs.List.{All, AllPairs, range_with_len}
use Rattle.std.specs.Option.{IfSome}
use Rattle.std.proofs.lemmas.List.{append-nil, get_or-map, length-map}
use Rattle.std.proofs.lemmas.List.Elements.{All-push}
use Rattle.std.proofs.lemmas.List.Quantifiers.{all_pairs_push}
use Rattle.kabi_types.specs.declared.inodes.Inode.{Inode}
use Rattle.posix_defs.specs.DiskFormat.{data_blocks, pointers_beside}
use Rattle.posix_defs.specs.SoundDisk.{HasNode, Sound, Place, Data, Pointers, HasPlace, named_at}
use Rattle.blk_map.proofs.Counted.{beside_more}
use Rattle.memfs_dir.specs.Looking.{looked_through, blocks_to, asked_to_find}

-- so many blocks of entries, and so many of pointers
abbrev IsBelow : ℕ → ℕ → Place → Type 0
IsBelow count pointers (Data index) = index < count
IsBelow count pointers (Pointers block) = block < pointers

record Looked (count pointers : ℕ) (places : List Place) : Type 0 where
  below : All (IsBelow count pointers) places
  apart : AllPairs (λ one other. one ≢ other) places

more : (count pointers : ℕ) (place : Place) → IsBelow count pointers place → IsBelow (suc count) pointers place
more count pointers (Data index) lt = omega (arith, lt)
more count pointers (Pointers block) lt = lt

further : (count pointers : ℕ) (place : Place) → IsBelow count pointers place → IsBelow count (suc pointers) place
further count pointers (Data index) lt = lt
further count pointers (Pointers block) lt = omega (arith, lt)

-- a place that isn't below stands behind all that are
pushed : (count pointers : ℕ) (places : List Place) (place : Place) → Looked count pointers places → ¬ (IsBelow count pointers place) → AllPairs (λ one other. one ≢ other) (places ++ place ∷ [])
pushed count pointers places place looked new =
    all_pairs_push (λ one other. one ≢ other) places place looked.apart (λ k d lt same. new (subst (λ (p : Place). IsBelow count pointers p) same (looked.below k d lt)))

with_data : (count pointers : ℕ) (places : List Place) → Looked count pointers places → Looked (suc count) pointers (places ++ Data count ∷ [])
with_data count pointers places looked = record {
  below = All-push (IsBelow (suc count) pointers) places (Data count) (λ k d lt. more count pointers (get_or places k d) (looked.below k d lt)) (omega arith);
  apart = pushed count pointers places (Data count) looked (λ lt. omega (arith, lt));
}

with_one : (count pointers : ℕ) (places : List Place) → Looked count pointers places → Looked count (suc pointers) (places ++ Pointers pointers ∷ [])
with_one count pointers places looked = record {
  below = All-push (IsBelow count (suc pointers)) places (Pointers pointers) (λ k d lt. further count pointers (get_or places k d) (looked.below k d lt)) (omega arith);
  apart = pushed count pointers places (Pointers pointers) looked (λ lt. omega (arith, lt));
}

with_pointers : (n count pointers : ℕ) (places : List Place) → Looked count pointers places → Looked count (pointers + n) (places ++ map Pointers (range_with_len pointers n))
with_pointers zero count pointers places looked =
    let none : pointers ≡ pointers + 0 = omega arith in
    subst (λ (p : ℕ). Looked count p (places ++ [])) none (subst (λ (ps : List Place). Looked count pointers ps) (sym (append-nil places)) looked)
with_pointers (suc n) count pointers places looked =
    let one : suc pointers ≡ pointers + 1 = omega arith in
    let all : pointers + 1 + n ≡ pointers + suc n = omega arith in
    let first : Looked count (pointers + 1) (places ++ Pointers pointers ∷ []) = subst (λ (p : ℕ). Looked count p (places ++ Pointers pointers ∷ [])) one (with_one count pointers places looked) in
    let rest : List Place = map Pointers (range_with_len (pointers + 1) n) in
    let both : Looked count (pointers + 1 + n) ((places ++ Pointers pointers ∷ []) ++ rest) = with_pointers n count (pointers + 1) (places ++ Pointers pointers ∷ []) first in
    subst (λ (p : ℕ). Looked count p (places ++ Pointers pointers ∷ rest)) all (subst (λ (ps : List Place). Looked count (pointers + 1 + n) ps) (append_assoc places (Pointers pointers ∷ []) rest) both)

looked : (count : ℕ) → Looked count (pointers_beside count) (looked_through count)
looked zero = record { below = λ k d lt. absurd (omega (arith, lt)); apart = λ i j d lt within. absurd (omega (arith, within)) }
looked (suc count) =
    let before : ℕ = pointers_beside count in
    let new : ℕ = pointers_beside (count + 1) - before in
    let places : List Place = looked_through count in
    let entered_then = with_pointers new count before places (looked count) in
    let all : before + new ≡ pointers_beside (suc count) = omega arith in
    let then : Looked (suc count) (before + new) ((places ++ map Pointers (range_with_len before new)) ++ Data count ∷ []) = with_data count (before + new) (places ++ map Pointers (range_with_len before new)) entered_then in
    subst (λ (p : ℕ). Looked (suc count) p (looked_through (suc count))) all
    (subst (λ (ps : List Place). Looked (suc count) (before + new) ps) (append_assoc places (map Pointers (range_with_len before new)) (Data count ∷ [])) then)

has_place : (size count : ℕ) (place : Place) → count ≤ data_blocks size → IsBelow count (pointers_beside count) place → HasPlace size place
has_place size count (Data index) few lt = omega (arith, lt, few)
has_place size count (Pointers block) few lt = within block (pointers_beside count) (pointers_beside (data_blocks size)) lt (beside_more count (data_blocks size) few)
  where
    within : (n m p : ℕ) → n < m → m ≤ p → n < p
    within n m p lt le = omega arith

few_blocks : (size : ℕ) (place : Option ℕ) → IfSome place (λ p. 32 * p < size) → blocks_to size place ≤ data_blocks size
few_blocks size None within = omega arith
few_blocks size (Some place) within = omega (arith, within)

pub asked_once : (disk : List (List ℕ)) (number : ℕ) (inode : Inode) (place : Option ℕ) → Sound disk → HasNode disk number inode → IfSome place (λ p. 32 * p < inode.size)
    → AllPairs (λ one other. one ≢ other) (asked_to_find disk inode place)
asked_once disk number inode place sound has within i j d lt j_in =
    let count : ℕ = blocks_to inode.size place in
    let places : List Place = looked_through count in
    let few = few_blocks inode.size place within in
    let l = looked count in
    let len : length (asked_to_find disk inode place) ≡ length places = length-map places (λ (there : Place). named_at disk inode there) in
    let j_lt : j < length places = omega (arith, j_in, len) in
    let i_lt : i < length places = omega (arith, lt, j_lt) in
    let at : (k : ℕ) → k < length places → get_or (asked_to_find disk inode place) k d ≡ named_at disk inode (get_or places k (Pointers 0)) = λ k k_lt. get_or-map (λ (there : Place). named_at disk inode there) places k (Pointers 0) d k_lt in
    let there : (k : ℕ) → k < length places → HasPlace inode.size (get_or places k (Pointers 0)) = λ k k_lt. has_place inode.size count (get_or places k (Pointers 0)) few (l.below k (Pointers 0) k_lt) in
    λ same.
    l.apart i j (Pointers 0) lt j_lt (sound.once number number inode inode (get_or places i (Pointers 0)) (get_or places j (Pointers 0)) has.0 has.0 (there i i_lt) (there j j_lt) (sym (at i i_lt) ∙ same ∙ at j j_lt)).1

-- The free blocks of a sound disk are those that no node names, and as many as the sizes of its nodes leave.
use Rattle.std.proofs.Common.{◌≡◌, ◌≢◌, ℕ, zero, suc, ◌+◌, ◌-◌, ◌*◌, ◌%◌, ◌<◌, ◌≤◌, Bool, true, false, not, ◌&&◌, cond, eqb, ltb, ◌⊎◌, inl, inr, List, [], ◌∷◌, ◌++◌, map, length, get_or, sum_by, count_by, None, Some, refl, sym, ap, subst, ◌∙◌, arith}
use Rattle.std.specs.List.{range_with_len, flat_map}
use Rattle.std.proofs.lemmas.Bool.{cases_lt, cases_eq, lt-ltb, le-ltb, cond-true, cond-false, eqb-true, eq-eqb, ne_eqb, false_from_ne_true, false≢true}
use Rattle.std.proofs.lemmas.List.{length-append, get_or_append_left, get_or_at}
use Rattle.std.proofs.lemmas.List.Concat.{flat_map-cons}
use Rattle.std.proofs.lemmas.List.FromFn.{length-map-range_with_len}
use Rattle.std.proofs.lemmas.List.Sums.{sum_by-cons}
use Rattle.kabi_types.specs.declared.inodes.Inode.{Inode}
use Rattle.posix_defs.specs.DiskFormat.{block_size, table_end, table_nodes, data_blocks, blocks_of, leads_to, needs_pointer, IsForFiles, IsPointer}
use Rattle.posix_defs.specs.SoundDisk.{block_bytes, HasInode, pointer_at, Place, Data, Pointers, HasPlace, Way, block_of_run, run_of, led_to, named_at, way_to, pointer_block, IsNamed, map_bit, Sound, IsTable, free_in_map, free_blocks}
use Rattle.disk_laws.proofs.FormattedDisk.{one_inode}

-- ---- how many numbers of a range pass a test

abbrev pub numbers : (ℕ → Bool) → ℕ → ℕ → ℕ
numbers p from n = count_by p (range_with_len from n)

abbrev pub one : Bool → ℕ
one b = cond b 1 0

pub numbers-suc : (p : ℕ → Bool) (from n : ℕ) → numbers p from (suc n) ≡ one (p from) + numbers p (from + 1) n
numbers-suc p from n = sum_by-cons (λ (k : ℕ). cond (p k) 1 0) from (range_with_len (from + 1) n)

numbers_alike : (p q : ℕ → Bool) (from n : ℕ) → ((k : ℕ) → from ≤ k → p k ≡ q k) → numbers p from n ≡ numbers q from n
numbers_alike p q from zero same = refl
numbers_alike p q from (suc n) same =
    let rest = numbers_alike p q (from + 1) n (λ k le. same k (omega (arith, le))) in
    let here : one (p from) ≡ one (q from) = ap (λ (b : Bool). one b) (same from (omega arith)) in
    omega (arith, numbers-suc p from n, numbers-suc q from n, rest, here)

-- one number more passes
one_more : (p q : ℕ → Bool) (from n x : ℕ) → from ≤ x → x < from + n → p x ≡ true → q x ≡ false → ((k : ℕ) → k ≢ x → p k ≡ q k) → numbers p from n ≡ numbers q from n + 1
one_more p q from zero x le lt passes fails same = absurd (omega (arith, le, lt))
one_more p q from (suc n) x le lt passes fails same =
    elim (cases_eq from x) [
      | inl e ↦
          let rest = numbers_alike p q (from + 1) n (λ k above. same k (λ is. omega (arith, is, above, e))) in
          let counted : one (p from) ≡ 1 = ap (λ (k : ℕ). one (p k)) e ∙ ap (λ (b : Bool). one b) passes in
          let not_counted : one (q from) ≡ 0 = ap (λ (k : ℕ). one (q k)) e ∙ ap (λ (b : Bool). one b) fails in
          omega (arith, numbers-suc p from n, numbers-suc q from n, rest, counted, not_counted)
      | inr other ↦
          let rest = one_more p q (from + 1) n x (omega (arith, le, other)) (omega (arith, lt)) passes fails same in
          let alike : one (p from) ≡ one (q from) = ap (λ (b : Bool). one b) (same from other) in
          omega (arith, numbers-suc p from n, numbers-suc q from n, rest, alike)
    ]

one_of_two : (b : Bool) → one b + one (not b) ≡ 1
one_of_two true = refl
one_of_two false = refl

passing_and_others : (p : ℕ → Bool) (from n : ℕ) → numbers p from n + numbers (λ k. not (p k)) from n ≡ n
passing_and_others p from zero = refl
passing_and_others p from (suc n) =
    omega (arith, numbers-suc p from n, numbers-suc (λ k. not (p k)) from n, passing_and_others p (from + 1) n, one_of_two (p from))

-- ---- lists without repetition

In : ℕ → List ℕ → Type 0
In x [] = ⊥
In x (y ∷ ys) = (x ≡ y) ⊎ In x ys

Distinct : List ℕ → Type 0
Distinct [] = Unit {0}
Distinct (x ∷ xs) = ¬ (In x xs) × Distinct xs

none_passes : (p : ℕ → Bool) (from n : ℕ) → ((k : ℕ) → from ≤ k → k < from + n → p k ≡ false) → numbers p from n ≡ 0
none_passes p from zero fail = refl
none_passes p from (suc n) fail =
    let rest = none_passes p (from + 1) n (λ k le lt. fail k (omega (arith, le)) (omega (arith, lt))) in
    let here : one (p from) ≡ 0 = ap (λ (b : Bool). one b) (fail from (omega arith) (omega arith)) in
    omega (arith, numbers-suc p from n, rest, here)

-- all but one number
abbrev but : (ℕ → Bool) → ℕ → ℕ → Bool
but p x k = not (eqb k x) && p k

but_itself : (p : ℕ → Bool) (x : ℕ) → but p x x ≡ false
but_itself p x = ap (λ (b : Bool). not b && p x) (eq-eqb x x refl)

but_other : (p : ℕ → Bool) (x k : ℕ) → k ≢ x → p k ≡ but p x k
but_other p x k other = sym (ap (λ (b : Bool). not b && p k) (ne_eqb k x other))

-- the numbers that pass are those of a list without repetition, so they are as many
members : (xs : List ℕ) (p : ℕ → Bool) (n : ℕ) → Distinct xs → ((k : ℕ) → In k xs → (k < n) × (p k ≡ true)) → ((k : ℕ) → k < n → p k ≡ true → In k xs) → numbers p 0 n ≡ length xs
unfolding In Distinct
members [] p n distinct all only = none_passes p 0 n (λ k le lt. false_from_ne_true (p k) (λ passes. only k (omega (arith, lt)) passes))
members (x ∷ xs) p n distinct all only =
    let first = all x (inl refl) in
    let all_rest : (k : ℕ) → In k xs → (k < n) × (but p x k ≡ true) = λ k is.
    let at = all k (inr is) in
    let other : k ≢ x = λ e. distinct.0 (subst (λ (m : ℕ). In m xs) e is) in
    (at.0, sym (but_other p x k other) ∙ at.1)
    in
    let only_rest : (k : ℕ) → k < n → but p x k ≡ true → In k xs = λ k lt passes.
    elim (cases_eq k x) [
      | inl e ↦ absurd (false≢true (sym (but_itself p x) ∙ ap (but p x) (sym e) ∙ passes))
      | inr other ↦
          elim (only k lt (but_other p x k other ∙ passes)) [
            | inl e ↦ absurd (other e)
            | inr is ↦ is
          ]
    ]
    in
    let rest : numbers (but p x) 0 n ≡ length xs = members xs (but p x) n distinct.1 all_rest only_rest in
    let more : numbers p 0 n ≡ numbers (but p x) 0 n + 1 = one_more p (but p x) 0 n x (omega arith) (omega (arith, first.0)) first.1 (but_itself p x) (λ k other. but_other p x k other) in
    omega (arith, rest, more)

in_append : (x : ℕ) (xs ys : List ℕ) → In x (xs ++ ys) → In x xs ⊎ In x ys
unfolding In
in_append x [] ys is = inr is
in_append x (y ∷ xs) ys (inl e) = inl (inl e)
in_append x (y ∷ xs) ys (inr is) = elim (in_append x xs ys is) [ inl left ↦ inl (inr left) | inr right ↦ inr right ]

in_left : (x : ℕ) (xs ys : List ℕ) → In x xs → In x (xs ++ ys)
unfolding In
in_left x [] ys is = absurd is
in_left x (y ∷ xs) ys (inl e) = inl e
in_left x (y ∷ xs) ys (inr is) = inr (in_left x xs ys is)

in_right : (x : ℕ) (xs ys : List ℕ) → In x ys → In x (xs ++ ys)
unfolding In
in_right x [] ys is = is
in_right x (y ∷ xs) ys is = inr (in_right x xs ys is)

distinct_append : (xs ys : List ℕ) → Distinct xs → Distinct ys → ((x : ℕ) → In x xs → ¬ (In x ys)) → Distinct (xs ++ ys)
unfolding Distinct In
distinct_append [] ys left right apart = right
distinct_append (x ∷ xs) ys left right apart = (
  λ is. elim (in_append x xs ys is) [ inl again ↦ left.0 again | inr there ↦ apart x (inl refl) there ],
  distinct_append xs ys left.1 right (λ k is. apart k (inr is)),
)

-- the values of a function at the numbers of a range
abbrev values : (ℕ → ℕ) → ℕ → ℕ → List ℕ
values f from n = map f (range_with_len from n)

in_values : (f : ℕ → ℕ) (from n x : ℕ) → In x (values f from n) → (k : ℕ) × (from ≤ k) × (k < from + n) × (x ≡ f k)
unfolding In
in_values f from zero x is = absurd is
in_values f from (suc n) x (inl e) = (from, omega arith, omega arith, e)
in_values f from (suc n) x (inr is) = let at = in_values f (from + 1) n x is in (at.0, omega (arith, at.1), omega (arith, at.2), at.3)

value_in : (f : ℕ → ℕ) (from n k : ℕ) → from ≤ k → k < from + n → In (f k) (values f from n)
unfolding In
value_in f from zero k le lt = absurd (omega (arith, le, lt))
value_in f from (suc n) k le lt = elim (cases_eq k from) [
  | inl e ↦ inl (ap f e)
  | inr other ↦ inr (value_in f (from + 1) n k (omega (arith, le, other)) (omega (arith, lt)))
]

distinct_values : (f : ℕ → ℕ) (from n : ℕ) → ((i j : ℕ) → i < from + n → j < from + n → f i ≡ f j → i ≡ j) → Distinct (values f from n)
unfolding Distinct
distinct_values f from zero apart = tt
distinct_values f from (suc n) apart = (
  λ is. let at = in_values f (from + 1) n (f from) is in let same : from ≡ at.0 = apart from at.0 (omega arith) (omega (arith, at.2)) at.3 in omega (arith, same, at.1),
  distinct_values f (from + 1) n (λ i j lt_i lt_j e. apart i j (omega (arith, lt_i)) (omega (arith, lt_j)) e),
)

-- ---- the blocks that nodes name

is_needed : (blocks place size pointer : ℕ) → place < size → IsPointer blocks (ltb place size) pointer → IsForFiles blocks pointer
is_needed blocks place size pointer lt is = subst (λ (b : Bool). IsPointer blocks b pointer) (lt-ltb place size lt) is

-- the way to a block of bytes: none to the first ten, and through a run of pointers to every other
pub way_within : (index : ℕ) → index < 10 → way_to index ≡ None
way_within index lt = cond-true (ltb index 10) _ _ (lt-ltb index 10 lt)

pub way_behind : (index : ℕ) → 10 ≤ index → way_to index ≡ Some (record { block = block_of_run (run_of index); at = (index - 10) % 256 })
way_behind index past = cond-false (ltb index 10) _ _ (le-ltb index 10 past)

-- two runs have one block only where they are one
pub same_run : (one other : ℕ) → block_of_run one ≡ block_of_run other → one ≡ other
same_run zero zero same = refl
same_run zero (suc run) same = absurd (omega (arith, same))
same_run (suc run) zero same = absurd (omega (arith, same))
same_run (suc one) (suc other) same = omega (arith, same)

-- two blocks behind the first ten have one way only where they are one
pub same_way : (one other : ℕ) → 10 ≤ one → 10 ≤ other → way_to one ≡ way_to other → one ≡ other
same_way one other past also same =
    let a : Way = record { block = block_of_run (run_of one); at = (one - 10) % 256 } in
    let b : Way = record { block = block_of_run (run_of other); at = (other - 10) % 256 } in
    let both = some_ways a b (sym (way_behind one past) ∙ same ∙ way_behind other also) in
    omega (arith, past, also, both.1, same_run (run_of one) (run_of other) both.0)
  where
    some_ways : (a b : Way) → Some a ≡ Some b → (a.block ≡ b.block) × (a.at ≡ b.at)
    some_ways a b e = let same : a ≡ b = cc in (ap (λ (w : Way). w.block) same, ap (λ (w : Way). w.at) same)

-- where a pointer of a run leads
pub leads_behind : (run at : ℕ) → leads_to (block_of_run run) at ≡ 10 + 256 * run + at
leads_behind zero at = omega arith
leads_behind (suc run) at = omega arith

-- a node has the block of a run just where it has a block of bytes in it
pub has_run : (size run : ℕ) → 10 + 256 * run < data_blocks size → HasPlace size (Pointers (block_of_run run))
has_run size zero large = omega (arith, large)
has_run size (suc run) large = omega (arith, large)

pub run_needed : (size run : ℕ) → HasPlace size (Pointers (block_of_run run)) → 10 + 256 * run < data_blocks size
run_needed size zero has = omega (arith, has)
run_needed size (suc run) has = omega (arith, has)

pub has_way : (size index : ℕ) → 10 ≤ index → index < data_blocks size → HasPlace size (Pointers (block_of_run (run_of index)))
has_way size index past lt = has_run size (run_of index) (omega (arith, past, lt))

-- and where the double block names one it has that one too
pub has_double : (size block : ℕ) → HasPlace size (Pointers (suc (suc block))) → HasPlace size (Pointers 1)
has_double size block has = omega (arith, has)

pub double_needed : (size : ℕ) → HasPlace size (Pointers 1) → 266 < data_blocks size
double_needed size has = omega (arith, has)

pub direct_at : (disk : List (List ℕ)) (inode : Inode) (index : ℕ) → index < 10 → named_at disk inode (Data index) ≡ get_or inode.direct index 0
direct_at disk inode index lt = ap (led_to disk inode index) (way_within index lt)

pub behind_at : (disk : List (List ℕ)) (inode : Inode) (index : ℕ) → 10 ≤ index
    → named_at disk inode (Data index) ≡ pointer_at (block_bytes disk (pointer_block disk inode (block_of_run (run_of index)))) ((index - 10) % 256)
behind_at disk inode index past = ap (led_to disk inode index) (way_behind index past)

-- the block of bytes at a place of a run
pub in_run : (disk : List (List ℕ)) (inode : Inode) (run at : ℕ) → at < 256 → named_at disk inode (Data (10 + 256 * run + at)) ≡ pointer_at (block_bytes disk (pointer_block disk inode (block_of_run run))) at
in_run disk inode run at lt =
    let index : ℕ = 10 + 256 * run + at in
    let here : run_of index ≡ run = omega (arith, lt) in
    let there : (index - 10) % 256 ≡ at = omega (arith, lt) in
    behind_at disk inode index (omega arith) ∙ ap (λ (r : ℕ). pointer_at (block_bytes disk (pointer_block disk inode (block_of_run r))) ((index - 10) % 256)) here
    ∙ ap (pointer_at (block_bytes disk (pointer_block disk inode (block_of_run run)))) there

-- what a node names goes by its pointers alone
same_pointers : (disk : List (List ℕ)) (old new : Inode) → new.indirect ≡ old.indirect → new.double ≡ old.double → (block : ℕ) → pointer_block disk new block ≡ pointer_block disk old block
same_pointers disk old new indirect double zero = indirect
same_pointers disk old new indirect double (suc zero) = double
same_pointers disk old new indirect double (suc (suc block)) = ap (λ (n : ℕ). pointer_at (block_bytes disk n) block) double

pub same_names : (disk : List (List ℕ)) (old new : Inode) → new.direct ≡ old.direct → new.indirect ≡ old.indirect → new.double ≡ old.double → (place : Place) → named_at disk new place ≡ named_at disk old place
same_names disk old new direct indirect double (Data index) = elim (cases_lt index 10) [
  | inl first ↦ direct_at disk new index first ∙ ap (λ (l : List ℕ). get_or l index 0) direct ∙ sym (direct_at disk old index first)
  | inr past ↦
      behind_at disk new index past
      ∙ ap (λ (n : ℕ). pointer_at (block_bytes disk n) ((index - 10) % 256)) (same_pointers disk old new indirect double (block_of_run (run_of index)))
      ∙ sym (behind_at disk old index past)
]
same_names disk old new direct indirect double (Pointers block) = same_pointers disk old new indirect double block

-- and by the bytes of its blocks of pointers
abbrev PointersStay : List (List ℕ) → List (List ℕ) → Inode → Type 0
PointersStay before after inode = (block : ℕ) → HasPlace inode.size (Pointers block) → block_bytes after (pointer_block before inode block) ≡ block_bytes before (pointer_block before inode block)

pointers_stay : (before after : List (List ℕ)) (inode : Inode) → PointersStay before after inode → (block : ℕ) → HasPlace inode.size (Pointers block) → pointer_block after inode block ≡ pointer_block before inode block
pointers_stay before after inode stay zero has = refl
pointers_stay before after inode stay (suc zero) has = refl
pointers_stay before after inode stay (suc (suc block)) has = ap (λ (bytes : List ℕ). pointer_at bytes block) (stay 1 (has_double inode.size block has))

pub names_stay : (before after : List (List ℕ)) (inode : Inode) → PointersStay before after inode → (place : Place) → HasPlace inode.size place → named_at after inode place ≡ named_at before inode place
names_stay before after inode stay (Data index) lt = elim (cases_lt index 10) [
  | inl first ↦ direct_at after inode index first ∙ sym (direct_at before inode index first)
  | inr past ↦
      let block : ℕ = block_of_run (run_of index) in
      let has : HasPlace inode.size (Pointers block) = has_way inode.size index past lt in
      behind_at after inode index past
      ∙ ap (λ (n : ℕ). pointer_at (block_bytes after n) ((index - 10) % 256)) (pointers_stay before after inode stay block has)
      ∙ ap (λ (bytes : List ℕ). pointer_at bytes ((index - 10) % 256)) (stay block has)
      ∙ sym (behind_at before inode index past)
]
names_stay before after inode stay (Pointers block) has = pointers_stay before after inode stay block has

-- a pointer that a size needs, as a function of where it leads
needed_at : (blocks size block at pointer : ℕ) → leads_to block at * block_size < size → IsPointer blocks (needs_pointer size block at) pointer → IsForFiles blocks pointer
needed_at blocks size block at pointer lt is = is_needed blocks (leads_to block at * block_size) size pointer lt is

-- what a node names is a block for files
pub named_is_for_files : (disk : List (List ℕ)) → Sound disk → (node : ℕ) (inode : Inode) (place : Place) → HasInode disk node inode → HasPlace inode.size place → IsForFiles (length disk) (named_at disk inode place)
named_is_for_files disk sound node inode (Data index) has lt =
    elim (cases_lt index 10) [
      | inl first ↦
          subst (IsForFiles (length disk)) (sym (direct_at disk inode index first)) (is_needed (length disk) (index * block_size) inode.size (get_or inode.direct index 0) (omega (arith, lt)) (has.valid.pointers.direct index first))
      | inr past ↦
          let block : ℕ = block_of_run (run_of index) in
          let at : ℕ = (index - 10) % 256 in
          let leads : leads_to block at ≡ index = leads_behind (run_of index) at ∙ omega (arith, past) in
          let is = sound.pointers node inode block at has (has_way inode.size index past lt) (omega arith) in
          subst (IsForFiles (length disk)) (sym (behind_at disk inode index past)) (
          needed_at (length disk) inode.size block at (pointer_at (block_bytes disk (pointer_block disk inode block)) at) (subst (λ (n : ℕ). n * block_size < inode.size) (sym leads) (omega (arith, lt))) is
          )
    ]
named_is_for_files disk sound node inode (Pointers zero) has lt = is_needed (length disk) (10 * block_size) inode.size inode.indirect (omega (arith, lt)) has.valid.pointers.indirect
named_is_for_files disk sound node inode (Pointers (suc zero)) has lt =
    is_needed (length disk) (266 * block_size) inode.size inode.double (omega (arith, double_needed inode.size lt)) has.valid.pointers.double
named_is_for_files disk sound node inode (Pointers (suc (suc block))) has lt =
    let needed : 10 + 256 * suc block < data_blocks inode.size = run_needed inode.size (suc block) lt in
    let within : block < 256 = omega (arith, needed, has.valid.kind.size) in
    needed_at (length disk) inode.size 1 block (pointer_at (block_bytes disk inode.double) block) (omega (arith, needed)) (sound.pointers node inode 1 block has (has_double inode.size block lt) within)

pub is_for_files : (disk : List (List ℕ)) (number : ℕ) → Sound disk → IsNamed disk number → IsForFiles (length disk) number
is_for_files disk number sound named = subst (IsForFiles (length disk)) (sym named.same) (named_is_for_files disk sound named.node named.inode named.place named.has named.within)

-- the places of a node of this size one after another, those of its bytes first
abbrev nth_place : ℕ → ℕ → Place
nth_place size k = cond (ltb k (data_blocks size)) (Data k) (Pointers (k - data_blocks size))

front_place : (size k : ℕ) → k < data_blocks size → nth_place size k ≡ Data k
front_place size k lt = cond-true (ltb k (data_blocks size)) _ _ (lt-ltb k (data_blocks size) lt)

last_place : (size k : ℕ) → data_blocks size ≤ k → nth_place size k ≡ Pointers (k - data_blocks size)
last_place size k le = cond-false (ltb k (data_blocks size)) _ _ (le-ltb k (data_blocks size) le)

has_nth : (size k : ℕ) → k < blocks_of size → HasPlace size (nth_place size k)
has_nth size k lt = elim (cases_lt k (data_blocks size)) [
  | inl front ↦ subst (HasPlace size) (sym (front_place size k front)) front
  | inr behind ↦ subst (HasPlace size) (sym (last_place size k behind)) (omega (arith, lt, behind))
]

-- the number of a place among them
abbrev place_number : ℕ → Place → ℕ
place_number size (Data index) = index
place_number size (Pointers block) = data_blocks size + block

number_within : (size : ℕ) (place : Place) → HasPlace size place → place_number size place < blocks_of size
number_within size (Data index) lt = omega (arith, lt)
number_within size (Pointers block) lt = omega (arith, lt)

nth_number : (size : ℕ) (place : Place) → HasPlace size place → nth_place size (place_number size place) ≡ place
nth_number size (Data index) lt = front_place size index lt
nth_number size (Pointers block) lt =
    let back : data_blocks size + block - data_blocks size ≡ block = omega arith in last_place size (data_blocks size + block) (omega arith) ∙ ap Pointers back

number_nth : (size k : ℕ) → k < blocks_of size → place_number size (nth_place size k) ≡ k
number_nth size k lt = elim (cases_lt k (data_blocks size)) [
  | inl front ↦ ap (place_number size) (front_place size k front)
  | inr behind ↦ (let there : data_blocks size + (k - data_blocks size) ≡ k = omega (arith, behind) in ap (place_number size) (last_place size k behind) ∙ there)
]

abbrev nth_named : List (List ℕ) → Inode → ℕ → ℕ
nth_named disk inode k = named_at disk inode (nth_place inode.size k)

abbrev named_by : List (List ℕ) → Inode → List ℕ
named_by disk inode = values (nth_named disk inode) 0 (blocks_of inode.size)

-- all that nodes name, node by node
abbrev all_named : List (List ℕ) → List Inode → List ℕ
all_named disk inodes = flat_map (named_by disk) inodes

length-all_named : (disk : List (List ℕ)) (inodes : List Inode) → length (all_named disk inodes) ≡ sum_by (λ (inode : Inode). blocks_of inode.size) inodes
length-all_named disk [] = refl
length-all_named disk (inode ∷ inodes) =
    omega (
      arith,
      ap length (flat_map-cons (named_by disk) inode inodes),
      length-append (named_by disk inode) (all_named disk inodes),
      length-map-range_with_len (nth_named disk inode) 0 (blocks_of inode.size),
      length-all_named disk inodes,
      sum_by-cons (λ (i : Inode). blocks_of i.size) inode inodes,
    )

-- the nodes from one on have these inodes
abbrev Have : List (List ℕ) → ℕ → List Inode → Type 0
Have disk from inodes = (place : ℕ) (none : Inode) → place < length inodes → HasInode disk (from + place) (get_or inodes place none)

rest_have : (disk : List (List ℕ)) (from : ℕ) (inode : Inode) (inodes : List Inode) → Have disk from (inode ∷ inodes) → Have disk (from + 1) inodes
rest_have disk from inode inodes have = λ place none lt.
    subst (λ (node : ℕ). HasInode disk node (get_or inodes place none)) (let e : from + suc place ≡ from + 1 + place = omega arith in e) (have (suc place) none (omega (arith, lt)))

-- what is among all that is named is named by one of them
named_somewhere : (disk : List (List ℕ)) (from : ℕ) (inodes : List Inode) (number : ℕ) → Have disk from inodes → In number (all_named disk inodes)
    → (node : ℕ) × (inode : Inode) × (place : Place) × (from ≤ node) × HasInode disk node inode × HasPlace inode.size place × (number ≡ named_at disk inode place)
unfolding In
named_somewhere disk from [] number have is = absurd is
named_somewhere disk from (inode ∷ inodes) number have is =
    elim (in_append number (named_by disk inode) (all_named disk inodes) is) [
      | inl here ↦
          let at = in_values (nth_named disk inode) 0 (blocks_of inode.size) number here in
          (from, inode, nth_place inode.size at.0, omega arith, subst (λ (n : ℕ). HasInode disk n inode) (let e : from + 0 ≡ from = omega arith in e) (have 0 inode (omega arith)), has_nth inode.size at.0 (omega (arith, at.2)), at.3)
      | inr later ↦
          let at = named_somewhere disk (from + 1) inodes number (rest_have disk from inode inodes have) later in
          (at.0, at.1, at.2, omega (arith, at.3), at.4, at.5, at.6)
    ]

named_among : (disk : List (List ℕ)) (inodes : List Inode) (index : ℕ) (place : Place) (none : Inode) → index < length inodes → HasPlace (get_or inodes index none).size place
    → In (named_at disk (get_or inodes index none) place) (all_named disk inodes)
named_among disk [] index place none lt within = absurd (omega (arith, lt))
named_among disk (inode ∷ inodes) zero place none lt within =
    let number : ℕ = place_number inode.size place in
    let is : In (nth_named disk inode number) (named_by disk inode) = value_in (nth_named disk inode) 0 (blocks_of inode.size) number (omega arith) (omega (arith, number_within inode.size place within)) in
    in_left (named_at disk inode place) (named_by disk inode) (all_named disk inodes) (subst (λ (p : Place). In (named_at disk inode p) (named_by disk inode)) (nth_number inode.size place within) is)
named_among disk (inode ∷ inodes) (suc index) place none lt within = in_right _ (named_by disk inode) (all_named disk inodes) (named_among disk inodes index place none (omega (arith, lt)) within)

distinct_named : (disk : List (List ℕ)) → Sound disk → (from : ℕ) (inodes : List Inode) → Have disk from inodes → Distinct (all_named disk inodes)
unfolding Distinct
distinct_named disk sound from [] have = tt
distinct_named disk sound from (inode ∷ inodes) have =
    let this : HasInode disk (from + 0) inode = have 0 inode (omega arith) in
    let apart : (i j : ℕ) → i < blocks_of inode.size → j < blocks_of inode.size → nth_named disk inode i ≡ nth_named disk inode j → i ≡ j = λ i j at_i at_j same.
    let one_place = (sound.once (from + 0) (from + 0) inode inode (nth_place inode.size i) (nth_place inode.size j) this this (has_nth inode.size i at_i) (has_nth inode.size j at_j) same).1 in
    sym (number_nth inode.size i at_i) ∙ ap (place_number inode.size) one_place ∙ number_nth inode.size j at_j
    in
    let own : Distinct (named_by disk inode) = distinct_values (nth_named disk inode) 0 (blocks_of inode.size) (λ i j at_i at_j same. apart i j (omega (arith, at_i)) (omega (arith, at_j)) same) in
    let others : Distinct (all_named disk inodes) = distinct_named disk sound (from + 1) inodes (rest_have disk from inode inodes have) in
    distinct_append (named_by disk inode) (all_named disk inodes) own others (
    λ x here later.
    let a = in_values (nth_named disk inode) 0 (blocks_of inode.size) x here in
    let b = named_somewhere disk (from + 1) inodes x (rest_have disk from inode inodes have) later in
    let same = (sound.once (from + 0) b.0 inode b.1 (nth_place inode.size a.0) b.2 this b.4 (has_nth inode.size a.0 (omega (arith, a.2))) b.5 (sym a.3 ∙ b.6)).0 in
    omega (arith, same, b.3)
    )

-- ---- the free blocks

-- the inode of a node stands at its place in the table
pub in_table : (disk : List (List ℕ)) (inodes : List Inode) → IsTable disk inodes → (node : ℕ) (inode : Inode) (none : Inode) → HasInode disk node inode
    → (node - 1 < length inodes) × (inode ≡ get_or inodes (node - 1) none)
in_table disk inodes table node inode none has =
    let within : node - 1 < length inodes = omega (arith, has.number.0, has.number.1, table.count) in
    let same_node : node - 1 + 1 ≡ node = omega (arith, has.number.0) in
    let at : HasInode disk node (get_or inodes (node - 1) none) = subst (λ (n : ℕ). HasInode disk n (get_or inodes (node - 1) none)) same_node (table.each (node - 1) none within) in
    (within, one_inode disk node inode (get_or inodes (node - 1) none) has at)

table_have : (disk : List (List ℕ)) (inodes : List Inode) → IsTable disk inodes → Have disk 1 inodes
table_have disk inodes table = λ place none lt. subst (λ (n : ℕ). HasInode disk n (get_or inodes place none)) (let e : place + 1 ≡ 1 + place = omega arith in e) (table.each place none lt)

-- the map and the table of inodes, and behind them what nodes name
abbrev used : List (List ℕ) → List Inode → List ℕ
used disk inodes = values (λ k. k) 0 (table_end (length disk) + 1) ++ all_named disk inodes

abbrev is_used : List (List ℕ) → ℕ → Bool
is_used disk number = eqb (map_bit disk number) 1

distinct_used : (disk : List (List ℕ)) (inodes : List Inode) → Sound disk → IsTable disk inodes → Distinct (used disk inodes)
distinct_used disk inodes sound table =
    let first : ℕ = table_end (length disk) + 1 in
    distinct_append (values (λ k. k) 0 first) (all_named disk inodes) (distinct_values (λ k. k) 0 first (λ i j at_i at_j same. same)) (distinct_named disk sound 1 inodes (table_have disk inodes table)) (
    λ x here there.
    let a = in_values (λ k. k) 0 first x here in
    let b = named_somewhere disk 1 inodes x (table_have disk inodes table) there in
    let for_files = named_is_for_files disk sound b.0 b.1 b.2 b.4 b.5 in
    omega (arith, a.2, a.3, b.6, for_files.0)
    )

used_are_marked : (disk : List (List ℕ)) (inodes : List Inode) → Sound disk → IsTable disk inodes → 0 < length disk → (number : ℕ) → In number (used disk inodes) → (number < length disk) × (is_used disk number ≡ true)
used_are_marked disk inodes sound table some number is =
    let first : ℕ = table_end (length disk) + 1 in
    elim (in_append number (values (λ k. k) 0 first) (all_named disk inodes) is) [
      | inl here ↦
          let a = in_values (λ k. k) 0 first number here in
          let within : number < length disk = omega (arith, a.2, a.3, some) in
          (within, eq-eqb (map_bit disk number) 1 ((sound.map number within).1 (inl (omega (arith, a.2, a.3)))))
      | inr there ↦
          let b = named_somewhere disk 1 inodes number (table_have disk inodes table) there in
          let for_files = named_is_for_files disk sound b.0 b.1 b.2 b.4 b.5 in
          let within : number < length disk = omega (arith, b.6, for_files.1) in
          let named : IsNamed disk number = record { node = b.0; inode = b.1; place = b.2; has = b.4; within = b.5; same = b.6 } in
          (within, eq-eqb (map_bit disk number) 1 ((sound.map number within).1 (inr named)))
    ]

marked_are_used : (disk : List (List ℕ)) (inodes : List Inode) → Sound disk → IsTable disk inodes → (number : ℕ) → number < length disk → is_used disk number ≡ true → In number (used disk inodes)
marked_are_used disk inodes sound table number within is =
    let first : ℕ = table_end (length disk) + 1 in
    elim ((sound.map number within).0 (eqb-true (map_bit disk number) 1 is)) [
      | inl low ↦ in_left number (values (λ k. k) 0 first) (all_named disk inodes) (value_in (λ k. k) 0 first number (omega arith) (omega (arith, low)))
      | inr named ↦
          let at = in_table disk inodes table named.node named.inode named.inode named.has in
          let lt : HasPlace (get_or inodes (named.node - 1) named.inode).size named.place = subst (λ (i : Inode). HasPlace i.size named.place) at.1 named.within in
          let among = named_among disk inodes (named.node - 1) named.place named.inode at.0 lt in
          let same : named_at disk (get_or inodes (named.node - 1) named.inode) named.place ≡ number = ap (λ (i : Inode). named_at disk i named.place) (sym at.1) ∙ sym named.same in
          in_right number (values (λ k. k) 0 first) (all_named disk inodes) (subst (λ (n : ℕ). In n (all_named disk inodes)) same among)
    ]

how_many_used : (disk : List (List ℕ)) (inodes : List Inode) → Sound disk → IsTable disk inodes → 0 < length disk
    → numbers (is_used disk) 0 (length disk) ≡ table_end (length disk) + 1 + sum_by (λ (inode : Inode). blocks_of inode.size) inodes
how_many_used disk inodes sound table some =
    let first : ℕ = table_end (length disk) + 1 in
    let many = members (used disk inodes) (is_used disk) (length disk) (distinct_used disk inodes sound table) (used_are_marked disk inodes sound table some) (marked_are_used disk inodes sound table) in
    many ∙ length-append (values (λ k. k) 0 first) (all_named disk inodes) ∙ ap (λ (n : ℕ). n + length (all_named disk inodes)) (length-map-range_with_len (λ k. k) 0 first) ∙ ap (λ (n : ℕ). first + n) (length-all_named disk inodes)

pub used_and_free : (disk : List (List ℕ)) (inodes : List Inode) → Sound disk → IsTable disk inodes
    → free_in_map disk + (table_end (length disk) + 1 + sum_by (λ (inode : Inode). blocks_of inode.size) inodes) ≡ length disk
used_and_free disk inodes sound table =
    omega (arith, passing_and_others (is_used disk) 0 (length disk), how_many_used disk inodes sound table (omega (arith, sound.size.0)))

pub how_many_free : (disk : List (List ℕ)) (inodes : List Inode) → Sound disk → IsTable disk inodes → free_in_map disk ≡ free_blocks (length disk) inodes
how_many_free disk inodes sound table = omega (arith, used_and_free disk inodes sound table)

-- ---- the table

tables : (disk : List (List ℕ)) → Sound disk → (n : ℕ) → n ≤ table_nodes (length disk) → (inodes : List Inode) × (length inodes ≡ n) × Have disk 1 inodes
tables disk sound zero le = ([], refl, λ place none lt. absurd (omega (arith, lt)))
tables disk sound (suc n) le =
    let before = tables disk sound n (omega (arith, le)) in
    let next = sound.table (1 + n) (omega arith) (omega (arith, le)) in (
      before.0 ++ next.0 ∷ [],
      omega (arith, length-append before.0 (next.0 ∷ []), before.1),
      (
          λ place none lt.
          elim (cases_lt place n) [
            | inl front ↦ subst (λ (i : Inode). HasInode disk (1 + place) i) (sym (get_or_append_left before.0 (next.0 ∷ []) none place (omega (arith, front, before.1)))) (before.2 place none (omega (arith, front, before.1)))
            | inr end ↦
                let last : place ≡ n = omega (arith, end, lt, length-append before.0 (next.0 ∷ []), before.1) in
                let this : get_or (before.0 ++ next.0 ∷ []) place none ≡ next.0 = get_or_at before.0 next.0 [] none place (omega (arith, before.1, last)) in
                subst (λ (i : Inode). HasInode disk (1 + place) i) (sym this) (subst (λ (k : ℕ). HasInode disk (1 + k) next.0) (sym last) next.1)
          ]
          ),
    )

pub has_table : (disk : List (List ℕ)) → Sound disk → (inodes : List Inode) × IsTable disk inodes
has_table disk sound =
    let all = tables disk sound (table_nodes (length disk)) (omega arith) in
    (all.0, record { count = all.1; each = λ place none lt. subst (λ (n : ℕ). HasInode disk n (get_or all.0 place none)) (let e : 1 + place ≡ place + 1 = omega arith in e) (all.2 place none lt) })

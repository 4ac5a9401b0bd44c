-- The numbers that a process has in its Proc and in its Leaves: what stands at one, how they change at one, and that nothing of them
-- hangs on other Leaves.
use Rattle.std.proofs.Common.{◌≡◌, ◌≢◌, ◌⊎◌, ℕ, zero, suc, ◌+◌, ◌-◌, ◌*◌, ◌/◌, ◌%◌, ◌<◌, ◌≤◌, Bool, cond, List, [], ◌∷◌, ◌++◌, map, length, get_or, set, replicate, count_by, sum_by, Option, Some, None, refl, sym, ap, ◌∙◌, inl, inr, subst, arith, Contains, length-append, ext_get_or}
use Rattle.std.proofs.lemmas.Bool.{cases_eq}
use Rattle.std.proofs.lemmas.List.{append-nil, get_or_append_left, get_or-append_right, set-append_left, set-append_right, get_or-replicate, get_or_past, get_or-map, get_or-set_same, get_or-set_other, length-replicate, length-set, length-map}
use Rattle.std.proofs.lemmas.List.Sums.{sum_by-append, sum_by-cons}
use Rattle.kheap_slabs.specs.Objects.{object}
use Rattle.kheap_slabs.specs.declared.objects.Descriptor.{Descriptor}
use Rattle.kheap_slabs.specs.declared.objects.Leaf.{Leaf}
use Rattle.kheap_slabs.specs.Keys.{Apart}
use Rattle.kheap_slabs.specs.Leaves.{group_of, joined, no_row, numbers_by, place_of, row_at, row_of}
use Rattle.kheap_slabs.specs.Outside.{KeepsOutside}
use Rattle.kheap_slabs.specs.Spaces.{keys_in}
use Rattle.kheap_laws.proofs.KeyPlaces.{key_there}

-- ---- lists of 32, one behind the other

module _ {X : Type 0} where
  -- each of these rows has 32
  abbrev pub AreRows : List (List X) → Type 0
  AreRows [] = Unit {0}
  AreRows (row ∷ rows) = (length row ≡ 32) × AreRows rows

  pub rows-length : (rows : List (List X)) → AreRows rows → length (joined rows) ≡ 32 * length rows
  rows-length [] are = refl
  rows-length (row ∷ rows) are =
      let behind = rows-length rows are.1 in
      let here = are.0 in
      let both = length-append row (joined rows) in
      omega (arith, behind, here, both)

  -- what stands in one
  pub rows-at : (rows : List (List X)) (g k : ℕ) (d : X) → AreRows rows → g < length rows → k < 32 → get_or (joined rows) (32 * g + k) d ≡ get_or (get_or rows g []) k d
  rows-at [] g k d are within below = absurd (omega (arith, within))
  rows-at (row ∷ rows) zero k d are within below =
      let at : 32 * zero + k ≡ k = omega arith in
      ap (λ i. get_or (row ++ joined rows) i d) at ∙ get_or_append_left row (joined rows) d k (let here = are.0 in omega (arith, here))
  rows-at (row ∷ rows) (suc g) k d are within below =
      let at : 32 * suc g + k - 32 ≡ 32 * g + k = omega arith in
      get_or-append_right row (joined rows) 32 (32 * suc g + k) d are.0 (omega arith)
      ∙ (ap (λ i. get_or (joined rows) i d) at ∙ rows-at rows g k d are.1 (omega arith) below)

  -- a change in one
  pub rows-set : (rows : List (List X)) (g k : ℕ) (x : X) → AreRows rows → g < length rows → k < 32
      → set (joined rows) (32 * g + k) x ≡ joined (set rows g (set (get_or rows g []) k x))
  rows-set [] g k x are within below = absurd (omega (arith, within))
  rows-set (row ∷ rows) zero k x are within below =
      let at : 32 * zero + k ≡ k = omega arith in
      ap (λ i. set (row ++ joined rows) i x) at ∙ set-append_left row (joined rows) k x (let here = are.0 in omega (arith, here))
  rows-set (row ∷ rows) (suc g) k x are within below =
      let at : 32 * suc g + k - 32 ≡ 32 * g + k = omega arith in
      set-append_right row (joined rows) 32 (32 * suc g + k) x are.0 (omega arith)
      ∙ (ap (λ i. row ++ set (joined rows) i x) at ∙ ap (λ xs. row ++ xs) (rows-set rows g k x are.1 (omega arith) below))

-- ---- the rows that keys name

-- all Leaves of a heap are as long as their type says
abbrev pub AreLong : List (Option Leaf) → Type 0
AreLong leaves = (key : ℕ) (leaf : Leaf) → object leaves key ≡ Some leaf → length leaf.descriptors ≡ 32

pub row-length : (leaves : List (Option Leaf)) → AreLong leaves → (key : Option ℕ) → length (row_at leaves key) ≡ 32
row-length leaves long None = length-replicate {A = Option Descriptor} 32 None
row-length leaves long (Some key) = by_case (object leaves key) refl
  where
    by_case : (found : Option Leaf) → object leaves key ≡ found → length (row_of found) ≡ 32
    by_case None is = length-replicate {A = Option Descriptor} 32 None
    by_case (Some leaf) is = long key leaf is

rows_are : (leaves : List (Option Leaf)) → AreLong leaves → (keys : List (Option ℕ)) → AreRows (map (row_at leaves) keys)
rows_are leaves long [] = tt
rows_are leaves long (key ∷ keys) = (row-length leaves long key, rows_are leaves long keys)

-- what is in use is a Leaf's row
pub row-is : (leaves : List (Option Leaf)) (key : ℕ) (leaf : Leaf) → object leaves key ≡ Some leaf → row_at leaves (Some key) ≡ leaf.descriptors
row-is leaves key leaf is = ap row_of is

-- ---- all numbers

-- there are 128
pub numbers_by-length : (leaves : List (Option Leaf)) (first : List (Option Descriptor)) (keys : List (Option ℕ)) → AreLong leaves → length first ≡ 32 → length keys ≡ 3
    → length (numbers_by leaves first keys) ≡ 128
unfolding numbers_by
numbers_by-length leaves first keys long here three =
    let behind = rows-length (map (row_at leaves) keys) (rows_are leaves long keys) in
    let all = length-append first (joined (map (row_at leaves) keys)) in
    let many = length-map keys (row_at leaves) in
    omega (arith, behind, all, many, here, three)

-- what stands at one of the first
pub numbers_by-first : (leaves : List (Option Leaf)) (first : List (Option Descriptor)) (keys : List (Option ℕ)) (fd : ℕ) → length first ≡ 32 → fd < 32
    → get_or (numbers_by leaves first keys) fd None ≡ get_or first fd None
unfolding numbers_by
numbers_by-first leaves first keys fd here below = get_or_append_left first (joined (map (row_at leaves) keys)) None fd (omega (arith, here))

-- what stands at another, which is in the row of its Leaf
pub numbers_by-leaf : (leaves : List (Option Leaf)) (first : List (Option Descriptor)) (keys : List (Option ℕ)) (fd : ℕ)
    → AreLong leaves → length first ≡ 32 → length keys ≡ 3 → 32 ≤ fd → fd < 128
    → get_or (numbers_by leaves first keys) fd None ≡ get_or (row_at leaves (get_or keys (group_of fd) None)) (place_of fd) None
unfolding numbers_by
numbers_by-leaf leaves first keys fd long here three least most =
    let rows = map (row_at leaves) keys in
    let at : fd - 32 ≡ 32 * (fd / 32 - 1) + fd % 32 = omega arith in
    let many = length-map keys (row_at leaves) in
    let group : fd / 32 - 1 < length keys = omega (arith, three) in
    get_or-append_right first (joined rows) 32 fd None here least
    ∙ (ap (λ i. get_or (joined rows) i None) at
    ∙ (rows-at rows (fd / 32 - 1) (fd % 32) None (rows_are leaves long keys) (omega (arith, many, group)) (omega arith)
    ∙ ap (λ row. get_or row (fd % 32) None) (get_or-map (row_at leaves) keys (fd / 32 - 1) None [] group)))

-- one of the first is another
pub numbers_by-set_first : (leaves : List (Option Leaf)) (first : List (Option Descriptor)) (keys : List (Option ℕ)) (fd : ℕ) (x : Option Descriptor) → length first ≡ 32 → fd < 32
    → numbers_by leaves (set first fd x) keys ≡ set (numbers_by leaves first keys) fd x
unfolding numbers_by
numbers_by-set_first leaves first keys fd x here below = sym (set-append_left first (joined (map (row_at leaves) keys)) fd x (omega (arith, here)))

-- rows that differ at one place alone
rows_changed : (old new : List (Option Leaf)) (keys now : List (Option ℕ)) (g : ℕ) (row : List (Option Descriptor)) → g < length keys → length now ≡ length keys
    → row_at new (get_or now g None) ≡ row → ((i : ℕ) → i ≢ g → row_at new (get_or now i None) ≡ row_at old (get_or keys i None))
    → map (row_at new) now ≡ set (map (row_at old) keys) g row
rows_changed old new keys now g row within same here others =
    ext_get_or [] (map (row_at new) now) (set (map (row_at old) keys) g row)
    (length-map now (row_at new) ∙ (same ∙ sym (length-set (map (row_at old) keys) g row ∙ length-map keys (row_at old))))
    (λ i below. let inside : i < length now = subst (λ n. i < n) (length-map now (row_at new)) below in
    get_or-map (row_at new) now i None [] inside ∙ each i (subst (λ n. i < n) same inside) (cases_eq i g))
  where
    each : (i : ℕ) → i < length keys → (i ≡ g) ⊎ (i ≢ g) → row_at new (get_or now i None) ≡ get_or (set (map (row_at old) keys) g row) i []
    each i inside (inl is) =
        ap (λ j. row_at new (get_or now j None)) is
        ∙ (here ∙ sym (ap (λ j. get_or (set (map (row_at old) keys) g row) j []) is
        ∙ get_or-set_same (map (row_at old) keys) g row [] (subst (λ n. g < n) (sym (length-map keys (row_at old))) within)))
    each i inside (inr differs) =
        others i differs
        ∙ sym (get_or-set_other (map (row_at old) keys) g i row [] differs ∙ get_or-map (row_at old) keys i None [] inside)

-- one behind them is another, where the row of its Leaf is, and all other rows are as they were
pub numbers_by-set_row : (old new : List (Option Leaf)) (first : List (Option Descriptor)) (keys now : List (Option ℕ)) (fd : ℕ) (x : Option Descriptor)
    → AreLong old → length first ≡ 32 → length keys ≡ 3 → length now ≡ 3 → 32 ≤ fd → fd < 128
    → row_at new (get_or now (group_of fd) None) ≡ set (row_at old (get_or keys (group_of fd) None)) (place_of fd) x
    → ((i : ℕ) → i ≢ group_of fd → row_at new (get_or now i None) ≡ row_at old (get_or keys i None))
    → numbers_by new first now ≡ set (numbers_by old first keys) fd x
unfolding numbers_by
numbers_by-set_row old new first keys now fd x long here three also least most row others =
    let rows = map (row_at old) keys in
    let g = fd / 32 - 1 in
    let at : fd - 32 ≡ 32 * (fd / 32 - 1) + fd % 32 = omega arith in
    let many = length-map keys (row_at old) in
    let group : fd / 32 - 1 < length keys = omega (arith, three) in
    ap (λ all. first ++ joined all) (rows_changed old new keys now (fd / 32 - 1) _ group (also ∙ sym three) row others)
    ∙ (ap (λ r. first ++ joined (set rows (fd / 32 - 1) (set r (fd % 32) x))) (sym (get_or-map (row_at old) keys (fd / 32 - 1) None [] group))
    ∙ (ap (λ xs. first ++ xs) (sym (rows-set rows (fd / 32 - 1) (fd % 32) x (rows_are old long keys) (omega (arith, many, group)) (omega arith)))
    ∙ (ap (λ i. first ++ set (joined rows) i x) (sym at)
    ∙ sym (set-append_right first (joined rows) 32 fd x here least))))

-- ---- which Leaves they hang on

rows_same : (old new : List (Option Leaf)) (keys : List (Option ℕ)) → ((key : ℕ) → Contains (keys_in keys) key → object new key ≡ object old key)
    → map (row_at new) keys ≡ map (row_at old) keys
rows_same old new [] same = refl
rows_same old new (None ∷ keys) same = ap (λ rows. no_row ∷ rows) (rows_same old new keys same)
rows_same old new (Some key ∷ keys) same =
    ap (λ row. row ∷ map (row_at new) keys) (ap row_of (same key (key_there (Some key ∷ keys) 0 key refl)))
    ∙ ap (λ rows. row_at old (Some key) ∷ rows) (rows_same old new keys (λ k there. same k (later k there)))
  where
    later : (k : ℕ) → Contains (keys_in keys) k → Contains (keys_in (Some key ∷ keys)) k
    later k (at, within, is) = (suc at, omega (arith, within), is)

-- The numbers of a process are what they were where the Leaves are that it names, and so where those of others change.
pub numbers_by-same : (old new : List (Option Leaf)) (first : List (Option Descriptor)) (keys : List (Option ℕ)) → ((key : ℕ) → Contains (keys_in keys) key → object new key ≡ object old key)
    → numbers_by new first keys ≡ numbers_by old first keys
unfolding numbers_by
numbers_by-same old new first keys same = ap (λ rows. first ++ joined rows) (rows_same old new keys same)

pub numbers_by-stay : (old new : List (Option Leaf)) (changed : List ℕ) (first : List (Option Descriptor)) (keys : List (Option ℕ)) → KeepsOutside changed old new → Apart changed (keys_in keys)
    → numbers_by new first keys ≡ numbers_by old first keys
numbers_by-stay old new changed first keys kept apart =
    numbers_by-same old new first keys (λ key there. kept key (λ named. apart key named there))

-- ---- nothing is open

pub numbers_by-none : (leaves : List (Option Leaf)) → numbers_by leaves no_row (None ∷ None ∷ None ∷ []) ≡ replicate 128 None
unfolding numbers_by
numbers_by-none leaves = refl

-- ---- the three rows of Leaves, one by one

pub numbers_by-three : (leaves : List (Option Leaf)) (first : List (Option Descriptor)) (keys : List (Option ℕ)) → length keys ≡ 3
    → numbers_by leaves first keys ≡ first ++ (row_at leaves (get_or keys 0 None) ++ (row_at leaves (get_or keys 1 None) ++ row_at leaves (get_or keys 2 None)))
unfolding numbers_by
numbers_by-three leaves first [] three = absurd (omega (arith, three))
numbers_by-three leaves first (one ∷ []) three = absurd (omega (arith, three))
numbers_by-three leaves first (one ∷ two ∷ []) three = absurd (omega (arith, three))
numbers_by-three leaves first (one ∷ two ∷ last ∷ []) three =
    ap (λ end. first ++ (row_at leaves one ++ (row_at leaves two ++ end))) (append-nil (row_at leaves last))
numbers_by-three leaves first (one ∷ two ∷ last ∷ more ∷ keys) three = absurd (omega (arith, three))

-- ---- how many of them are such

module _ (p : Option Descriptor → Bool) where
  rows_count : (rows : List (List (Option Descriptor))) → count_by p (joined rows) ≡ sum_by (λ row. count_by p row) rows
  rows_count [] = refl
  rows_count (row ∷ rows) =
      sum_by-append (λ x. cond (p x) 1 0) row (joined rows)
      ∙ (ap (λ n. count_by p row + n) (rows_count rows) ∙ sym (sum_by-cons (λ (r : List (Option Descriptor)). count_by p r) row rows))

  rows_of_keys : (leaves : List (Option Leaf)) (keys : List (Option ℕ)) → sum_by (λ row. count_by p row) (map (row_at leaves) keys) ≡ sum_by (λ key. count_by p (row_at leaves key)) keys
  rows_of_keys leaves [] = refl
  rows_of_keys leaves (key ∷ keys) =
      sum_by-cons (λ (r : List (Option Descriptor)). count_by p r) (row_at leaves key) (map (row_at leaves) keys)
      ∙ (ap (λ n. count_by p (row_at leaves key) + n) (rows_of_keys leaves keys) ∙ sym (sum_by-cons (λ (k : Option ℕ). count_by p (row_at leaves k)) key keys))

  pub numbers_by-count : (leaves : List (Option Leaf)) (first : List (Option Descriptor)) (keys : List (Option ℕ))
      → count_by p (numbers_by leaves first keys) ≡ count_by p first + sum_by (λ key. count_by p (row_at leaves key)) keys
  unfolding numbers_by
  numbers_by-count leaves first keys =
      sum_by-append (λ x. cond (p x) 1 0) first (joined (map (row_at leaves) keys))
      ∙ ap (λ n. count_by p first + n) (rows_count (map (row_at leaves) keys) ∙ rows_of_keys leaves keys)

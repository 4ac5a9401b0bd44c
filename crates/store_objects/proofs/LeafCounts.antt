-- As many Leaves are in the heap as the machine says that its processes take.
use Rattle.std.proofs.Common.{◌≡◌, ℕ, zero, suc, ◌+◌, ◌<◌, ◌≤◌, true, cond, is_some, List, [], ◌∷◌, ◌++◌, length, take, drop, Option, None, Some, refl, ap, sym, ◌∙◌, arith, length-append}
use Rattle.std.specs.Prelude.{count_by, slice_index_or, sum_by}
use Rattle.std.specs.List.{list_any}
use Rattle.std.specs.Option.{option_map}
use Rattle.std.proofs.lemmas.List.{append_assoc, length-map, map-append}
use Rattle.std.proofs.lemmas.List.Sums.{sum_by-cons}
use Rattle.std.proofs.lemmas.Option.{unwrap_or-slice_get}
use Rattle.kheap_slabs.specs.Objects.{count}
use Rattle.kheap_slabs.specs.declared.objects.Descriptor.{Descriptor as HeldDescriptor}
use Rattle.kheap_slabs.specs.declared.objects.Leaf.{Leaf}
use Rattle.kheap_slabs.specs.declared.objects.Proc.{Proc}
use Rattle.kheap_slabs.specs.Heap.{Heap, IsWellFormed}
use Rattle.kheap_slabs.specs.Leaves.{OwnsLeaves, leaf_keys, numbers_by, row_at, row_of}
use Rattle.kheap_slabs.specs.Spaces.{keys_in}
use Rattle.kheap_slabs.proofs.ObjectLemmas.{object_of}
use Rattle.kheap_laws.proofs.KeyPlaces.{key_there}
use Rattle.kheap_laws.proofs.LeafLemmas.{AreLong, numbers_by-three, row-length}
use Rattle.page_space.proofs.NodeCounts.{count_of_keys}
use Rattle.open_laws.specs.Open.{descriptor_by, descriptors_by}
use Rattle.open_laws.specs.Placed.{Numbers}
use Rattle.posix_defs.specs.Account.{has_leaf, leaves_of, leaves_open}
use Rattle.posix_defs.specs.Files.Descriptors.{Descriptors, none_open}
use Rattle.posix_defs.specs.Files.State.{Files}
use Rattle.proc_table.specs.Procs.{numbers_in, proc_of}
use Rattle.proc_table.specs.Table.{TableView, processes}
use Rattle.proc_table.proofs.AccountLemmas.{pids_within}
use Rattle.proc_table.proofs.OwnLemmas.{all_weaker, rising_procs}
use Rattle.proc_numbers.specs.Having.{AreListed, HaveDescriptors, places_in}
use Rattle.proc_numbers.proofs.Listing.{found_by_pid}
use Rattle.proc_numbers.proofs.PlacedLeaves.{owns_placed}
use Rattle.store_objects.proofs.PidSums.{sum_by_pids, value}

-- ---- lists, one behind the other

module _ {X : Type 0} where
  drop_front : (front back : List X) (n : ℕ) → length front ≡ n → drop n (front ++ back) ≡ back
  drop_front [] back zero long = refl
  drop_front [] back (suc n) long = absurd (omega (arith, long))
  drop_front (x ∷ front) back zero long = absurd (omega (arith, long))
  drop_front (x ∷ front) back (suc n) long = drop_front front back n (omega (arith, long))

  take_front : (front back : List X) (n : ℕ) → length front ≡ n → take n (front ++ back) ≡ front
  take_front [] back zero long = refl
  take_front [] back (suc n) long = absurd (omega (arith, long))
  take_front (x ∷ front) back zero long = absurd (omega (arith, long))
  take_front (x ∷ front) back (suc n) long = ap (λ rest. x ∷ rest) (take_front front back n (omega (arith, long)))

  take_whole : (xs : List X) (n : ℕ) → length xs ≡ n → take n xs ≡ xs
  take_whole [] zero long = refl
  take_whole [] (suc n) long = absurd (omega (arith, long))
  take_whole (x ∷ xs) zero long = absurd (omega (arith, long))
  take_whole (x ∷ xs) (suc n) long = ap (λ rest. x ∷ rest) (take_whole xs n (omega (arith, long)))

-- ---- a row

any_mapped : (number : ℕ → ℕ) (row : List (Option HeldDescriptor)) → list_any is_some (descriptors_by number row) ≡ list_any is_some row
any_mapped number [] = refl
any_mapped number (None ∷ row) = any_mapped number row
any_mapped number (Some held ∷ row) = refl

any_filled : (row : List (Option HeldDescriptor)) → 0 < count_by is_some row → list_any is_some row ≡ true
any_filled [] some = absurd (let nothing : count_by (λ (o : Option HeldDescriptor). is_some o) [] ≡ 0 = refl in omega (arith, some, nothing))
any_filled (None ∷ row) some = any_filled row (let whole = sum_by-cons (λ (o : Option HeldDescriptor). cond (is_some o) 1 0) None row in omega (arith, some, whole))
any_filled (Some held ∷ row) some = refl

-- a Leaf that is there has a number open, and without one none is
row_any : (number : ℕ → ℕ) (leaves : List (Option Leaf)) (keys : List (Option ℕ)) (group : ℕ) → OwnsLeaves leaves keys
    → list_any is_some (descriptors_by number (row_at leaves (slice_index_or keys group None))) ≡ is_some (slice_index_or keys group None)
row_any number leaves keys group owns = any_mapped number (row_at leaves (slice_index_or keys group None)) ∙ by_key (slice_index_or keys group None) refl
  where
    by_key : (o : Option ℕ) → slice_index_or keys group None ≡ o → list_any is_some (row_at leaves (slice_index_or keys group None)) ≡ is_some (slice_index_or keys group None)
    by_key None is = ap (λ k. list_any is_some (row_at leaves k)) is ∙ sym (ap is_some is)
    by_key (Some key) is =
        let mine = key_there keys group key is in
        let it = object_of leaves key (owns.used key mine) in
        ap (λ k. list_any is_some (row_at leaves k)) is ∙ (ap (λ o. list_any is_some (row_of o)) it.1 ∙ any_filled it.0.descriptors (owns.filled key it.0 mine it.1)) ∙ sym (ap is_some is)

-- ---- one process

module _ (number : ℕ → ℕ) (leaves : List (Option Leaf)) (first : List (Option HeldDescriptor)) (keys : List (Option ℕ)) (all : AreLong leaves) (long : length first ≡ 32) (three : length keys ≡ 3)
    (owns : OwnsLeaves leaves keys) where
  abbrev row : ℕ → List (Option HeldDescriptor)
  row i = row_at leaves (slice_index_or keys i None)

  abbrev whole : Descriptors
  whole = descriptors_by number (numbers_by leaves first keys)

  abbrev by : List (Option HeldDescriptor) → Descriptors
  by xs = descriptors_by number xs

  parts : descriptors_by number (numbers_by leaves first keys) ≡ by first ++ (by (row 0) ++ (by (row 1) ++ by (row 2)))
  parts =
      ap (descriptors_by number) (numbers_by-three leaves first keys three)
      ∙ (map-append (option_map (descriptor_by number)) first (row 0 ++ (row 1 ++ row 2))
      ∙ (ap (λ rest. by first ++ rest) (map-append (option_map (descriptor_by number)) (row 0) (row 1 ++ row 2))
      ∙ ap (λ rest. by first ++ (by (row 0) ++ rest)) (map-append (option_map (descriptor_by number)) (row 1) (row 2))))

  first_long : length (by first) ≡ 32
  first_long = length-map first (option_map (descriptor_by number)) ∙ long

  row_long : (i : ℕ) → length (by (row i)) ≡ 32
  row_long i = length-map (row i) (option_map (descriptor_by number)) ∙ row-length leaves all (slice_index_or keys i None)

  one : has_leaf whole 32 ≡ is_some (slice_index_or keys 0 None)
  one =
      ap (λ d. list_any is_some (take 32 (drop 32 d))) parts
      ∙ (ap (λ d. list_any is_some (take 32 d)) (drop_front (by first) (by (row 0) ++ (by (row 1) ++ by (row 2))) 32 first_long)
      ∙ (ap (λ d. list_any is_some d) (take_front (by (row 0)) (by (row 1) ++ by (row 2)) 32 (row_long 0)) ∙ row_any number leaves keys 0 owns))

  two : has_leaf whole 64 ≡ is_some (slice_index_or keys 1 None)
  two =
      ap (λ d. list_any is_some (take 32 (drop 64 d))) (parts ∙ sym (append_assoc (by first) (by (row 0)) (by (row 1) ++ by (row 2))))
      ∙ (ap (λ d. list_any is_some (take 32 d))
      (drop_front (by first ++ by (row 0)) (by (row 1) ++ by (row 2)) 64 (let both = length-append (by first) (by (row 0)) in let a = first_long in let b = row_long 0 in omega (arith, both, a, b)))
      ∙ (ap (λ d. list_any is_some d) (take_front (by (row 1)) (by (row 2)) 32 (row_long 1)) ∙ row_any number leaves keys 1 owns))

  last : has_leaf whole 96 ≡ is_some (slice_index_or keys 2 None)
  last =
      ap (λ d. list_any is_some (take 32 (drop 96 d)))
      (parts ∙ (sym (append_assoc (by first) (by (row 0)) (by (row 1) ++ by (row 2))) ∙ sym (append_assoc (by first ++ by (row 0)) (by (row 1)) (by (row 2)))))
      ∙ (ap (λ d. list_any is_some (take 32 d))
      (drop_front ((by first ++ by (row 0)) ++ by (row 1)) (by (row 2)) 96
      (let outer = length-append (by first ++ by (row 0)) (by (row 1)) in let both = length-append (by first) (by (row 0)) in let a = first_long in let b = row_long 0 in let c = row_long 1 in omega (arith, outer, both, a, b, c)))
      ∙ (ap (λ d. list_any is_some d) (take_whole (by (row 2)) 32 (row_long 2)) ∙ row_any number leaves keys 2 owns))

  pub leaves_so : leaves_of whole ≡ length (keys_in keys)
  leaves_so =
      let a = sum_by-cons (λ from. cond {A = ℕ} (has_leaf whole from) 1 0) 32 (64 ∷ 96 ∷ []) in
      let b = sum_by-cons (λ from. cond {A = ℕ} (has_leaf whole from) 1 0) 64 (96 ∷ []) in
      let c = sum_by-cons (λ from. cond {A = ℕ} (has_leaf whole from) 1 0) 96 [] in
      let none : sum_by (λ from. cond {A = ℕ} (has_leaf whole from) 1 0) [] ≡ 0 = refl in
      let x : cond {A = ℕ} (has_leaf whole 32) 1 0 ≡ cond (is_some (slice_index_or keys 0 None)) 1 0 = ap (λ t. cond {A = ℕ} t 1 0) one in
      let y : cond {A = ℕ} (has_leaf whole 64) 1 0 ≡ cond (is_some (slice_index_or keys 1 None)) 1 0 = ap (λ t. cond {A = ℕ} t 1 0) two in
      let z : cond {A = ℕ} (has_leaf whole 96) 1 0 ≡ cond (is_some (slice_index_or keys 2 None)) 1 0 = ap (λ t. cond {A = ℕ} t 1 0) last in
      let many = as_many keys three in
      omega (arith, a, b, c, none, x, y, z, many)
    where
      key_first : (key : Option ℕ) (keys : List (Option ℕ)) → length (keys_in (key ∷ keys)) ≡ cond {A = ℕ} (is_some key) 1 0 + length (keys_in keys)
      key_first None keys = omega arith
      key_first (Some key) keys = omega arith

      as_many : (keys : List (Option ℕ)) → length keys ≡ 3
          → length (keys_in keys) ≡ cond {A = ℕ} (is_some (slice_index_or keys 0 None)) 1 0 + cond (is_some (slice_index_or keys 1 None)) 1 0 + cond (is_some (slice_index_or keys 2 None)) 1 0
      as_many [] three = absurd (omega (arith, three))
      as_many (p ∷ []) three = absurd (omega (arith, three))
      as_many (p ∷ q ∷ []) three = absurd (omega (arith, three))
      as_many (p ∷ q ∷ r ∷ []) three =
          let one = key_first p (q ∷ r ∷ []) in
          let two = key_first q (r ∷ []) in
          let last = key_first r [] in
          let none : length (keys_in []) ≡ 0 = refl in
          omega (arith, one, two, last, none)
      as_many (p ∷ q ∷ r ∷ more ∷ keys) three = absurd (omega (arith, three))

-- ---- all

length-leaf_keys : (procs : List Proc) → length (leaf_keys procs) ≡ sum_by (λ proc. length (keys_in proc.leaves)) procs
length-leaf_keys [] = refl
length-leaf_keys (proc ∷ procs) =
    let more = length-leaf_keys procs in
    let sum = sum_by-cons (λ (p : Proc). length (keys_in p.leaves)) proc procs in
    let both = length-append (keys_in proc.leaves) (leaf_keys procs) in
    omega (arith, more, sum, both)

pub leaves_are : (numbers : Numbers) (h : Heap) (kept : TableView) (files : Files) → IsWellFormed h → AreListed h kept → HaveDescriptors (numbers_in h) numbers.descs (processes h kept) kept.last files
    → count h.leaves ≡ leaves_open files
leaves_are numbers h kept files whole listed have =
    let procs = processes h kept in
    let made : length files.descriptors ≡ kept.last = have.made in
    let within = all_weaker (λ (p : Proc). (0 < p.pid) × (p.pid ≤ kept.last)) (λ p. p.pid ≤ 0 + length files.descriptors) procs
    (λ p both. (let l : p.pid ≤ kept.last = both.1 in omega (arith, l, made)))
    (pids_within h.procs kept.listed 0 kept.last listed.stored listed.rising) in
    count_of_keys h.leaves (leaf_keys procs) listed.leaves.keys ∙ length-leaf_keys procs
    ∙ sym (sum_by_pids leaves_of (λ proc. length (keys_in proc.leaves)) none_open files.descriptors 0 procs (rising_procs h.procs kept.listed 0 kept.last listed.stored listed.rising) within
    (λ i less.
    ap leaves_of (sym (unwrap_or-slice_get files.descriptors i none_open) ∙ have.each (suc i))
    ∙ by_proc (suc i) (proc_of procs (suc i)) refl
    ∙ ap (λ k. value (λ (proc : Proc). length (keys_in proc.leaves)) (proc_of procs k)) (let k : suc i ≡ 0 + 1 + i = omega arith in k)))
  where
    by_proc : (pid : ℕ) (o : Option Proc) → proc_of (processes h kept) pid ≡ o
        → leaves_of (descriptors_by numbers.descs (places_in (numbers_in h) (proc_of (processes h kept) pid))) ≡ value (λ (proc : Proc). length (keys_in proc.leaves)) (proc_of (processes h kept) pid)
    by_proc pid None is =
        ap (λ o. leaves_of (descriptors_by numbers.descs (places_in (numbers_in h) o))) is ∙ sym (ap (value (λ (proc : Proc). length (keys_in proc.leaves))) is)
    by_proc pid (Some proc) is =
        let at = found_by_pid h.procs kept.listed pid proc listed.stored is in
        ap (λ o. leaves_of (descriptors_by numbers.descs (places_in (numbers_in h) o))) is
        ∙ leaves_so numbers.descs h.leaves proc.descriptors proc.leaves whole.leaf_rows (whole.descriptors at.key proc at.there) (whole.leaves at.key proc at.there)
        (owns_placed h kept pid at.key proc listed at.named at.there)
        ∙ sym (ap (value (λ (proc : Proc). length (keys_in proc.leaves))) is)

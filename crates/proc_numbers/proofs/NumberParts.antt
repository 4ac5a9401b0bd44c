-- Where a process's number names a Desc, it is named in its Proc or in one of its Leaves, and the other way round.
use Rattle.std.proofs.Common.{◌≡◌, ℕ, zero, suc, ◌+◌, ◌<◌, cond, List, [], ◌∷◌, get_or, sum_by, Option, None, Some, is_some, refl, ap, ◌∙◌, subst, arith, inl, inr, Contains}
use Rattle.std.specs.Prelude.{count_by}
use Rattle.std.proofs.lemmas.List.Elements.{Contains-append_cases}
use Rattle.std.proofs.lemmas.List.Sums.{get_or-le-sum_by, sum_by-cons}
use Rattle.proc_table.proofs.AmongLemmas.{Contains-cons, Contains-cons_cases}
use Rattle.kheap_laws.proofs.KeyPlaces.{key_placed}
use Rattle.kheap_laws.proofs.LeafLemmas.{numbers_by-count}
use Rattle.kheap_slabs.specs.Heap.{Heap}
use Rattle.kheap_slabs.specs.Leaves.{leaf_keys, no_row, row_at, row_of}
use Rattle.kheap_slabs.specs.Objects.{object}
use Rattle.kheap_slabs.specs.Spaces.{keys_in}
use Rattle.kheap_slabs.specs.declared.objects.Leaf.{Leaf}
use Rattle.kheap_slabs.specs.declared.objects.Proc.{Proc}
use Rattle.open_laws.specs.Owned.{all_namings, leaf_namings_in, leaf_namings_of, names_desc, namings_in, namings_of}
use Rattle.proc_table.specs.Procs.{numbers_in, proc_of}
use Rattle.proc_table.specs.Table.{TableView, processes}
use Rattle.proc_table.proofs.OwnLemmas.{AreRising, rising_procs}
use Rattle.proc_table.proofs.PlaceLemmas.{eqb_other, eqb_same, key_of-proc, some_same}
use Rattle.proc_numbers.specs.Having.{AreListed}
use Rattle.proc_numbers.proofs.Listing.{key_listed}
use Rattle.proc_numbers.proofs.Sums.{part_of_sum, some_adds}

module _ (key : ℕ) where
  -- ---- from the numbers to the Leaves

  row_named : (leaves : List (Option Leaf)) (at : Option ℕ) → 0 < count_by (names_desc key) (row_at leaves at) → 0 < leaf_namings_of leaves key
  row_named leaves None some = absurd (let nothing : count_by (names_desc key) no_row ≡ 0 = refl in omega (arith, some, nothing))
  row_named leaves (Some at) some = by_leaf (object leaves at) refl some
    where
      by_leaf : (o : Option Leaf) → object leaves at ≡ o → 0 < count_by (names_desc key) (row_of o) → 0 < leaf_namings_of leaves key
      by_leaf None is few = absurd (let nothing : count_by (names_desc key) no_row ≡ 0 = refl in omega (arith, few, nothing))
      by_leaf (Some leaf) is few = let part = part_of_sum (leaf_namings_in key) leaves at leaf is in omega (arith, part, few)

  rows_named : (leaves : List (Option Leaf)) (keys : List (Option ℕ)) → 0 < sum_by (λ at. count_by (names_desc key) (row_at leaves at)) keys → 0 < leaf_namings_of leaves key
  rows_named leaves [] some = absurd (let nothing : sum_by (λ at. count_by (names_desc key) (row_at leaves at)) [] ≡ 0 = refl in omega (arith, some, nothing))
  rows_named leaves (at ∷ keys) some =
      by_first (rows_named leaves keys) (count_by (names_desc key) (row_at leaves at)) refl
    where
      by_first : (0 < sum_by (λ k. count_by (names_desc key) (row_at leaves k)) keys → 0 < leaf_namings_of leaves key)
          → (n : ℕ) → count_by (names_desc key) (row_at leaves at) ≡ n → 0 < leaf_namings_of leaves key
      by_first behind zero is = behind (let more = sum_by-cons (λ (k : Option ℕ). count_by (names_desc key) (row_at leaves k)) at keys in omega (arith, more, is, some))
      by_first behind (suc n) is = row_named leaves at (omega (arith, is))

  pub named_part : (h : Heap) (at : ℕ) (proc : Proc) → object h.procs at ≡ Some proc → 0 < count_by (names_desc key) (numbers_in h proc) → 0 < all_namings h key
  named_part h at proc there some = by_first (count_by (names_desc key) proc.descriptors) refl
    where
      all : count_by (names_desc key) (numbers_in h proc) ≡ count_by (names_desc key) proc.descriptors + sum_by (λ k. count_by (names_desc key) (row_at h.leaves k)) proc.leaves
      all = numbers_by-count (names_desc key) h.leaves proc.descriptors proc.leaves

      by_first : (n : ℕ) → count_by (names_desc key) proc.descriptors ≡ n → 0 < all_namings h key
      by_first zero is = let rows = rows_named h.leaves proc.leaves (let more = all in omega (arith, more, is, some)) in omega (arith, rows)
      by_first (suc n) is = let part = part_of_sum (namings_in key) h.procs at proc there in omega (arith, part, is)

  -- ---- and back

  keys_inside : (procs : List Proc) (at : ℕ) → Contains (leaf_keys procs) at → (one : Proc) × Contains procs one × Contains (keys_in one.leaves) at
  keys_inside [] at there = absurd (omega (arith, there.1))
  keys_inside (first ∷ procs) at there = elim (Contains-append_cases (keys_in first.leaves) (leaf_keys procs) at there) [
    | inl here ↦ (first, (0, omega arith, refl), here)
    | inr behind ↦ let found = keys_inside procs at behind in (found.0, Contains-cons first found.0 procs found.1, found.2)
  ]

  found_inside : (procs : List Proc) (before : ℕ) (one : Proc) → AreRising before procs → Contains procs one → (proc_of procs one.pid ≡ Some one) × (before < one.pid)
  found_inside [] before one rising there = absurd (omega (arith, there.1))
  found_inside (first ∷ procs) before one rising there = elim (Contains-cons_cases first one procs there) [
    | inl same ↦ (
      ap (λ b. cond b (Some first) (proc_of procs one.pid)) (eqb_same first.pid one.pid (ap (λ (p : Proc). p.pid) same)) ∙ ap Some same,
      subst (λ (p : Proc). before < p.pid) same rising.0,
    )
    | inr behind ↦
        let rest = found_inside procs first.pid one rising.1 behind in
        let above : before < first.pid = rising.0 in (
          ap (λ b. cond b (Some first) (proc_of procs one.pid)) (eqb_other first.pid one.pid (λ same. omega (arith, same, rest.1))) ∙ rest.0,
          (let more = rest.1 in omega (arith, above, more)),
        )
  ]

  -- A process whose number names it, by its pid.
  pub record NamedBy (h : Heap) (kept : TableView) : Type 0 where
    pub pid : ℕ
    pub proc : Proc
    pub found : proc_of (processes h kept) pid ≡ Some proc
    pub names : 0 < count_by (names_desc key) (numbers_in h proc)

  pub named_whole : (h : Heap) (kept : TableView) → AreListed h kept → 0 < all_namings h key → NamedBy h kept
  named_whole h kept listed some = by_procs (namings_of h.procs key) refl
    where
      all : (proc : Proc) → count_by (names_desc key) (numbers_in h proc) ≡ count_by (names_desc key) proc.descriptors + sum_by (λ k. count_by (names_desc key) (row_at h.leaves k)) proc.leaves
      all proc = numbers_by-count (names_desc key) h.leaves proc.descriptors proc.leaves

      in_leaf : 0 < leaf_namings_of h.leaves key → NamedBy h kept
      in_leaf more =
          let adds = some_adds (leaf_namings_in key) h.leaves refl more in
          let owner = keys_inside (processes h kept) adds.key (listed.leaves.keys.listed adds.key (ap is_some adds.is)) in
          let found = found_inside (processes h kept) 0 owner.0 (rising_procs h.procs kept.listed 0 kept.last listed.stored listed.rising) owner.1 in
          let placed = key_placed owner.0.leaves adds.key owner.2 in
          let least = get_or-le-sum_by (λ (k : Option ℕ). count_by (names_desc key) (row_at h.leaves k)) owner.0.leaves placed.0 None placed.1 in
          let row : count_by (names_desc key) (row_at h.leaves (get_or owner.0.leaves placed.0 None)) ≡ count_by (names_desc key) adds.value.descriptors =
          ap (λ k. count_by (names_desc key) (row_at h.leaves k)) placed.2 ∙ ap (λ o. count_by (names_desc key) (row_of o)) adds.is in
          let whole = all owner.0 in
          let names = adds.adds in
          record { pid = owner.0.pid; proc = owner.0; found = found.0; names = omega (arith, whole, least, row, names) }

      in_proc : 0 < namings_of h.procs key → NamedBy h kept
      in_proc more =
          let adds = some_adds (namings_in key) h.procs refl more in
          let at = key_listed kept.listed 0 kept.last adds.key listed.rising (listed.all.listed adds.key (ap is_some adds.is)) in
          let named = key_of-proc h.procs kept.listed at.0 adds.key listed.stored at.1 in
          let whole = all adds.value in
          let names = adds.adds in
          record {
            pid = at.0;
            proc = adds.value;
            found = named.3 ∙ ap Some (some_same (object h.procs adds.key) named.0 adds.value named.1 adds.is);
            names = omega (arith, whole, names);
          }

      by_procs : (n : ℕ) → namings_of h.procs key ≡ n → NamedBy h kept
      by_procs zero is = in_leaf (omega (arith, is, some))
      by_procs (suc n) is = in_proc (omega (arith, is))

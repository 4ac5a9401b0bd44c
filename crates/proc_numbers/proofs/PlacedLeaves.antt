-- A process of the table has rows as long as their type says, and owns its Leaves.
use Rattle.std.proofs.Common.{◌≡◌, ℕ, zero, suc, ◌+◌, ◌*◌, ◌<◌, List, [], ◌∷◌, Option, None, Some, cond, count_by, get_or, is_some, length, refl, ap, sym, ◌∙◌, arith}
use Rattle.std.specs.Option.{option_map}
use Rattle.std.proofs.lemmas.List.{ext_get_or, get_or-replicate, get_or_past, length-map, length-replicate}
use Rattle.std.proofs.lemmas.List.Sums.{sum_by-cons}
use Rattle.kabi_types.specs.Arguments.{most_descriptors}
use Rattle.kheap_slabs.specs.Objects.{object}
use Rattle.kheap_slabs.specs.declared.objects.Descriptor.{Descriptor}
use Rattle.kheap_slabs.specs.declared.objects.Proc.{Proc}
use Rattle.kheap_slabs.specs.Heap.{Heap, IsWellFormed}
use Rattle.kheap_slabs.specs.Leaves.{OwnsLeaves, group_of, no_row, place_of, row_at, row_of}
use Rattle.kheap_slabs.proofs.ObjectLemmas.{object_of}
use Rattle.kheap_laws.proofs.KeyPlaces.{key_there}
use Rattle.kheap_laws.proofs.LeafLemmas.{numbers_by-first, numbers_by-leaf}
use Rattle.kheap_laws.proofs.LeafOwners.{HoldLeaves-owns}
use Rattle.desc_table.specs.Copying.{no_leaves}
use Rattle.desc_table.specs.Numbered.{IsLong}
use Rattle.open_laws.specs.Open.{descriptor_by}
use Rattle.open_laws.specs.Placed.{Numbers}
use Rattle.posix_defs.specs.Files.State.{Files, descriptors_of}
use Rattle.proc_table.specs.Procs.{OpensNone, numbers_in}
use Rattle.proc_table.specs.Table.{TableView, key_of, processes}
use Rattle.proc_table.proofs.LeafTurns.{proc_inside}
use Rattle.proc_table.proofs.NumberLemmas.{numbers_all}
use Rattle.proc_table.proofs.PlaceLemmas.{key_of-proc}
use Rattle.proc_numbers.specs.Having.{AreListed, HaveOpen}
use Rattle.proc_numbers.proofs.Listing.{found_before}
use Rattle.proc_numbers.proofs.NamedOpen.{descriptors_are}

pub long_proc : (h : Heap) (key : ℕ) (proc : Proc) → IsWellFormed h → object h.procs key ≡ Some proc → IsLong proc
long_proc h key proc whole there = record { descriptors = whole.descriptors key proc there; leaves = whole.leaves key proc there }

pub owns_placed : (h : Heap) (kept : TableView) (pid key : ℕ) (proc : Proc) → AreListed h kept → key_of kept.listed pid ≡ Some key → object h.procs key ≡ Some proc → OwnsLeaves h.leaves proc.leaves
owns_placed h kept pid key proc listed named there =
    HoldLeaves-owns h.leaves (processes h kept) proc listed.leaves
    (proc_inside (processes h kept) pid proc (found_before h.procs key proc proc there refl kept.listed pid listed.stored named))

-- and as many numbers as there may be, in the machine too
pub descriptors_all : (h : Heap) (kept : TableView) (pid key : ℕ) → IsWellFormed h → AreListed h kept → key_of kept.listed pid ≡ Some key → (numbers : Numbers) (files : Files) → HaveOpen numbers h kept files
    → length (descriptors_of files pid) ≡ most_descriptors
descriptors_all h kept pid key whole listed named numbers files have =
    let at = key_of-proc h.procs kept.listed pid key listed.stored named in
    ap length (descriptors_are h kept pid key at.0 listed named at.1 numbers files have)
    ∙ (length-map (numbers_in h at.0) (option_map (descriptor_by numbers.descs)) ∙ numbers_all h key at.0 whole at.1)

-- ---- where none of its numbers is open

no_leaf_at : (i : ℕ) → get_or no_leaves i None ≡ None
no_leaf_at zero = refl
no_leaf_at (suc zero) = refl
no_leaf_at (suc (suc zero)) = refl
no_leaf_at (suc (suc (suc i))) = get_or_past no_leaves (suc (suc (suc i))) None (let three : length no_leaves ≡ 3 = refl in omega (arith, three))

nothing_in : (row : List (Option Descriptor)) → ((k : ℕ) → k < length row → get_or row k None ≡ None) → count_by is_some row ≡ 0
nothing_in [] each = refl
nothing_in (first ∷ row) each =
    let here : ◌≡◌ {A = ℕ} (cond (is_some first) 1 0) 0 = ap {B = ℕ} (λ (o : Option Descriptor). cond (is_some o) 1 0) (each zero (omega arith)) in
    let behind = nothing_in row (λ k within. each (suc k) (omega (arith, within))) in
    let whole = sum_by-cons (λ (o : Option Descriptor). cond (is_some o) 1 0) first row in
    omega (arith, here, behind, whole)

-- it has none of the first and no Leaf
pub none_opens : (h : Heap) (kept : TableView) (pid key : ℕ) (proc : Proc) → IsWellFormed h → AreListed h kept → key_of kept.listed pid ≡ Some key → object h.procs key ≡ Some proc
    → ((fd : ℕ) → fd < 128 → get_or (numbers_in h proc) fd None ≡ None) → OpensNone proc
none_opens h kept pid key proc whole listed named there none = (
  ext_get_or None proc.descriptors no_row (long ∙ sym (length-replicate {A = Option Descriptor} 32 None))
      (λ i within. let below : i < 32 = omega (arith, long, within) in
      sym (numbers_by-first h.leaves proc.descriptors proc.leaves i long below) ∙ (none i (omega (arith, below)) ∙ sym (get_or-replicate 32 i None None below))),
  ext_get_or None proc.leaves no_leaves (three ∙ refl) (λ i within. each i (omega (arith, three, within)) ∙ sym (no_leaf_at i)),
)
  where
    long : length proc.descriptors ≡ 32
    long = whole.descriptors key proc there

    three : length proc.leaves ≡ 3
    three = whole.leaves key proc there

    owns : OwnsLeaves h.leaves proc.leaves
    owns = owns_placed h kept pid key proc listed named there

    each : (i : ℕ) → i < 3 → get_or proc.leaves i None ≡ None
    each i within = by_key (get_or proc.leaves i None) refl
      where
        by_key : (o : Option ℕ) → get_or proc.leaves i None ≡ o → get_or proc.leaves i None ≡ None
        by_key None is = is
        by_key (Some leaf) is = absurd (
            let it = object_of h.leaves leaf (owns.used leaf (key_there proc.leaves i leaf is)) in
            let filled = owns.filled leaf it.0 (key_there proc.leaves i leaf is) it.1 in
            let empty = nothing_in it.0.descriptors (λ k inside.
            let size = whole.leaf_rows leaf it.0 it.1 in
            let group : group_of (32 * (i + 1) + k) ≡ i = omega (arith, inside, size) in
            let place : place_of (32 * (i + 1) + k) ≡ k = omega (arith, inside, size) in
            ap (λ o. get_or (row_of o) k None) (sym it.1)
            ∙ (ap (λ key. get_or (row_at h.leaves key) k None) (sym is)
            ∙ (ap (λ g. get_or (row_at h.leaves (get_or proc.leaves g None)) k None) (sym group)
            ∙ (ap (λ at. get_or (row_at h.leaves (get_or proc.leaves (group_of (32 * (i + 1) + k)) None)) at None) (sym place)
            ∙ (sym (numbers_by-leaf h.leaves proc.descriptors proc.leaves (32 * (i + 1) + k) whole.leaf_rows long three (omega arith) (omega (arith, within, inside, size)))
            ∙ none (32 * (i + 1) + k) (omega (arith, within, inside, size))))))) in
            omega (arith, filled, empty))

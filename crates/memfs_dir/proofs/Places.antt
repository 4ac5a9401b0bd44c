-- The places of entries once one was removed, or changed in its place.
use Rattle.std.proofs.Common.{◌≡◌, ◌≢◌, ℕ, ◌-◌, ◌<◌, Bool, false, cond, ◌⊎◌, inl, inr, List, [], ◌∷◌, ◌++◌, length, get_or, set, take, Some, None, refl, sym, ap, subst, ◌∙◌, arith, slice_get}
use Rattle.std.specs.List.{swap_remove}
use Rattle.std.specs.List.Sorted.{IsPermutation}
use Rattle.std.specs.Option.{option_map}
use Rattle.std.proofs.lemmas.Bool.{cases_lt, cases_eq, eq-eqb, ne_eqb}
use Rattle.std.proofs.lemmas.Option.{slice_get-get_or, slice_get_past}
use Rattle.std.proofs.lemmas.List.{get_or_default, length-set, length-take-le, length_push, get_or-set_other, set-get_or, take_at}
use Rattle.std.proofs.lemmas.List.Folds.{find_at, position_or_len-set}
use Rattle.std.proofs.lemmas.List.Sorted.{IsPermutation-swap_remove, IsPermutation-to_front, IsPermutation-sym, IsPermutation-trans}
use Rattle.kabi_types.specs.declared.inodes.DirEntry.{DirEntry}
use Rattle.posix_defs.specs.Tree.{has_name, found_among}
use Rattle.posix_defs.specs.TreeChanges.{no_entry}
use Rattle.tree_laws.proofs.EntryLists.{source, from_source}
use Rattle.memfs_dir.specs.Listed.{AreDistinct, at_place, place_called}
use Rattle.memfs_dir.proofs.Found.{none_called, not_called}
use Rattle.memfs_dir.proofs.Names.{first_place, called_first, first_at, nowhere, leads_nowhere, somewhere_or_nowhere, one_place, placed}

abbrev pub without : List DirEntry → ℕ → List DirEntry
without entries place = swap_remove entries place no_entry

length-without : (entries : List DirEntry) (place : ℕ) → length (without entries place) ≡ length entries - 1
length-without entries place =
    let last : DirEntry = at_place entries (length entries - 1) in
    length-take-le (length entries - 1) (set entries place last) (omega (arith, length-set entries place last))

-- what stands at a place stood there before, or last
source_is : (len place k : ℕ) → ((k ≡ place) × (source len place k ≡ len - 1)) ⊎ ((k ≢ place) × (source len place k ≡ k))
source_is len place k = elim (cases_eq k place) [
  | inl e ↦ inl (e, ap (λ (b : Bool). cond b (len - 1) k) (eq-eqb k place e))
  | inr other ↦ inr (other, ap (λ (b : Bool). cond b (len - 1) k) (ne_eqb k place other))
]

source_within : (len place k : ℕ) → k < len - 1 → source len place k < len
source_within len place k lt = elim (source_is len place k) [ inl is ↦ omega (arith, lt, is.1) | inr is ↦ omega (arith, lt, is.1) ]

source_away : (len place k : ℕ) → k < len - 1 → source len place k ≢ place
source_away len place k lt = elim (source_is len place k) [ inl is ↦ λ e. omega (arith, lt, is.0, is.1, e) | inr is ↦ λ e. is.0 (sym is.1 ∙ e) ]

same_source : (len place i j : ℕ) → i < len - 1 → j < len - 1 → source len place i ≡ source len place j → i ≡ j
same_source len place i j i_lt j_lt e = elim (source_is len place i) [
  | inl one ↦ elim (source_is len place j) [ inl other ↦ one.0 ∙ sym other.0 | inr other ↦ absurd (omega (arith, one.1, other.1, e, j_lt)) ]
  | inr one ↦ elim (source_is len place j) [ inl other ↦ absurd (omega (arith, one.1, other.1, e, i_lt)) | inr other ↦ sym one.1 ∙ e ∙ other.1 ]
]

name_from : (entries : List DirEntry) (place k : ℕ) → place < length entries → k < length entries - 1 → (at_place (without entries place) k).name ≡ (at_place entries (source (length entries) place k)).name
name_from entries place k within lt = ap (λ (e : DirEntry). e.name) (from_source entries place k within lt)

pub removed_distinct : (entries : List DirEntry) (place : ℕ) → AreDistinct entries → place < length entries → AreDistinct (without entries place)
removed_distinct entries place distinct within i j d lt j_in =
    let len : length (without entries place) ≡ length entries - 1 = length-without entries place in
    let i_lt : i < length entries - 1 = omega (arith, lt, j_in, len) in
    let j_lt : j < length entries - 1 = omega (arith, j_in, len) in
    let at_i : (get_or (without entries place) i d).name ≡ (at_place entries (source (length entries) place i)).name =
    ap (λ (e : DirEntry). e.name) (get_or_default (without entries place) i d no_entry (omega (arith, i_lt, len))) ∙ name_from entries place i within i_lt in
    let at_j : (get_or (without entries place) j d).name ≡ (at_place entries (source (length entries) place j)).name =
    ap (λ (e : DirEntry). e.name) (get_or_default (without entries place) j d no_entry j_in) ∙ name_from entries place j within j_lt in
    λ same.
    let one = one_place entries (source (length entries) place i) (source (length entries) place j) distinct (source_within (length entries) place i i_lt) (source_within (length entries) place j j_lt) (sym at_i ∙ same ∙ at_j) in
    omega (arith, lt, same_source (length entries) place i j i_lt j_lt one)

pub removed_gone : (entries : List DirEntry) (place : ℕ) → AreDistinct entries → place < length entries → place_called (at_place entries place).name (without entries place) ≡ None
removed_gone entries place distinct within =
    none_called (without entries place) (at_place entries place).name (λ k k_in same.
    let lt : k < length entries - 1 = omega (arith, k_in, length-without entries place) in
    source_away (length entries) place k lt (one_place entries (source (length entries) place k) place distinct (source_within (length entries) place k lt) within (sym (name_from entries place k within lt) ∙ same)))

-- where an entry goes that isn't removed
destination : (entries : List DirEntry) (place k : ℕ) → place < length entries → k < length entries → k ≢ place → (to : ℕ) × (to < length entries - 1) × (at_place (without entries place) to ≡ at_place entries k)
destination entries place k within lt other = elim (cases_eq k (length entries - 1)) [
  | inl last ↦
      let to_lt : place < length entries - 1 = omega (arith, last, within, other) in
      let from : source (length entries) place place ≡ k = elim (source_is (length entries) place place) [ inl is ↦ is.1 ∙ sym last | inr is ↦ absurd (is.0 refl) ] in
      (place, to_lt, from_source entries place place within to_lt ∙ ap (λ (n : ℕ). at_place entries n) from)
  | inr before ↦
      let to_lt : k < length entries - 1 = omega (arith, before, lt) in
      let from : source (length entries) place k ≡ k = elim (source_is (length entries) place k) [ inl is ↦ absurd (other is.0) | inr is ↦ is.1 ] in
      (k, to_lt, from_source entries place k within to_lt ∙ ap (λ (n : ℕ). at_place entries n) from)
]

pub removed_others : (entries : List DirEntry) (place : ℕ) (name : List ℕ) → AreDistinct entries → place < length entries → name ≢ (at_place entries place).name
    → found_among (without entries place) name ≡ found_among entries name
removed_others entries place name distinct within other = elim (somewhere_or_nowhere entries name) [
  | inl there ↦
      let first = first_at entries name there.0 there.1 in
      let goes = destination entries place there.0 within first.within (λ e. other (sym first.here ∙ ap (λ (n : ℕ). (at_place entries n).name) e)) in
      let lt : goes.0 < length (without entries place) = omega (arith, goes.1, length-without entries place) in
      let now = first_at (without entries place) name goes.0 (placed (without entries place) name goes.0 (removed_distinct entries place distinct within) lt (ap (λ (e : DirEntry). e.name) goes.2 ∙ first.here)) in
      now.leads ∙ ap (λ (e : DirEntry). Some e.node) goes.2 ∙ sym first.leads
  | inr none ↦
      let away = nowhere entries name none in
      leads_nowhere (without entries place) name (λ k k_in same.
      let lt : k < length entries - 1 = omega (arith, k_in, length-without entries place) in
      away (source (length entries) place k) (source_within (length entries) place k lt) (sym (name_from entries place k within lt) ∙ same))
      ∙ sym (leads_nowhere entries name away)
]

-- ---- in its place

away : (entries : List DirEntry) (place : ℕ) (name : List ℕ) → first_place name entries < length entries → name ≢ (at_place entries place).name → first_place name entries ≢ place
away entries place name lt other = λ e. other (sym (called_first entries name lt) ∙ ap (λ (n : ℕ). (at_place entries n).name) e)

pub set_others : (entries : List DirEntry) (place : ℕ) (entry : DirEntry) (name : List ℕ) → place < length entries → name ≢ (at_place entries place).name → name ≢ entry.name
    → found_among (set entries place entry) name ≡ found_among entries name
set_others entries place entry name within not_old not_new =
    let changed : List DirEntry = set entries place entry in
    let old : has_name name (at_place entries place) ≡ false = not_called (at_place entries place) name (λ e. not_old (sym e)) in
    let new = not_called entry name (λ e. not_new (sym e)) in
    let at : first_place name changed ≡ first_place name entries = position_or_len-set (has_name name) entries place entry no_entry (new ∙ sym old) in
    let len : length changed ≡ length entries = length-set entries place entry in
    let same : slice_get changed (first_place name entries) ≡ slice_get entries (first_place name entries) = elim (cases_lt (first_place name entries) (length entries)) [
      | inl lt ↦ slice_get-get_or changed (first_place name entries) no_entry (omega (arith, lt, len)) ∙ ap (λ (e : DirEntry). Some e) (get_or-set_other entries place (first_place name entries) entry no_entry (away entries place name lt not_old)) ∙ sym (slice_get-get_or entries (first_place name entries) no_entry lt)
      | inr past ↦ slice_get_past changed (first_place name entries) (omega (arith, past, len)) ∙ sym (slice_get_past entries (first_place name entries) past)
    ] in
    ap (option_map (λ (e : DirEntry). e.node)) (find_at (has_name name) changed ∙ ap (λ (n : ℕ). slice_get changed n) at ∙ same ∙ sym (find_at (has_name name) entries))

-- ---- there and back

pub back_as_it_was : (entries : List DirEntry) (entry : DirEntry) → without (entries ++ entry ∷ []) (length entries) ≡ entries
back_as_it_was entries entry =
    let all : List DirEntry = entries ++ entry ∷ [] in
    let last : length all - 1 ≡ length entries = omega (arith, length_push entries entry) in
    ap (λ (n : ℕ). take n (set all (length entries) (at_place all n))) last
    ∙ ap (λ (es : List DirEntry). take (length entries) es) (set-get_or all (length entries) no_entry)
    ∙ take_at entries (entry ∷ []) (length entries) refl

pub back_in_another_order : (entries : List DirEntry) (place : ℕ) → place < length entries → IsPermutation entries (without entries place ++ at_place entries place ∷ [])
back_in_another_order entries place within =
    let entry : DirEntry = at_place entries place in
    let rest : List DirEntry = swap_remove entries place entry in
    let same : rest ≡ without entries place = ap (λ (e : DirEntry). take (length entries - 1) (set entries place e)) (get_or_default entries (length entries - 1) entry no_entry (omega (arith, within))) in
    let taken : IsPermutation entries (entry ∷ rest) = IsPermutation-swap_remove entries place entry within (get_or_default entries place no_entry entry within) in
    subst (λ (es : List DirEntry). IsPermutation entries (es ++ entry ∷ [])) same
    (IsPermutation-trans entries (entry ∷ rest) (rest ++ entry ∷ []) taken (IsPermutation-sym (rest ++ entry ∷ []) (entry ∷ rest) (IsPermutation-to_front rest entry)))

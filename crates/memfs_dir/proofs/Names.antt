-- Where a name stands among entries, and the node that it leads to.
use Rattle.std.proofs.Common.{◌≡◌, ◌≢◌, ℕ, zero, suc, ◌+◌, ◌<◌, ◌≤◌, ltb, ◌⊎◌, inl, inr, List, [], ◌∷◌, ◌++◌, length, Option, Some, None, refl, sym, ap, subst, ◌∙◌, arith}
use Rattle.std.specs.List.{find, position_or_len}
use Rattle.std.specs.Option.{option_map, option_or}
use Rattle.std.proofs.lemmas.Bool.{cases_lt, cases_eq, lt-ltb, le-ltb, cond-true, cond-false, false≢true}
use Rattle.std.proofs.lemmas.Option.{same_Some, none-some, slice_get-get_or, slice_get_past}
use Rattle.std.proofs.lemmas.List.{get_or_append_left, get_or_at, get_or_default, length_push}
use Rattle.std.proofs.lemmas.List.Folds.{find-append, find_at}
use Rattle.std.proofs.lemmas.List.Sums.{fails_before_first, passes_at_first}
use Rattle.std.proofs.lemmas.List.Quantifiers.{all_pairs_push}
use Rattle.std.proofs.lemmas.Slice.Eq.{bytes_eq-Decides}
use Rattle.kabi_types.specs.declared.inodes.DirEntry.{DirEntry}
use Rattle.posix_defs.specs.DiskContents.{Finds}
use Rattle.posix_defs.specs.Tree.{has_name, found_among}
use Rattle.posix_defs.specs.TreeChanges.{no_entry}
use Rattle.tree_laws.proofs.EntryLists.{apart}
use Rattle.memfs_dir.specs.Listed.{AreDistinct, at_place, place_called}
use Rattle.memfs_dir.proofs.Found.{called, not_called, first_called}

abbrev pub first_place : List ℕ → List DirEntry → ℕ
first_place name entries = position_or_len (has_name name) entries

pub called_first : (entries : List DirEntry) (name : List ℕ) → first_place name entries < length entries → (at_place entries (first_place name entries)).name ≡ name
called_first entries name lt = (bytes_eq-Decides (at_place entries (first_place name entries)).name name).0 (passes_at_first (has_name name) entries no_entry lt)

before_first : (entries : List DirEntry) (name : List ℕ) (k : ℕ) → k < first_place name entries → (at_place entries k).name ≢ name
before_first entries name k lt = λ same. false≢true (sym (fails_before_first (has_name name) entries k no_entry lt) ∙ called (at_place entries k) name same)

some_place : (entries : List DirEntry) (name : List ℕ) → first_place name entries < length entries → place_called name entries ≡ Some (first_place name entries)
some_place entries name lt = cond-true (ltb (first_place name entries) (length entries)) (Some (first_place name entries)) None (lt-ltb (first_place name entries) (length entries) lt)

no_place : (entries : List DirEntry) (name : List ℕ) → length entries ≤ first_place name entries → place_called name entries ≡ None
no_place entries name past = cond-false (ltb (first_place name entries) (length entries)) (Some (first_place name entries)) None (le-ltb (first_place name entries) (length entries) past)

-- a name stands at a place, first, or at none
pub record IsFirstAt (entries : List DirEntry) (name : List ℕ) (place : ℕ) : Type 0 where
  pub within : place < length entries
  pub here : (at_place entries place).name ≡ name
  pub before : (k : ℕ) → k < place → (at_place entries k).name ≢ name
  pub leads : found_among entries name ≡ Some (at_place entries place).node

pub first_at : (entries : List DirEntry) (name : List ℕ) (place : ℕ) → place_called name entries ≡ Some place → IsFirstAt entries name place
first_at entries name place is = elim (cases_lt (first_place name entries) (length entries)) [
  | inl lt ↦
      let same : first_place name entries ≡ place = same_Some _ _ (sym (some_place entries name lt) ∙ is) in
      subst (λ (p : ℕ). IsFirstAt entries name p) same (
      record {
        within = lt;
        here = called_first entries name lt;
        before = before_first entries name;
        leads = ap (option_map (λ (entry : DirEntry). entry.node)) (find_at (has_name name) entries ∙ slice_get-get_or entries (first_place name entries) no_entry lt);
      }
      )
  | inr past ↦ absurd (none-some place (sym (no_place entries name past) ∙ is))
]

pub nowhere : (entries : List DirEntry) (name : List ℕ) → place_called name entries ≡ None → (k : ℕ) → k < length entries → (at_place entries k).name ≢ name
nowhere entries name is k k_lt = elim (cases_lt (first_place name entries) (length entries)) [
  | inl lt ↦ absurd (none-some (first_place name entries) (sym is ∙ some_place entries name lt))
  | inr past ↦ before_first entries name k (omega (arith, k_lt, past))
]

pub leads_nowhere : (entries : List DirEntry) (name : List ℕ) → ((k : ℕ) → k < length entries → (at_place entries k).name ≢ name) → found_among entries name ≡ None
leads_nowhere entries name none = elim (cases_lt (first_place name entries) (length entries)) [
  | inl lt ↦ absurd (none (first_place name entries) lt (called_first entries name lt))
  | inr past ↦ ap (option_map (λ (entry : DirEntry). entry.node)) (find_at (has_name name) entries ∙ slice_get_past entries (first_place name entries) past)
]

pub somewhere_or_nowhere : (entries : List DirEntry) (name : List ℕ) → ((place : ℕ) × (place_called name entries ≡ Some place)) ⊎ (place_called name entries ≡ None)
somewhere_or_nowhere entries name = elim (cases_lt (first_place name entries) (length entries)) [
  | inl lt ↦ inl (first_place name entries, some_place entries name lt)
  | inr past ↦ inr (no_place entries name past)
]

-- ---- entries of distinct names

pub one_place : (entries : List DirEntry) (i j : ℕ) → AreDistinct entries → i < length entries → j < length entries → (at_place entries i).name ≡ (at_place entries j).name → i ≡ j
one_place entries i j distinct i_lt j_lt same = elim (cases_eq i j) [
  | inl e ↦ e
  | inr other ↦ absurd (apart entries distinct i j i_lt j_lt other same)
]

pub placed : (entries : List DirEntry) (name : List ℕ) (k : ℕ) → AreDistinct entries → k < length entries → (at_place entries k).name ≡ name → place_called name entries ≡ Some k
placed entries name k distinct lt is =
    first_called entries name k lt is (λ j j_lt same. omega (arith, j_lt, one_place entries j k distinct (omega (arith, j_lt, lt)) lt (same ∙ sym is)))

-- ---- an entry that is added

pub found_at_end : (entries : List DirEntry) (entry : DirEntry) → place_called entry.name entries ≡ None → place_called entry.name (entries ++ entry ∷ []) ≡ Some (length entries)
found_at_end entries entry free =
    let len : length (entries ++ entry ∷ []) ≡ length entries + 1 = length_push entries entry in
    first_called (entries ++ entry ∷ []) entry.name (length entries) (omega (arith, len)) (ap (λ (e : DirEntry). e.name) (get_or_at entries entry [] no_entry (length entries) refl))
    (λ k lt same. nowhere entries entry.name free k lt (ap (λ (e : DirEntry). e.name) (sym (get_or_append_left entries (entry ∷ []) no_entry k lt)) ∙ same))

or_none : (o : Option DirEntry) → option_or o None ≡ o
or_none None = refl
or_none (Some entry) = refl

pub others_stay : (entries : List DirEntry) (entry : DirEntry) (name : List ℕ) → name ≢ entry.name → found_among (entries ++ entry ∷ []) name ≡ found_among entries name
others_stay entries entry name other =
    let last : find (has_name name) (entry ∷ []) ≡ None = cond-false (has_name name entry) (Some entry) None (not_called entry name (λ same. other (sym same))) in
    ap (option_map (λ (e : DirEntry). e.node))
    (find-append (has_name name) entries (entry ∷ []) ∙ ap (λ (o : Option DirEntry). option_or (find (has_name name) entries) o) last ∙ or_none (find (has_name name) entries))

pub added_distinct : (entries : List DirEntry) (entry : DirEntry) → AreDistinct entries → place_called entry.name entries ≡ None → AreDistinct (entries ++ entry ∷ [])
added_distinct entries entry distinct free =
    all_pairs_push (λ one other. one.name ≢ other.name) entries entry distinct
    (λ k d lt. subst (λ (e : DirEntry). e.name ≢ entry.name) (get_or_default entries k no_entry d lt) (nowhere entries entry.name free k lt))

-- ---- what a look leads to

pub finds_at : (entries : List DirEntry) (name : List ℕ) (place : ℕ) → place < length entries → (at_place entries place).name ≡ name → ((k : ℕ) → k < place → (at_place entries k).name ≢ name)
    → Finds entries name (at_place entries place).node
finds_at [] name place lt is before = absurd (omega (arith, lt))
finds_at (entry ∷ entries) name zero lt is before = inl (is, refl)
finds_at (entry ∷ entries) name (suc place) lt is before = inr (before 0 (omega arith), finds_at entries name place (omega (arith, lt)) is (λ k k_lt. before (suc k) (omega (arith, k_lt))))

pub finds_none : (entries : List DirEntry) (name : List ℕ) (node : ℕ) → ((k : ℕ) → k < length entries → (at_place entries k).name ≢ name) → ¬ (Finds entries name node)
finds_none [] name node none = λ is. is
finds_none (entry ∷ entries) name node none = λ is. elim is [
  | inl here ↦ none 0 (omega arith) here.0
  | inr later ↦ finds_none entries name node (λ k lt. none (suc k) (omega (arith, lt))) later.1
]

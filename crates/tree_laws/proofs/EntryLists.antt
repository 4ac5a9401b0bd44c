-- The entries of a directory under the changes of one entry: which there are, what names them, and how many name a node.
use Rattle.std.proofs.Common.{◌≡◌, ◌≢◌, ℕ, ◌+◌, ◌-◌, ◌<◌, Bool, true, cond, ◌⊎◌, inl, inr, List, length, get_or, set, take, eqb, Some, None, sym, ap, subst, ◌∙◌, arith, slice_get}
use Rattle.std.specs.Option.{option_map}
use Rattle.std.specs.List.{count_by, AllPairs, Contains, swap_remove}
use Rattle.std.proofs.lemmas.Bool.{false≢true, eq-eqb, cases_lt, cases_eq, cases_order, cond_both, ne_eqb}
use Rattle.std.proofs.lemmas.Slice.Eq.{bytes_eq-Decides}
use Rattle.std.proofs.lemmas.Option.{same_Some, none-some, slice_get_past, slice_get-get_or}
use Rattle.std.proofs.lemmas.List.{get_or_default, length-set, length_push, get_or-set_same, get_or-set_other, get_or-take, length-take-le}
use Rattle.std.proofs.lemmas.List.Sums.{sum_by_push, sum_by-set, sum_by-swap_remove, passes_at_first, fails_before_first}
use Rattle.std.proofs.lemmas.List.Folds.{find_at}
use Rattle.std.proofs.lemmas.List.Elements.{All-push, All-set, All-take, Contains-get_or}
use Rattle.std.proofs.lemmas.List.Quantifiers.{all_pairs_push}
use Rattle.kabi_types.specs.declared.inodes.DirEntry.{DirEntry}
use Rattle.posix_defs.specs.DiskContents.{entry_for}
use Rattle.posix_defs.specs.Tree.{has_name, found_among}
use Rattle.posix_defs.specs.TreeChanges.{place_of, no_entry, entry_put, entry_taken, entry_aimed, entry_renamed}
use Rattle.posix_defs.specs.IsTree.{IsEntryName, AreEntries, names_node}

-- how many of the entries name a node
abbrev pub count_of : ℕ → List DirEntry → ℕ
count_of number entries = count_by (names_node number) entries

-- 1 for that number, else 0
abbrev pub one_at : ℕ → ℕ → ℕ
one_at node number = cond (eqb node number) 1 0

-- ---- where a name stands

-- a name stands at its place, with its node
pub record StandsAt (entries : List DirEntry) (name : List ℕ) (node : ℕ) : Type 0 where
  pub within : place_of name entries < length entries
  pub aims : (get_or entries (place_of name entries) no_entry).node ≡ node
  pub called : (get_or entries (place_of name entries) no_entry).name ≡ name

same_name : (entry : DirEntry) (name : List ℕ) → has_name name entry ≡ true → entry.name ≡ name
same_name entry name is = (bytes_eq-Decides entry.name name).0 is

has_own_name : (entry : DirEntry) (name : List ℕ) → entry.name ≡ name → has_name name entry ≡ true
has_own_name entry name is = (bytes_eq-Decides entry.name name).1 is

-- a name that is found stands at its place
pub stands_at : (entries : List DirEntry) (name : List ℕ) (node : ℕ) → found_among entries name ≡ Some node → StandsAt entries name node
stands_at entries name node is =
    let place : ℕ = place_of name entries in
    let at : option_map (λ entry. entry.node) (slice_get entries place) ≡ Some node = ap (option_map (λ entry. entry.node)) (sym (find_at (has_name name) entries)) ∙ is in
    elim (cases_lt place (length entries)) [
      | inl lt ↦ record {
        within = lt;
        aims = same_Some _ _ (ap (option_map (λ entry. entry.node)) (sym (slice_get-get_or entries place no_entry lt)) ∙ at);
        called = same_name (get_or entries place no_entry) name (passes_at_first (has_name name) entries no_entry lt);
      }
      | inr past ↦ absurd (none-some node (ap (option_map (λ entry. entry.node)) (sym (slice_get_past entries place past)) ∙ at))
    ]

-- a name that isn't found stands nowhere
pub stands_nowhere : (entries : List DirEntry) (name : List ℕ) → found_among entries name ≡ None → (k : ℕ) → k < length entries → (get_or entries k no_entry).name ≢ name
stands_nowhere entries name is k lt =
    let place : ℕ = place_of name entries in
    elim (cases_lt place (length entries)) [
      | inl within ↦ absurd (none-some _ (sym is ∙ ap (option_map (λ entry. entry.node)) (find_at (has_name name) entries ∙ slice_get-get_or entries place no_entry within)))
      | inr past ↦ λ same. absurd (false≢true (sym (fails_before_first (has_name name) entries k no_entry (omega (arith, lt, past))) ∙ has_own_name (get_or entries k no_entry) name same))
    ]

-- ---- two places have two names

abbrev pub Apart : List DirEntry → Type 0
Apart entries = (i j : ℕ) → i < length entries → j < length entries → i ≢ j → (get_or entries i no_entry).name ≢ (get_or entries j no_entry).name

pub apart : (entries : List DirEntry) → AllPairs (λ one other. one.name ≢ other.name) entries → Apart entries
apart entries pairs i j i_in j_in other =
    elim (cases_order i j) [
      | inl same ↦ absurd (other same)
      | inr order ↦ elim order [
        | inl lt ↦ pairs i j no_entry lt j_in
        | inr gt ↦ λ e. pairs j i no_entry gt i_in (sym e)
      ]
    ]

-- pairs at the default that is asked are those at another within the list
pairs : (entries : List DirEntry) → Apart entries → AllPairs (λ one other. one.name ≢ other.name) entries
pairs entries far i j d lt within =
    let at_i : get_or entries i d ≡ get_or entries i no_entry = get_or_default entries i d no_entry (omega (arith, lt, within)) in
    let at_j : get_or entries j d ≡ get_or entries j no_entry = get_or_default entries j d no_entry within in
    λ same. far i j (omega (arith, lt, within)) within (λ e. omega (arith, lt, e)) (ap (λ (entry : DirEntry). entry.name) (sym at_i) ∙ same ∙ ap (λ (entry : DirEntry). entry.name) at_j)

-- ---- a new entry

pub count-put : (entries : List DirEntry) (name : List ℕ) (node number : ℕ) → count_of number (entry_put name node entries) ≡ count_of number entries + one_at node number
count-put entries name node number = sum_by_push (λ entry. cond (names_node number entry) 1 0) entries (entry_for node name)

pub length-put : (entries : List DirEntry) (name : List ℕ) (node : ℕ) → length (entry_put name node entries) ≡ length entries + 1
length-put entries name node = length_push entries (entry_for node name)

pub put_are : (entries : List DirEntry) (name : List ℕ) (node : ℕ) → AreEntries entries → IsEntryName name → found_among entries name ≡ None → AreEntries (entry_put name node entries)
put_are entries name node are is none = record {
  names = All-push (λ entry. IsEntryName entry.name) entries (entry_for node name) are.names is;
  distinct = all_pairs_push (λ one other. one.name ≢ other.name) entries (entry_for node name) are.distinct
      (λ k d lt. subst (λ (entry : DirEntry). entry.name ≢ name) (get_or_default entries k no_entry d lt) (stands_nowhere entries name none k lt));
}

-- ---- an entry that goes

pub count-taken : (entries : List DirEntry) (name : List ℕ) (node number : ℕ) → StandsAt entries name node → count_of number (entry_taken name entries) + one_at node number ≡ count_of number entries
count-taken entries name node number at =
    let here : one_at (get_or entries (place_of name entries) no_entry).node number ≡ one_at node number = ap (λ (n : ℕ). one_at n number) at.aims in
    let sum = sum_by-swap_remove (λ entry. cond (names_node number entry) 1 0) entries (place_of name entries) no_entry at.within in
    omega (arith, sum, here)

pub length-taken : (entries : List DirEntry) (name : List ℕ) (node : ℕ) → StandsAt entries name node → length (entry_taken name entries) + 1 ≡ length entries
length-taken entries name node at =
    let place : ℕ = place_of name entries in
    let last : DirEntry = get_or entries (length entries - 1) no_entry in
    let moved : List DirEntry = set entries place last in
    let len : length moved ≡ length entries = length-set entries place last in
    let cut : length (take (length entries - 1) moved) ≡ length entries - 1 = length-take-le (length entries - 1) moved (omega (arith, len)) in
    omega (arith, cut, at.within)

-- where it stood before what stands at a place after it
abbrev pub source : ℕ → ℕ → ℕ → ℕ
source len place k = cond (eqb k place) (len - 1) k

pub from_source : (entries : List DirEntry) (place k : ℕ) → place < length entries → k < length entries - 1
    → get_or (swap_remove entries place no_entry) k no_entry ≡ get_or entries (source (length entries) place k) no_entry
from_source entries place k within lt =
    let last : DirEntry = get_or entries (length entries - 1) no_entry in
    get_or-take (length entries - 1) (set entries place last) k no_entry lt
    ∙ elim (cases_eq k place) [
      | inl same ↦ ap (λ (n : ℕ). get_or (set entries place last) n no_entry) same ∙ get_or-set_same entries place last no_entry within
          ∙ ap (λ (b : Bool). get_or entries (cond b (length entries - 1) k) no_entry) (sym (eq-eqb k place same))
      | inr other ↦ get_or-set_other entries place k last no_entry other ∙ ap (λ (b : Bool). get_or entries (cond b (length entries - 1) k) no_entry) (sym (ne_eqb k place other))
    ]

source-lt : (len place k : ℕ) → k < len - 1 → source len place k < len
source-lt len place k lt = cond_both (eqb k place) (len - 1) k (λ (n : ℕ). n < len) (λ _. omega (arith, lt)) (λ _. omega (arith, lt))

source_apart : (len place i j : ℕ) → i < len - 1 → j < len - 1 → i ≢ j → source len place i ≢ source len place j
source_apart len place i j i_in j_in other =
    elim (cases_eq i place) [
      | inl i_at ↦
          let from_i : source len place i ≡ len - 1 = ap (λ (b : Bool). cond b (len - 1) i) (eq-eqb i place i_at) in
          let from_j : source len place j ≡ j = ap (λ (b : Bool). cond b (len - 1) j) (ne_eqb j place (λ e. other (i_at ∙ sym e))) in
          λ e. omega (arith, from_i, from_j, e, j_in)
      | inr i_off ↦
          let from_i : source len place i ≡ i = ap (λ (b : Bool). cond b (len - 1) i) (ne_eqb i place i_off) in
          elim (cases_eq j place) [
            | inl j_at ↦
                let from_j : source len place j ≡ len - 1 = ap (λ (b : Bool). cond b (len - 1) j) (eq-eqb j place j_at) in
                λ e. omega (arith, from_i, from_j, e, i_in)
            | inr j_off ↦
                let from_j : source len place j ≡ j = ap (λ (b : Bool). cond b (len - 1) j) (ne_eqb j place j_off) in
                λ e. other (sym from_i ∙ e ∙ from_j)
          ]
    ]

pub taken_are : (entries : List DirEntry) (name : List ℕ) (node : ℕ) → AreEntries entries → StandsAt entries name node → AreEntries (entry_taken name entries)
taken_are entries name node are at =
    let place : ℕ = place_of name entries in
    let last : DirEntry = get_or entries (length entries - 1) no_entry in
    let len = length-taken entries name node at in
    let P : DirEntry → Type 0 = λ entry. IsEntryName entry.name in
    record {
      names = All-take P (length entries - 1) (set entries place last) (All-set P entries place last (are.names (length entries - 1) no_entry (omega (arith, at.within))) are.names);
      distinct = pairs (entry_taken name entries) (λ i j i_in j_in other same.
          let i_lt : i < length entries - 1 = omega (arith, i_in, len) in
          let j_lt : j < length entries - 1 = omega (arith, j_in, len) in
          apart entries are.distinct (source (length entries) place i) (source (length entries) place j) (source-lt (length entries) place i i_lt) (source-lt (length entries) place j j_lt)
          (source_apart (length entries) place i j i_lt j_lt other)
          (ap (λ (entry : DirEntry). entry.name) (sym (from_source entries place i at.within i_lt)) ∙ same ∙ ap (λ (entry : DirEntry). entry.name) (from_source entries place j at.within j_lt)));
    }

pub taken_among : (entries : List DirEntry) (name : List ℕ) (node : ℕ) (entry : DirEntry) → StandsAt entries name node → Contains (entry_taken name entries) entry → Contains entries entry
taken_among entries name node entry at among =
    let place : ℕ = place_of name entries in
    let k : ℕ = among.0 in
    let lt : k < length entries - 1 = omega (arith, among.1, length-taken entries name node at) in
    let is : get_or entries (source (length entries) place k) no_entry ≡ entry =
    sym (from_source entries place k at.within lt) ∙ get_or_default (entry_taken name entries) k no_entry entry among.1 ∙ among.2 in
    subst (λ (e : DirEntry). Contains entries e) is (Contains-get_or entries (source (length entries) place k) no_entry (source-lt (length entries) place k lt))

-- ---- an entry that changes in its place

-- an entry at a place of a list that has another one there
pub set_among : (entries : List DirEntry) (place : ℕ) (new entry : DirEntry) → Contains (set entries place new) entry → Contains entries entry ⊎ (new ≡ entry)
set_among entries place new entry among =
    let k : ℕ = among.0 in
    let lt : k < length entries = omega (arith, among.1, length-set entries place new) in
    elim (cases_eq k place) [
      | inl same ↦
          let at : get_or (set entries place new) k entry ≡ new = ap (λ (n : ℕ). get_or (set entries place new) n entry) same ∙ get_or-set_same entries place new entry (omega (arith, lt, same)) in
          inr (sym at ∙ among.2)
      | inr other ↦ inl (k, lt, sym (get_or-set_other entries place k new entry other) ∙ among.2)
    ]

pub count-aimed : (entries : List DirEntry) (name : List ℕ) (node new number : ℕ) → StandsAt entries name node
    → count_of number (entry_aimed name new entries) + one_at node number ≡ count_of number entries + one_at new number
count-aimed entries name node new number at =
    let here : one_at (get_or entries (place_of name entries) no_entry).node number ≡ one_at node number = ap (λ (n : ℕ). one_at n number) at.aims in
    let sum = sum_by-set (λ entry. cond (names_node number entry) 1 0) entries (place_of name entries) (entry_for new name) no_entry at.within in
    omega (arith, sum, here)

-- with another entry in the place of a name, each place has the name that it had, or the new one there
name_at-set : (entries : List DirEntry) (place : ℕ) (new : DirEntry) → place < length entries → (get_or entries place no_entry).name ≡ new.name
    → (k : ℕ) → (get_or (set entries place new) k no_entry).name ≡ (get_or entries k no_entry).name
name_at-set entries place new within same k =
    elim (cases_eq k place) [
      | inl here ↦ ap (λ (n : ℕ). (get_or (set entries place new) n no_entry).name) here ∙ ap (λ (e : DirEntry). e.name) (get_or-set_same entries place new no_entry within) ∙ sym same
          ∙ ap (λ (n : ℕ). (get_or entries n no_entry).name) (sym here)
      | inr other ↦ ap (λ (e : DirEntry). e.name) (get_or-set_other entries place k new no_entry other)
    ]

pub aimed_are : (entries : List DirEntry) (name : List ℕ) (node new : ℕ) → AreEntries entries → StandsAt entries name node → AreEntries (entry_aimed name new entries)
aimed_are entries name node new are at =
    let place : ℕ = place_of name entries in
    let changed : List DirEntry = entry_aimed name new entries in
    let len : length changed ≡ length entries = length-set entries place (entry_for new name) in
    let is : IsEntryName name = subst IsEntryName at.called (are.names place no_entry at.within) in
    let names = name_at-set entries place (entry_for new name) at.within at.called in
    record {
      names = All-set (λ entry. IsEntryName entry.name) entries place (entry_for new name) is are.names;
      distinct = pairs changed (λ i j i_in j_in other same. apart entries are.distinct i j (omega (arith, i_in, len)) (omega (arith, j_in, len)) other (sym (names i) ∙ same ∙ names j));
    }

pub count-renamed : (entries : List DirEntry) (old new : List ℕ) (node number : ℕ) → StandsAt entries old node → count_of number (entry_renamed old new node entries) ≡ count_of number entries
count-renamed entries old new node number at =
    let here : one_at (get_or entries (place_of old entries) no_entry).node number ≡ one_at node number = ap (λ (n : ℕ). one_at n number) at.aims in
    let sum = sum_by-set (λ entry. cond (names_node number entry) 1 0) entries (place_of old entries) (entry_for node new) no_entry at.within in
    omega (arith, sum, here)

pub renamed_are : (entries : List DirEntry) (old new : List ℕ) (node : ℕ) → AreEntries entries → StandsAt entries old node → IsEntryName new → found_among entries new ≡ None
    → AreEntries (entry_renamed old new node entries)
renamed_are entries old new node are at is none =
    let place : ℕ = place_of old entries in
    let entry : DirEntry = entry_for node new in
    let changed : List DirEntry = entry_renamed old new node entries in
    let len : length changed ≡ length entries = length-set entries place entry in
    let nowhere = stands_nowhere entries new none in
    let here : get_or changed place no_entry ≡ entry = get_or-set_same entries place entry no_entry at.within in
    let name_of : DirEntry → List ℕ = λ e. e.name in
    let off : (k : ℕ) → k ≢ place → get_or changed k no_entry ≡ get_or entries k no_entry = λ k other. get_or-set_other entries place k entry no_entry other in
    let differs : (i j : ℕ) → j < length entries → i ≡ place → j ≢ place → name_of (get_or changed i no_entry) ≢ name_of (get_or changed j no_entry)
    = λ i j j_in i_at j_off same. nowhere j j_in (ap name_of (sym (off j j_off)) ∙ sym same ∙ ap (λ (n : ℕ). name_of (get_or changed n no_entry)) i_at ∙ ap name_of here) in
    record {
      names = All-set (λ e. IsEntryName e.name) entries place entry is are.names;
      distinct = pairs changed (λ i j i_in j_in other same.
          let i_lt : i < length entries = omega (arith, i_in, len) in
          let j_lt : j < length entries = omega (arith, j_in, len) in
          elim (cases_eq i place) [
            | inl i_at ↦ differs i j j_lt i_at (λ e. other (i_at ∙ sym e)) same
            | inr i_off ↦ elim (cases_eq j place) [
              | inl j_at ↦ differs j i i_lt j_at i_off (sym same)
              | inr j_off ↦ apart entries are.distinct i j i_lt j_lt other (ap name_of (sym (off i i_off)) ∙ same ∙ ap name_of (off j j_off))
            ]
          ]);
    }

-- once an entry is taken out, no place has its name
pub name_apart : (entries : List DirEntry) (name : List ℕ) (node : ℕ) → AreEntries entries → StandsAt entries name node → (k : ℕ) → k < length (entry_taken name entries)
    → (get_or (entry_taken name entries) k no_entry).name ≢ name
name_apart entries name node are at k within same =
    let place : ℕ = place_of name entries in
    let lt : k < length entries - 1 = omega (arith, within, length-taken entries name node at) in
    let from = from_source entries place k at.within lt in
    let off : source (length entries) place k ≢ place =
    elim (cases_eq k place) [
      | inl here ↦ λ e. omega (arith, here, lt, sym (ap (λ (b : Bool). cond b (length entries - 1) k) (eq-eqb k place here)) ∙ e)
      | inr other ↦ λ e. other (sym (ap (λ (b : Bool). cond b (length entries - 1) k) (ne_eqb k place other)) ∙ e)
    ] in
    apart entries are.distinct (source (length entries) place k) place (source-lt (length entries) place k lt) at.within off (ap (λ (entry : DirEntry). entry.name) (sym from) ∙ same ∙ sym at.called)

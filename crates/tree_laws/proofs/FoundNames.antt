-- What is found under a name after a change of the entries.
use Rattle.std.proofs.Common.{◌≡◌, ◌≢◌, ℕ, ◌-◌, ◌<◌, ◌≤◌, Bool, true, cond, inl, inr, List, [], ◌∷◌, length, get_or, Option, Some, None, refl, sym, ap, ◌∙◌, arith}
use Rattle.std.specs.Str.{bytes_eq}
use Rattle.std.specs.Option.{option_map, option_or}
use Rattle.std.specs.List.{find}
use Rattle.std.proofs.lemmas.Bool.{cond-true, cases_lt, cases_eq, eq-eqb, ne_eqb}
use Rattle.std.proofs.lemmas.Option.{none-some, slice_get-get_or, slice_get_past}
use Rattle.std.proofs.lemmas.List.{length-set, get_or-set_same, get_or-set_other}
use Rattle.std.proofs.lemmas.List.Folds.{find-append, find_at, position_or_len-set}
use Rattle.std.proofs.lemmas.Slice.Eq.{bytes_eq-Decides}
use Rattle.kabi_types.specs.declared.inodes.DirEntry.{DirEntry}
use Rattle.posix_defs.specs.DiskContents.{entry_for}
use Rattle.posix_defs.specs.Tree.{has_name, found_among}
use Rattle.posix_defs.specs.TreeChanges.{place_of, no_entry, entry_put, entry_taken, entry_aimed, entry_renamed}
use Rattle.posix_defs.specs.IsTree.{AreEntries}
use Rattle.tree_laws.proofs.EntryLists.{StandsAt, stands_at, stands_nowhere, name_apart, apart, source, from_source, taken_are, length-taken}

-- nothing found is nothing found by the test
none_found : (entries : List DirEntry) (name : List ℕ) → found_among entries name ≡ None → find (has_name name) entries ≡ None
none_found entries name none = plain (find (has_name name) entries) none
  where
    plain : (o : Option DirEntry) → option_map {U = ℕ} (λ entry. entry.node) o ≡ None → o ≡ None
    plain None is = refl
    plain (Some entry) is = absurd (none-some entry.node (sym is))

pub found-put : (entries : List DirEntry) (name : List ℕ) (node : ℕ) → found_among entries name ≡ None → found_among (entry_put name node entries) name ≡ Some node
found-put entries name node none =
    let same : has_name name (entry_for node name) ≡ true = (bytes_eq-Decides name name).1 refl in
    ap (option_map (λ entry. entry.node)) (find-append (has_name name) entries (entry_for node name ∷ [])
    ∙ ap (λ (o : Option DirEntry). option_or o (find (has_name name) (entry_for node name ∷ []))) (none_found entries name none)
    ∙ cond-true (has_name name (entry_for node name)) (Some (entry_for node name)) None same)

-- found by its place
pub found_by_place : (entries : List DirEntry) (name : List ℕ) → place_of name entries < length entries → found_among entries name ≡ Some (get_or entries (place_of name entries) no_entry).node
found_by_place entries name lt = ap (option_map (λ entry. entry.node)) (find_at (has_name name) entries ∙ slice_get-get_or entries (place_of name entries) no_entry lt)

pub found_past : (entries : List DirEntry) (name : List ℕ) → length entries ≤ place_of name entries → found_among entries name ≡ None
found_past entries name past = ap (option_map (λ entry. entry.node)) (find_at (has_name name) entries ∙ slice_get_past entries (place_of name entries) past)

-- what stands under a name is found there
pub found_standing : (entries : List DirEntry) (name : List ℕ) (node : ℕ) → StandsAt entries name node → found_among entries name ≡ Some node
found_standing entries name node at = found_by_place entries name at.within ∙ ap Some at.aims

pub found-taken : (entries : List DirEntry) (name : List ℕ) (node : ℕ) → AreEntries entries → StandsAt entries name node → found_among (entry_taken name entries) name ≡ None
found-taken entries name node are at =
    let taken : List DirEntry = entry_taken name entries in
    elim (cases_lt (place_of name taken) (length taken)) [
      | inl lt ↦
          let stands = stands_at taken name (get_or taken (place_of name taken) no_entry).node (found_by_place taken name lt) in
          absurd (name_apart entries name node are at (place_of name taken) lt stands.called)
      | inr past ↦ found_past taken name past
    ]

pub found-aimed : (entries : List DirEntry) (name : List ℕ) (node aim : ℕ) → StandsAt entries name node → found_among (entry_aimed name aim entries) name ≡ Some aim
found-aimed entries name node aim at =
    let place : ℕ = place_of name entries in
    let entry : DirEntry = entry_for aim name in
    let same_test : has_name name entry ≡ has_name name (get_or entries place no_entry) = ap (λ (called : List ℕ). bytes_eq called name) (sym at.called) in
    let same_place : place_of name (entry_aimed name aim entries) ≡ place = position_or_len-set (has_name name) entries place entry no_entry same_test in
    let within : place_of name (entry_aimed name aim entries) < length (entry_aimed name aim entries) = omega (arith, same_place, length-set entries place entry, at.within) in
    found_by_place (entry_aimed name aim entries) name within
    ∙ ap (λ (k : ℕ). Some (get_or (entry_aimed name aim entries) k no_entry).node) same_place
    ∙ ap (λ (e : DirEntry). Some e.node) (get_or-set_same entries place entry no_entry at.within)

-- an entry at any place is what is found under its name
pub found_at_place : (entries : List DirEntry) (name : List ℕ) (k : ℕ) → AreEntries entries → k < length entries → (get_or entries k no_entry).name ≡ name
    → found_among entries name ≡ Some (get_or entries k no_entry).node
found_at_place entries name k are lt called =
    elim (cases_lt (place_of name entries) (length entries)) [
      | inl within ↦
          let stands = stands_at entries name (get_or entries (place_of name entries) no_entry).node (found_by_place entries name within) in
          let same : place_of name entries ≡ k = elim (cases_eq (place_of name entries) k) [
            | inl e ↦ e
            | inr other ↦ absurd (apart entries are.distinct (place_of name entries) k within lt other (stands.called ∙ sym called))
          ] in
          found_by_place entries name within ∙ ap (λ (n : ℕ). Some (get_or entries n no_entry).node) same
      | inr past ↦ absurd (stands_nowhere entries name (found_past entries name past) k lt called)
    ]

-- where nothing has a name, nothing is found
pub found_nowhere : (entries : List DirEntry) (name : List ℕ) → ((k : ℕ) → k < length entries → (get_or entries k no_entry).name ≢ name) → found_among entries name ≡ None
found_nowhere entries name nowhere =
    elim (cases_lt (place_of name entries) (length entries)) [
      | inl within ↦
          let stands = stands_at entries name (get_or entries (place_of name entries) no_entry).node (found_by_place entries name within) in
          absurd (nowhere (place_of name entries) within stands.called)
      | inr past ↦ found_past entries name past
    ]

-- where another name goes, one that is there is found as before
pub found-taken_other : (entries : List DirEntry) (name other : List ℕ) (node aim : ℕ) → AreEntries entries → StandsAt entries name node → StandsAt entries other aim → other ≢ name
    → found_among (entry_taken name entries) other ≡ Some aim
found-taken_other entries name other node aim are at at_other differs =
    let taken : List DirEntry = entry_taken name entries in
    let are_taken = taken_are entries name node are at in
    let len = length-taken entries name node at in
    let place : ℕ = place_of name entries in
    let k : ℕ = place_of other entries in
    let apart_places : k ≢ place = λ e. differs (sym at_other.called ∙ ap (λ (n : ℕ). (get_or entries n no_entry).name) e ∙ at.called) in
    let found_there : (j : ℕ) → j < length taken → source (length entries) place j ≡ k → found_among taken other ≡ Some aim = λ j lt from.
    let there : get_or taken j no_entry ≡ get_or entries k no_entry = from_source entries place j at.within (omega (arith, lt, len)) ∙ ap (λ (n : ℕ). get_or entries n no_entry) from in
    found_at_place taken other j are_taken lt (ap (λ (e : DirEntry). e.name) there ∙ at_other.called) ∙ ap (λ (e : DirEntry). Some e.node) there ∙ ap Some at_other.aims in
    elim (cases_eq k (length entries - 1)) [
      | inl last ↦
          let lt : place < length taken = elim (cases_lt place (length taken)) [ inl below ↦ below | inr past ↦ absurd (apart_places (omega (arith, last, past, len, at.within))) ] in
          found_there place lt (ap (λ (b : Bool). cond b (length entries - 1) place) (eq-eqb place place refl) ∙ sym last)
      | inr before ↦
          let lt : k < length taken = elim (cases_lt k (length taken)) [ inl below ↦ below | inr past ↦ absurd (before (omega (arith, past, len, at_other.within))) ] in
          found_there k lt (ap (λ (b : Bool). cond b (length entries - 1) k) (ne_eqb k place apart_places))
    ]

pub found-renamed : (entries : List DirEntry) (old new : List ℕ) (node : ℕ) → AreEntries (entry_renamed old new node entries) → StandsAt entries old node → found_among (entry_renamed old new node entries) new ≡ Some node
found-renamed entries old new node are at =
    let place : ℕ = place_of old entries in
    let entry : DirEntry = entry_for node new in
    let changed : List DirEntry = entry_renamed old new node entries in
    let here : get_or changed place no_entry ≡ entry = get_or-set_same entries place entry no_entry at.within in
    found_at_place changed new place are (omega (arith, length-set entries place entry, at.within)) (ap (λ (e : DirEntry). e.name) here) ∙ ap (λ (e : DirEntry). Some e.node) here

pub found-renamed_old : (entries : List DirEntry) (old new : List ℕ) (node : ℕ) → AreEntries entries → StandsAt entries old node → new ≢ old → found_among (entry_renamed old new node entries) old ≡ None
found-renamed_old entries old new node are at differs =
    let place : ℕ = place_of old entries in
    let entry : DirEntry = entry_for node new in
    let changed : List DirEntry = entry_renamed old new node entries in
    found_nowhere changed old (λ k lt. elim (cases_eq k place) [
      | inl same ↦ λ called. differs (sym (ap (λ (n : ℕ). (get_or changed n no_entry).name) same ∙ ap (λ (e : DirEntry). e.name) (get_or-set_same entries place entry no_entry at.within)) ∙ called)
      | inr other ↦ λ called. apart entries are.distinct k place (omega (arith, lt, length-set entries place entry)) at.within other
          (sym (ap (λ (e : DirEntry). e.name) (get_or-set_other entries place k entry no_entry other)) ∙ called ∙ sym at.called)
    ])

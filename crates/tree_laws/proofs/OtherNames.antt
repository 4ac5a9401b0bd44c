-- What is found under a name that a change of the entries doesn't touch.
use Rattle.std.proofs.Common.{◌≡◌, ◌≢◌, ℕ, ◌-◌, ◌<◌, ◌≤◌, Bool, false, inl, inr, List, [], ◌∷◌, length, get_or, set, Option, Some, None, refl, sym, ap, ◌∙◌, arith}
use Rattle.std.specs.Option.{option_map, option_or}
use Rattle.std.specs.List.{find, Contains}
use Rattle.std.proofs.lemmas.Bool.{cases_Bool, cases_lt, cond-false}
use Rattle.std.proofs.lemmas.List.{get_or_default, length-set, get_or-set_other}
use Rattle.std.proofs.lemmas.List.Folds.{find-append, position_or_len-set}
use Rattle.std.proofs.lemmas.Slice.Eq.{bytes_eq-Decides}
use Rattle.kabi_types.specs.declared.inodes.DirEntry.{DirEntry}
use Rattle.posix_defs.specs.DiskContents.{entry_for}
use Rattle.posix_defs.specs.Tree.{has_name, found_among}
use Rattle.posix_defs.specs.TreeChanges.{place_of, no_entry, entry_put, entry_taken, entry_aimed, entry_renamed}
use Rattle.posix_defs.specs.IsTree.{AreEntries}
use Rattle.tree_laws.proofs.EntryLists.{StandsAt, stands_at, stands_nowhere, taken_among}
use Rattle.tree_laws.proofs.FoundNames.{found_by_place, found_past, found_nowhere, found-taken_other}

not_named : (entry : DirEntry) (called : List ℕ) → entry.name ≢ called → has_name called entry ≡ false
not_named entry called off = elim (cases_Bool (has_name called entry)) [
  | inl is ↦ absurd (off ((bytes_eq-Decides entry.name called).0 is))
  | inr not ↦ not
]

or_nothing : (o : Option DirEntry) → option_or o None ≡ o
or_nothing None = refl
or_nothing (Some entry) = refl

pub put_other : (entries : List DirEntry) (name called : List ℕ) (node : ℕ) → called ≢ name → found_among (entry_put name node entries) called ≡ found_among entries called
put_other entries name called node differs =
    let off : has_name called (entry_for node name) ≡ false = not_named (entry_for node name) called (λ e. differs (sym e)) in
    ap (option_map (λ entry. entry.node)) (find-append (has_name called) entries (entry_for node name ∷ [])
    ∙ ap (λ (o : Option DirEntry). option_or (find (has_name called) entries) o) (cond-false (has_name called (entry_for node name)) (Some (entry_for node name)) None off)
    ∙ or_nothing (find (has_name called) entries))

-- an entry that changes in its place, from one name to another
pub set_other : (entries : List DirEntry) (place : ℕ) (entry : DirEntry) (called : List ℕ) → (get_or entries place no_entry).name ≢ called → entry.name ≢ called
    → found_among (set entries place entry) called ≡ found_among entries called
set_other entries place entry called was is =
    let changed : List DirEntry = set entries place entry in
    let same_test : has_name called entry ≡ has_name called (get_or entries place no_entry) = not_named entry called is ∙ sym (not_named (get_or entries place no_entry) called was) in
    let same : place_of called changed ≡ place_of called entries = position_or_len-set (has_name called) entries place entry no_entry same_test in
    let len : length changed ≡ length entries = length-set entries place entry in
    elim (cases_lt (place_of called entries) (length entries)) [
      | inl lt ↦
          let stands = stands_at entries called (get_or entries (place_of called entries) no_entry).node (found_by_place entries called lt) in
          let off : place_of called entries ≢ place = λ e. was (ap (λ (k : ℕ). (get_or entries k no_entry).name) (sym e) ∙ stands.called) in
          found_by_place changed called (omega (arith, same, len, lt))
          ∙ ap (λ (k : ℕ). Some (get_or changed k no_entry).node) same
          ∙ ap (λ (e : DirEntry). Some e.node) (get_or-set_other entries place (place_of called entries) entry no_entry off)
          ∙ sym (found_by_place entries called lt)
      | inr past ↦ found_past changed called (omega (arith, same, len, past)) ∙ sym (found_past entries called past)
    ]

pub aimed_other : (entries : List DirEntry) (name called : List ℕ) (node aim : ℕ) → StandsAt entries name node → called ≢ name → found_among (entry_aimed name aim entries) called ≡ found_among entries called
aimed_other entries name called node aim at differs = set_other entries (place_of name entries) (entry_for aim name) called (λ e. differs (sym e ∙ at.called)) (λ e. differs (sym e))

pub renamed_other : (entries : List DirEntry) (old new called : List ℕ) (node : ℕ) → StandsAt entries old node → called ≢ old → called ≢ new → found_among (entry_renamed old new node entries) called ≡ found_among entries called
renamed_other entries old new called node at differs apart = set_other entries (place_of old entries) (entry_for node new) called (λ e. differs (sym e ∙ at.called)) (λ e. apart (sym e))

taken_from : (entries : List DirEntry) (name called : List ℕ) (node : ℕ) (found : Option ℕ) → AreEntries entries → StandsAt entries name node → called ≢ name → found_among entries called ≡ found
    → found_among (entry_taken name entries) called ≡ found
taken_from entries name called node None are at differs is =
    let taken : List DirEntry = entry_taken name entries in
    found_nowhere taken called (
    λ k lt same.
    let among = taken_among entries name node (get_or taken k no_entry) at (k, lt, get_or_self taken k lt) in
    stands_nowhere entries called is among.0 among.1 (ap (λ (e : DirEntry). e.name) (get_or_at entries among.0 (get_or taken k no_entry) among.1 ∙ among.2) ∙ same)
    )
  where
    get_or_self : (xs : List DirEntry) (k : ℕ) → k < length xs → get_or xs k (get_or xs k no_entry) ≡ get_or xs k no_entry
    get_or_self xs k lt = get_or_default xs k (get_or xs k no_entry) no_entry lt

    get_or_at : (xs : List DirEntry) (k : ℕ) (other : DirEntry) → k < length xs → get_or xs k no_entry ≡ get_or xs k other
    get_or_at xs k other lt = get_or_default xs k no_entry other lt
taken_from entries name called node (Some aim) are at differs is = found-taken_other entries name called node aim are at (stands_at entries called aim is) differs

pub taken_other : (entries : List DirEntry) (name called : List ℕ) (node : ℕ) → AreEntries entries → StandsAt entries name node → called ≢ name → found_among (entry_taken name entries) called ≡ found_among entries called
taken_other entries name called node are at differs = taken_from entries name called node (found_among entries called) are at differs refl

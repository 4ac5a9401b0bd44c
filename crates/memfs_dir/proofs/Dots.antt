-- Entries behind `.` and `..`.
use Rattle.std.proofs.Common.{◌≡◌, ◌≢◌, ℕ, zero, suc, ◌+◌, ◌-◌, ◌<◌, Bool, false, not, ltb, List, ◌∷◌, length, get_or, set, take, Some, None, sym, ap, ◌∙◌, arith}
use Rattle.std.specs.List.{position_or_len, swap_remove}
use Rattle.std.proofs.lemmas.Bool.{cond-true, lt-ltb}
use Rattle.kabi_types.specs.declared.inodes.DirEntry.{DirEntry}
use Rattle.posix_defs.specs.DiskContents.{entry_for, own_name, parent_name}
use Rattle.posix_defs.specs.Tree.{has_name, found_among}
use Rattle.posix_defs.specs.TreeChanges.{no_entry, place_of, entry_taken}
use Rattle.tree_laws.proofs.EntryLists.{stands_nowhere}
use Rattle.memfs_dir.specs.Listed.{place_called}
use Rattle.memfs_dir.proofs.Found.{not_called, none_called}

abbrev pub whole : ℕ → ℕ → List DirEntry → List DirEntry
whole dir parent entries = entry_for dir own_name ∷ entry_for parent parent_name ∷ entries

one_further : (test : DirEntry → Bool) (entry : DirEntry) (entries : List DirEntry) → test entry ≡ false → position_or_len test (entry ∷ entries) ≡ 1 + position_or_len test entries
one_further test entry entries fails = cond-true (not (test entry)) (1 + position_or_len test entries) 0 (ap not fails)

two_further : (dir parent : ℕ) (entries : List DirEntry) (name : List ℕ) → name ≢ own_name → name ≢ parent_name → place_of name (whole dir parent entries) ≡ place_of name entries + 2
two_further dir parent entries name not_own not_parent =
    let first = one_further (has_name name) (entry_for dir own_name) (entry_for parent parent_name ∷ entries) (not_called (entry_for dir own_name) name (λ e. not_own (sym e))) in
    let second = one_further (has_name name) (entry_for parent parent_name) entries (not_called (entry_for parent parent_name) name (λ e. not_parent (sym e))) in
    omega (arith, first, second)

pub found_behind : (dir parent : ℕ) (entries : List DirEntry) (name : List ℕ) → name ≢ own_name → name ≢ parent_name → place_of name entries < length entries
    → place_called name (whole dir parent entries) ≡ Some (place_of name entries + 2)
found_behind dir parent entries name not_own not_parent lt =
    let all : List DirEntry = whole dir parent entries in
    let at = two_further dir parent entries name not_own not_parent in
    cond-true (ltb (place_of name all) (length all)) (Some (place_of name all)) None (lt-ltb (place_of name all) (length all) (omega (arith, at, lt)))
    ∙ ap (λ (n : ℕ). Some n) at

pub missing_behind : (dir parent : ℕ) (entries : List DirEntry) (name : List ℕ) → name ≢ own_name → name ≢ parent_name → found_among entries name ≡ None → place_called name (whole dir parent entries) ≡ None
missing_behind dir parent entries name not_own not_parent free = none_called (whole dir parent entries) name each
  where
    each : (k : ℕ) → k < length (whole dir parent entries) → (get_or (whole dir parent entries) k no_entry).name ≢ name
    each zero lt = λ e. not_own (sym e)
    each (suc zero) lt = λ e. not_parent (sym e)
    each (suc (suc k)) lt = stands_nowhere entries name free k (omega (arith, lt))

two_more : (n : ℕ) → n + 2 ≡ suc (suc n)
two_more n = omega arith

pub set_behind : (dir parent : ℕ) (entries : List DirEntry) (place : ℕ) (entry : DirEntry) → set (whole dir parent entries) (place + 2) entry ≡ whole dir parent (set entries place entry)
set_behind dir parent entries place entry = ap (λ (n : ℕ). set (whole dir parent entries) n entry) (two_more place)

pub taken_behind : (dir parent : ℕ) (entries : List DirEntry) (name : List ℕ) → place_of name entries < length entries
    → swap_remove (whole dir parent entries) (place_of name entries + 2) no_entry ≡ whole dir parent (entry_taken name entries)
taken_behind dir parent entries name lt =
    let all : List DirEntry = whole dir parent entries in
    let last : length all - 1 ≡ suc (suc (length entries - 1)) = omega (arith, lt) in
    ap (λ (n : ℕ). take (length all - 1) (set all n (get_or all (length all - 1) no_entry))) (two_more (place_of name entries))
    ∙ ap (λ (n : ℕ). take n (set all (suc (suc (place_of name entries))) (get_or all n no_entry))) last

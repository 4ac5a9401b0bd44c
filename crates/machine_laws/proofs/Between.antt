-- The offset of a description that is open on a directory stays between two entries.
use Rattle.std.proofs.Common.{◌≡◌, ℕ, suc, ◌+◌, ◌*◌, ◌/◌, ◌%◌, ◌≤◌, ◌==◌, ◌-◌, Bool, true, false, not, ◌&&◌, List, [], ◌∷◌, ◌++◌, drop, length, refl, sym, ap, ◌∙◌, arith, inl, inr, length-append, length-drop, length-take}
use Rattle.std.specs.Prelude.{replicate}
use Rattle.std.specs.List.{All, AllByRecursion, flat_map}
use Rattle.std.proofs.lemmas.Bool.{false≢true}
use Rattle.std.proofs.lemmas.Bool.Decides.{eqb_tells}
use Rattle.std.proofs.lemmas.List.{length-replicate}
use Rattle.std.proofs.lemmas.List.Concat.{flat_map-cons}
use Rattle.kabi_types.specs.declared.inodes.DirEntry.{DirEntry}
use Rattle.posix_defs.specs.DiskFormat.{entry_bytes}
use Rattle.posix_defs.specs.IsTree.{IsTree}
use Rattle.posix_defs.specs.PathCalls.{all_entries, list_node}
use Rattle.posix_defs.specs.Tree.{Tree, entries_at, is_directory}
use Rattle.posix_defs.specs.Calls.OnFiles.{is_between_entries}
use Rattle.posix_defs.specs.Files.Descriptions.{Description, OnNode}
use Rattle.tree_laws.proofs.TreeKeeps.{entries_are}
use Rattle.machine_laws.specs.FileSteps.{StaysBetween}

same_number : (number other : ℕ) → OnNode number ≡ OnNode other → number ≡ other
same_number number other e = cc

-- ---- what is no directory

pub of_file : (tree : Tree) (was : Description) (number offset : ℕ) → was.target ≡ OnNode number → is_directory tree number ≡ false → StaysBetween tree was offset
of_file tree was number offset on isnt other on_it is_tree dir between =
    absurd (false≢true (sym isnt ∙ ap (is_directory tree) (same_number number other (sym on ∙ on_it)) ∙ dir))

-- ---- a seek

sought : (whole : Bool) (directory : Bool) → (directory && not whole) ≡ false → directory ≡ true → whole ≡ true
sought true directory isnt dir = refl
sought false true isnt dir = absurd (false≢true (sym isnt))
sought false false isnt dir = dir

pub sought_between : (tree : Tree) (was : Description) (number offset : ℕ) → was.target ≡ OnNode number → is_between_entries tree number offset ≡ false → StaysBetween tree was offset
sought_between tree was number offset on isnt other on_it is_tree dir between =
    let directory = ap (is_directory tree) (same_number number other (sym on ∙ on_it)) ∙ dir in
    whole (sought (offset % 32 == 0) (is_directory tree number) isnt directory)
  where
    whole : (offset % 32 == 0) ≡ true → offset % 32 ≡ 0
    whole is = elim (eqb_tells (offset % 32) 0) [ inl alike ↦ alike.1 | inr apart ↦ absurd (false≢true (sym apart.0 ∙ is)) ]

-- ---- entries are listed

length-one : (entry : DirEntry) → length entry.name ≤ 27 → length (entry_bytes entry) ≡ 32
unfolding entry_bytes
length-one entry few =
    let zeros : List ℕ = replicate (27 - length entry.name) 0 in
    let many : length (entry.name ++ zeros) ≡ 27 = omega (arith, length-append entry.name zeros, length-replicate {A = ℕ} (27 - length entry.name) 0, few) in
    omega (arith, many)

length-all : (entries : List DirEntry) → AllByRecursion (λ entry. length entry.name ≤ 27) entries → length (flat_map entry_bytes entries) ≡ 32 * length entries
length-all [] each = refl
length-all (entry ∷ entries) each =
    omega (arith, ap length (flat_map-cons entry_bytes entry entries), length-append (entry_bytes entry) (flat_map entry_bytes entries), length-one entry each.0, length-all entries each.1)

each_short : (entries : List DirEntry) → All (λ entry. length entry.name ≤ 27) entries → AllByRecursion (λ entry. length entry.name ≤ 27) entries
each_short [] all = tt
each_short (entry ∷ entries) all = (all 0 entry (omega arith), each_short entries (λ k d lt. all (suc k) d (omega (arith, lt))))

list_between : (tree : Tree) (dir at n : ℕ) → IsTree tree → is_directory tree dir ≡ true → at % 32 ≡ 0 → (at + length (list_node tree dir at n)) % 32 ≡ 0
list_between tree dir at n is directory whole =
    let are = entries_are tree dir is directory in
    let many = length-all (all_entries tree dir) (omega arith, (omega arith, each_short (entries_at tree dir) (λ k d lt. (are.names k d lt).valid.len.1))) in
    let taken = length-take (32 * (n / 32)) (drop at (flat_map entry_bytes (all_entries tree dir))) in let left = length-drop at (flat_map entry_bytes (all_entries tree dir)) in
    omega (arith, many, taken, left, whole)

pub listed_between : (tree : Tree) (was : Description) (number n : ℕ) → was.target ≡ OnNode number → StaysBetween tree was (was.offset + length (list_node tree number was.offset n))
listed_between tree was number n on other on_it is_tree dir between =
    list_between tree number was.offset n is_tree (ap (is_directory tree) (same_number number other (sym on ∙ on_it)) ∙ dir) between

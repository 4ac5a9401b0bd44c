-- The small tree is one: each of its nodes was made.
use Rattle.std.proofs.Common.{◌≡◌, ℕ, ◌^◌, ◌<◌, ◌&&◌, Bool, true, List, [], get_or, Some, None, ltb, refl, arith}
use Rattle.std.specs.List.{All, list_all}
use Rattle.std.specs.Prelude.{codes}
use Rattle.std.proofs.lemmas.Bool.{and_parts, ltb-true}
use Rattle.std.proofs.lemmas.List.Sums.{AllPass-from_list_all}
use Rattle.posix_defs.specs.Tree.{File, Directory, SocketName, new_tree}
use Rattle.posix_defs.specs.IsTree.{IsEntryName, IsTree}
use Rattle.kabi_types.specs.Arguments.{path_fault}
use Rattle.posix_defs.specs.Paths.{resolve, last_name}
use Rattle.tree_laws.proofs.PathLeads.{last_is_entry_name}
use Rattle.tree_laws.proofs.NewTree.{new_is_tree}
use Rattle.tree_laws.proofs.TreeKeeps.{make_keeps}
use Rattle.path_walk.specs.SmallTree.{long_name, with_bin, with_old, with_shell, with_file, with_long, small_tree}

abbrev is_byte : ℕ → Bool
is_byte byte = ltb 0 byte && ltb byte 256

bytes : (path : List ℕ) → list_all is_byte path ≡ true → All (λ byte. (0 < byte) × (byte < 2 ^ 8)) path
bytes path are = λ k d lt.
    let both = and_parts (ltb 0 (get_or path k d)) (ltb (get_or path k d) 256) (AllPass-from_list_all is_byte path are k d lt) in
    (ltb-true 0 (get_or path k d) both.0, ltb-true (get_or path k d) 256 both.1)

-- a path of one name that is free in the new tree
entry_name : (name : List ℕ) → path_fault name ≡ None → list_all is_byte name ≡ true → last_name (resolve (new_tree 16) 1 name) ≡ Some name → IsEntryName name
entry_name name fine are last = last_is_entry_name (new_tree 16) 1 name name fine (bytes name are) last

bin_is : IsTree with_bin
bin_is = make_keeps (new_tree 16) 1 (codes "bin") (Directory 1 []) 2 with_bin (new_is_tree 16 (omega arith) (omega arith)) refl (entry_name (codes "bin") refl refl refl) refl (refl, refl) refl

old_is : IsTree with_old
old_is = make_keeps with_bin 2 (codes "old") (Directory 2 []) 3 with_old bin_is refl (entry_name (codes "old") refl refl refl) refl (refl, refl) refl

shell_is : IsTree with_shell
shell_is = make_keeps with_old 2 (codes "sh") (File []) 4 with_shell old_is refl (entry_name (codes "sh") refl refl refl) refl refl refl

file_is : IsTree with_file
file_is = make_keeps with_shell 1 (codes "f") (File []) 5 with_file shell_is refl (entry_name (codes "f") refl refl refl) refl refl refl

long_is : IsTree with_long
long_is = make_keeps with_file 1 long_name (Directory 1 []) 6 with_long file_is refl (entry_name long_name refl refl refl) refl (refl, refl) refl

pub small_is : IsTree small_tree
small_is = make_keeps with_long 1 (codes "s") SocketName 7 small_tree long_is refl (entry_name (codes "s") refl refl refl) refl tt refl

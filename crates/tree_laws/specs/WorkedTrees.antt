-- Small trees for worked examples, on disks of 16 blocks.
use Rattle.std.specs.Prelude.{List, ◌∷◌, ℕ, Bool, true, false, [], codes}
use Rattle.kabi_types.specs.declared.scripts.Program.{Program}
use Rattle.posix_defs.specs.Tree.{File, Directory, Tree, new_tree}
use Rattle.posix_defs.specs.TreeChanges.{with_new, with_entries, link_added, entry_put}
use Rattle.posix_defs.specs.PathCalls.{Opening}

-- a file `f`
abbrev pub one_file : Tree
one_file = with_new (new_tree 16) 2 1 (codes "f") (File [])

-- files `a` to `d`, from node 2 on
abbrev pub four_files : Tree
four_files =
    with_new (with_new (with_new (with_new (new_tree 16) 2 1 (codes "a") (File [])) 3 1 (codes "b") (File [])) 4 1 (codes "c") (File [])) 5 1 (codes "d") (File [])

-- directories `/a`, `/a/b` and `/c`, nodes 2 to 4
abbrev pub three_directories : Tree
three_directories =
    with_new (with_new (with_new (new_tree 16) 2 1 (codes "a") (Directory 1 [])) 3 2 (codes "b") (Directory 2 [])) 4 1 (codes "c") (Directory 1 [])

-- on a disk of 64 blocks: directories `/a` and `/a/b`, and a file `/f`, which gets the further name `/g`
abbrev pub with_a : Tree
with_a = with_new (new_tree 64) 2 1 (codes "a") (Directory 1 [])

abbrev pub with_b : Tree
with_b = with_new with_a 3 2 (codes "b") (Directory 2 [])

abbrev pub with_f : Tree
with_f = with_new with_b 4 1 (codes "f") (File [])

abbrev pub with_g : Tree
with_g = with_entries (link_added with_f 4) 1 (entry_put (codes "g") 4)

-- no node is opened, and nobody works in one
abbrev pub nowhere : ℕ → Bool
nowhere _ = false

-- an open to write that makes the file where it is missing
abbrev pub to_write : Opening
to_write = record { writes = true; creates = true; excludes = false; truncates = false }

-- files `/s` and `/b`
abbrev pub with_script : Tree
with_script = with_new (with_new (new_tree 16) 2 1 (codes "s") (File (codes "#!sh\nx"))) 3 1 (codes "b") (File (codes "#!shell\n"))

abbrev pub empty_program : List ℕ → Program
empty_program name = record { name = name; body = [] }

abbrev pub two_programs : List Program
two_programs = empty_program (codes "init") ∷ empty_program (codes "sh") ∷ []

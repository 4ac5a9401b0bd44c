-- A small tree for tests: in the root `bin`, `f`, a name of 27 letters and `s`; in `bin` `old` and `sh`.
use Rattle.std.specs.Prelude.{ℕ, List, [], codes}
use Rattle.posix_defs.specs.Tree.{File, Directory, SocketName, Tree, new_tree}
use Rattle.posix_defs.specs.TreeChanges.{with_new}

-- a name as long as a name may be
abbrev pub long_name : List ℕ
long_name = codes "abcdefghijklmnopqrstuvwxyza"

abbrev pub with_bin : Tree
with_bin = with_new (new_tree 16) 2 1 (codes "bin") (Directory 1 [])

abbrev pub with_old : Tree
with_old = with_new with_bin 3 2 (codes "old") (Directory 2 [])

abbrev pub with_shell : Tree
with_shell = with_new with_old 4 2 (codes "sh") (File [])

abbrev pub with_file : Tree
with_file = with_new with_shell 5 1 (codes "f") (File [])

abbrev pub with_long : Tree
with_long = with_new with_file 6 1 long_name (Directory 1 [])

abbrev pub small_tree : Tree
small_tree = with_new with_long 7 1 (codes "s") SocketName

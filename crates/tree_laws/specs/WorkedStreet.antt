-- Trees for worked calls, written out node by node, on disks of 16 blocks: 14 are for files.
use Rattle.std.specs.Prelude.{ℕ, ◌-◌, Bool, true, false, List, [], ◌∷◌, ◌++◌, map, length, replicate, Option, None, Some, Result, codes}
use Rattle.std.specs.List.{range_with_len}
use Rattle.kabi_types.specs.declared.errnos.Errno.{Errno}
use Rattle.kabi_types.specs.declared.inodes.DirEntry.{DirEntry}
use Rattle.posix_defs.specs.DiskContents.{entry_for}
use Rattle.posix_defs.specs.Tree.{File, Directory, SocketName, Node, Tree}
use Rattle.posix_defs.specs.PathCalls.{Opening, rename_path, link_path, unlink_path, rmdir_path}
use Rattle.tree_laws.specs.WorkedTrees.{nowhere}

abbrev pub a_directory : ℕ → List DirEntry → Option Node
a_directory parent entries = Some (record { links = 1; content = Directory parent entries })

abbrev pub a_file : ℕ → List ℕ → Option Node
a_file links bytes = Some (record { links = links; content = File bytes })

abbrev pub a_socket : ℕ → Option Node
a_socket links = Some (record { links = links; content = SocketName })

-- these nodes, and no others
abbrev pub tree_of : List (Option Node) → Tree
tree_of nodes = record { blocks = 16; nodes = nodes ++ replicate (16 - length nodes) None }

abbrev pub entry_a : DirEntry
entry_a = entry_for 2 (codes "a")

abbrev pub entry_e : DirEntry
entry_e = entry_for 4 (codes "e")

abbrev pub entry_f : DirEntry
entry_f = entry_for 5 (codes "f")

abbrev pub entry_s : DirEntry
entry_s = entry_for 6 (codes "s")

abbrev pub entry_b : DirEntry
entry_b = entry_for 3 (codes "b")

abbrev pub entry_g : DirEntry
entry_g = entry_for 7 (codes "g")

abbrev pub root_of : List DirEntry → Option Node
root_of entries = a_directory 1 entries

-- directories `/a`, `/a/b` and `/e`, files `/f` and `/a/g`, a socket's name `/s`
abbrev pub street : Tree
street =
    tree_of (root_of (entry_a ∷ entry_e ∷ entry_f ∷ entry_s ∷ []) ∷ a_directory 1 (entry_b ∷ entry_g ∷ []) ∷ a_directory 2 [] ∷ a_directory 1 []
    ∷ a_file 1 (7 ∷ []) ∷ a_socket 1 ∷ a_file 1 (8 ∷ []) ∷ [])

-- no block is free: `/d` has 32 entries with its first two, all of `/f`, which has as many links as a node may have; `/big` takes 12 blocks
abbrev pub packed : Tree
packed =
    tree_of (root_of (entry_for 2 (codes "d") ∷ entry_for 3 (codes "f") ∷ entry_for 4 (codes "big") ∷ []) ∷ a_directory 1 (map (λ letter. entry_for 3 (letter ∷ [])) (range_with_len 65 30))
    ∷ a_file 127 [] ∷ a_file 1 (replicate 11264 0) ∷ [])

-- no node is free
abbrev pub crowded : Tree
crowded = tree_of (root_of [] ∷ replicate 15 (a_file 1 []))

-- every node is opened, or somebody works in it
abbrev pub everywhere : ℕ → Bool
everywhere _ = true

-- the answers to renames from the root, of a tree that nobody else uses
abbrev pub renamed : Tree → List (List ℕ × List ℕ) → List (Result (Option ℕ × Tree) Errno)
renamed tree paths = map (λ path. rename_path tree 1 path.0 path.1 nowhere nowhere) paths

-- and of one in which every directory is busy
abbrev pub renamed_busy : Tree → List (List ℕ × List ℕ) → List (Result (Option ℕ × Tree) Errno)
renamed_busy tree paths = map (λ path. rename_path tree 1 path.0 path.1 nowhere everywhere) paths

abbrev pub linked : Tree → List (List ℕ × List ℕ) → List (Result Tree Errno)
linked tree paths = map (λ path. link_path tree 1 path.0 path.1) paths

abbrev pub unlinked : Tree → List (List ℕ) → List (Result (Option ℕ × Tree) Errno)
unlinked tree paths = map (λ path. unlink_path tree 1 path nowhere) paths

abbrev pub rmdirs : Tree → List (List ℕ) → (ℕ → Bool) → List (Result Tree Errno)
rmdirs tree paths busy = map (λ path. rmdir_path tree 1 path busy) paths

-- ways to open
abbrev pub to_read : Opening
to_read = record { writes = false; creates = false; excludes = false; truncates = false }

abbrev pub to_change : Opening
to_change = record { writes = true; creates = false; excludes = false; truncates = false }

abbrev pub to_cut : Opening
to_cut = record { writes = true; creates = false; excludes = false; truncates = true }

abbrev pub to_create : Opening
to_create = record { writes = false; creates = true; excludes = false; truncates = false }

abbrev pub to_create_anew : Opening
to_create_anew = record { writes = true; creates = true; excludes = true; truncates = false }

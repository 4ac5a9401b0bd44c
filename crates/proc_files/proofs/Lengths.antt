-- How many bytes a read of a node gives, and where it ends.
use Rattle.std.proofs.Common.{◌≡◌, ℕ, suc, ◌+◌, ◌-◌, ◌*◌, ◌/◌, ◌%◌, ◌<◌, ◌≤◌, ◌^◌, true, List, [], ◌∷◌, ◌++◌, drop, length, Option, None, Some, refl, ap, ◌∙◌, arith, length-append, length-drop, length-take}
use Rattle.std.specs.Prelude.{replicate}
use Rattle.std.proofs.lemmas.List.{length-replicate}
use Rattle.std.specs.List.{All, AllByRecursion, flat_map}
use Rattle.std.proofs.lemmas.List.Concat.{flat_map-cons}
use Rattle.kabi_types.specs.declared.inodes.DirEntry.{DirEntry}
use Rattle.posix_defs.specs.DiskFormat.{entry_bytes, greatest_size}
use Rattle.posix_defs.specs.IsTree.{IsTree}
use Rattle.posix_defs.specs.PathCalls.{all_entries, bytes_in, bytes_of, list_node, read_node}
use Rattle.posix_defs.specs.Tree.{Content, Directory, Fifo, File, Node, SocketName, Tree, entries_at, is_directory, node_at, size_of}
use Rattle.tree_laws.proofs.TreeKeeps.{entries_are, entries_fit}

-- ---- files

bytes_few : (content : Content) → length (bytes_of content) ≤ size_of content
bytes_few (File bytes) = omega arith
bytes_few (Directory parent entries) = omega arith
bytes_few SocketName = omega arith
bytes_few Fifo = omega arith

file_few : (tree : Tree) (number : ℕ) → IsTree tree → length (bytes_in (node_at tree number)) ≤ greatest_size
file_few tree number is = by_node (node_at tree number) refl
  where
    by_node : (o : Option Node) → node_at tree number ≡ o → length (bytes_in o) ≤ greatest_size
    by_node None none = omega arith
    by_node (Some node) there = let few = bytes_few node.content in let most = (is.nodes number node there).size in omega (arith, few, most)

pub read_ends : (tree : Tree) (number at n : ℕ) → IsTree tree → at < 2 ^ 64 → at + length (read_node tree number at n) < 2 ^ 64
read_ends tree number at n is few =
    let bytes = bytes_in (node_at tree number) in
    let most = file_few tree number is in
    let taken = length-take n (drop at bytes) in let left = length-drop at bytes in
    omega (arith, most, taken, left, few)

-- ---- directories

length-one : (entry : DirEntry) → length entry.name ≤ 27 → length (entry_bytes entry) ≡ 32
unfolding entry_bytes
length-one entry few =
    let zeros : List ℕ = replicate (27 - length entry.name) 0 in
    let many : length (entry.name ++ zeros) ≡ 27 = omega (arith, length-append entry.name zeros, length-replicate {A = ℕ} (27 - length entry.name) 0, few) in
    omega (arith, many)

length-all : (entries : List DirEntry) → AllByRecursion (λ entry. length entry.name ≤ 27) entries → length (flat_map entry_bytes entries) ≡ 32 * length entries
length-all [] each = refl
length-all (entry ∷ entries) each =
    omega (arith, ap length (flat_map-cons entry_bytes entry entries), length-append (entry_bytes entry) (flat_map entry_bytes entries), length-one entry each.0, length-all entries each.1)

each_short : (entries : List DirEntry) → All (λ entry. length entry.name ≤ 27) entries → AllByRecursion (λ entry. length entry.name ≤ 27) entries
each_short [] all = tt
each_short (entry ∷ entries) all = (all 0 entry (omega arith), each_short entries (λ k d lt. all (suc k) d (omega (arith, lt))))

-- the bytes of a directory's entries are whole ones, and few
pub record ListedBytes (tree : Tree) (dir : ℕ) : Type 0 where
  pub entries : ℕ
  pub many : length (flat_map entry_bytes (all_entries tree dir)) ≡ 32 * entries
  pub few : 32 * entries ≤ greatest_size

pub listed_bytes : (tree : Tree) (dir : ℕ) → IsTree tree → is_directory tree dir ≡ true → ListedBytes tree dir
listed_bytes tree dir is directory =
    let are = entries_are tree dir is directory in
    record {
      entries = length (entries_at tree dir) + 2;
      many =
          length-all (all_entries tree dir) (omega arith, (omega arith, each_short (entries_at tree dir) (λ k d lt. (are.names k d lt).valid.len.1)))
          ∙ ap (λ n. 32 * n) (let more : length (all_entries tree dir) ≡ length (entries_at tree dir) + 2 = omega arith in more);
      few = entries_fit tree dir is directory;
    }

-- so many whole entries end between two
pub list_between : (tree : Tree) (dir at n : ℕ) → IsTree tree → is_directory tree dir ≡ true → at % 32 ≡ 0 → (at + length (list_node tree dir at n)) % 32 ≡ 0
list_between tree dir at n is directory whole =
    let it = listed_bytes tree dir is directory in
    let many = it.many in
    let taken = length-take (32 * (n / 32)) (drop at (flat_map entry_bytes (all_entries tree dir))) in let left = length-drop at (flat_map entry_bytes (all_entries tree dir)) in
    omega (arith, many, taken, left, whole)

pub list_ends : (tree : Tree) (dir at n : ℕ) → IsTree tree → is_directory tree dir ≡ true → at < 2 ^ 64 → at + length (list_node tree dir at n) < 2 ^ 64
list_ends tree dir at n is directory few =
    let it = listed_bytes tree dir is directory in
    let many = it.many in let most = it.few in
    let taken = length-take (32 * (n / 32)) (drop at (flat_map entry_bytes (all_entries tree dir))) in let left = length-drop at (flat_map entry_bytes (all_entries tree dir)) in
    omega (arith, many, most, taken, left, few)

-- ---- no more than are asked for

pub read_few : (tree : Tree) (number at n : ℕ) → length (read_node tree number at n) ≤ n
read_few tree number at n = let taken = length-take n (drop at (bytes_in (node_at tree number))) in omega (arith, taken)

pub list_few : (tree : Tree) (dir at n : ℕ) → length (list_node tree dir at n) ≤ n
list_few tree dir at n = let taken = length-take (32 * (n / 32)) (drop at (flat_map entry_bytes (all_entries tree dir))) in omega (arith, taken)

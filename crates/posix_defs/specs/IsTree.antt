-- What every tree that is reached keeps.
use Rattle.std.specs.Prelude.{ℕ, ◌+◌, ◌^◌, ◌<◌, ◌≤◌, ◌≡◌, ◌≢◌, ◌==◌, Bool, true, if◌then◌else◌, List, [], length, Option, Some}
use Rattle.std.specs.List.{All, AllPairs, Contains, count_by, sum_by}
use Rattle.kabi_types.specs.declared.inodes.DirEntry.{DirEntry}
use Rattle.posix_defs.specs.DiskFormat.{greatest_size, table_end, table_nodes, IsName}
use Rattle.posix_defs.specs.DiskContents.{own_name, parent_name}
use Rattle.posix_defs.specs.PathCalls.{is_socket_kind, kind_of_content}
use Rattle.posix_defs.specs.Tree.{Content, File, Directory, SocketName, Fifo, Node, Tree, root, node_at, is_directory, is_directory_content, links_at, entries_in, entries_at, parent_at, climbed, size_of, used_blocks}

-- a name that an entry may have: `.` and `..` stand before all entries
pub record IsEntryName (name : List ℕ) : Type 0 where
  pub valid : IsName name
  pub own : name ≢ own_name
  pub parent : name ≢ parent_name

-- each entry has a name that it may have, and no two have one name
pub record AreEntries (entries : List DirEntry) : Type 0 where
  pub names : All (λ entry. IsEntryName entry.name) entries
  pub distinct : AllPairs (λ one other. one.name ≢ other.name) entries

-- what a node holds is a list of bytes, or the entries of a directory
abbrev pub IsContent : Content → Type 0
IsContent (File bytes) = All (λ byte. byte < 2 ^ 8) bytes
IsContent (Directory _ entries) = AreEntries entries
IsContent SocketName = Unit {0}
IsContent Fifo = Unit {0}

-- what a new node in a directory holds: a file without bytes, a directory below it without entries, a socket's name, or a FIFO
abbrev pub IsNewContent : ℕ → Content → Type 0
IsNewContent dir (File bytes) = bytes ≡ []
IsNewContent dir (Directory parent entries) = (parent ≡ dir) × (entries ≡ [])
IsNewContent dir SocketName = Unit {0}
IsNewContent dir Fifo = Unit {0}

-- a node that may be there: a directory has one link, and a socket's name has links as long as it is there
pub record IsNode (node : Node) : Type 0 where
  pub content : IsContent node.content
  pub size : size_of node.content ≤ greatest_size
  pub links : node.links ≤ 127
  pub single : is_directory_content node.content ≡ true → node.links ≡ 1
  pub socket : is_socket_kind (kind_of_content node.content) ≡ true → 0 < node.links

-- the entry names the node of this number
abbrev pub names_node : ℕ → DirEntry → Bool
names_node number entry = entry.node == number

-- how many entries of a node name another
abbrev pub named_in : ℕ → Option Node → ℕ
named_in number there = count_by (names_node number) (entries_in there)

-- how many entries of the whole tree name a node
abbrev pub names_of : Tree → ℕ → ℕ
names_of tree number = sum_by (named_in number) tree.nodes

-- the root has a link that no entry is
abbrev pub unnamed_links : ℕ → ℕ
unnamed_links number = if number == root then 1 else 0

-- What every tree keeps: its nodes fit the disk, links count the names, and all directories hang below the root.
pub record IsTree (tree : Tree) : Type 0 where
  -- the disk's size, and its nodes
  pub enough : 16 ≤ tree.blocks
  pub most : tree.blocks ≤ 4096
  pub count : length tree.nodes ≡ table_nodes tree.blocks
  -- all nodes fit beside the map and the table
  pub room : 1 + table_end tree.blocks + used_blocks tree ≤ tree.blocks
  pub nodes : (number : ℕ) (node : Node) → node_at tree number ≡ Some node → IsNode node
  -- a node's links count the entries that name it. So what an entry names is in use, and nothing names a free node.
  pub links : (number : ℕ) → links_at tree number ≡ names_of tree number + unnamed_links number
  -- the root is a directory and its own parent
  pub root_directory : is_directory tree root ≡ true
  pub root_parent : parent_at tree root ≡ root
  -- the parent of a directory is a directory, and that of one that an entry names is where the entry stands
  pub parents : (dir : ℕ) → is_directory tree dir ≡ true → is_directory tree (parent_at tree dir) ≡ true
  pub below : (dir : ℕ) (entry : DirEntry) → Contains (entries_at tree dir) entry → is_directory tree entry.node ≡ true → parent_at tree entry.node ≡ dir
  -- every directory climbs to the root
  pub climbs : (dir : ℕ) → is_directory tree dir ≡ true → (steps : ℕ) × (climbed tree steps dir ≡ root)

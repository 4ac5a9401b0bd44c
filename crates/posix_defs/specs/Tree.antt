-- The tree of files: what there is of each node, and what is found from one node to another. No block occurs in it: how many
-- a node takes follows from its size.
use Rattle.std.specs.Prelude.{ℕ, zero, suc, ◌+◌, ◌-◌, ◌*◌, ◌≡◌, Bool, true, false, List, [], ◌∷◌, length, replicate, Option, None, Some, is_some, is_none, slice_index_or, slice_set}
use Rattle.std.specs.List.{find, position_from, sum_by}
use Rattle.std.specs.Option.{option_map}
use Rattle.std.specs.Str.{bytes_eq}
use Rattle.kabi_types.specs.declared.inodes.DirEntry.{DirEntry}
use Rattle.kabi_types.specs.declared.inodes.Inode.{Inode}
use Rattle.posix_defs.specs.DiskFormat.{table_end, table_nodes, blocks_of}

-- what a node holds
pub data Content : Type 0 where
  -- the bytes of a file
  File : List ℕ → Content
  -- the parent of a directory, and its entries behind `.` and `..` in their order
  Directory : ℕ → List DirEntry → Content
  -- the name of a socket
  SocketName : Content
  -- a FIFO: its bytes are in a pipe, while it is open
  Fifo : Content

-- a node in use
pub record Node : Type 0 where
  pub links : ℕ
  pub content : Content

-- The tree of files on a disk.
pub record Tree : Type 0 where
  -- how many blocks the disk has
  pub blocks : ℕ
  -- what there is of each node that the disk has an inode for, None for a free one; node 1 stands first
  pub nodes : List (Option Node)

-- the node of the root
abbrev pub root : ℕ
root = 1

-- the kind of a directory in the table
abbrev pub directory : ℕ
directory = 2

-- ---- one node

-- the node of a number; None where it is free, and where the disk has no such node
abbrev pub node_at : Tree → ℕ → Option Node
node_at tree zero = None
node_at tree (suc before) = slice_index_or tree.nodes before None

-- the same tree with something else at a number
abbrev pub with_node : Tree → ℕ → Option Node → Tree
with_node tree zero there = tree
with_node tree (suc before) there = record tree { nodes = slice_set tree.nodes before there }

-- a number's node is in use
abbrev pub is_in_use : Tree → ℕ → Bool
is_in_use tree number = is_some (node_at tree number)

-- it is what a directory holds
abbrev pub is_directory_content : Content → Bool
is_directory_content (Directory _ _) = true
is_directory_content _ = false

-- a node is in use and is a directory
abbrev pub is_directory_in : Option Node → Bool
is_directory_in None = false
is_directory_in (Some node) = is_directory_content node.content

-- a number's node is a directory in use
abbrev pub is_directory : Tree → ℕ → Bool
is_directory tree number = is_directory_in (node_at tree number)

-- the links of a node in use, else 0
abbrev pub links_in : Option Node → ℕ
links_in None = 0
links_in (Some node) = node.links

-- how many links a node has, 0 for a free one
abbrev pub links_at : Tree → ℕ → ℕ
links_at tree number = links_in (node_at tree number)

-- ---- a directory

-- a directory's entries behind `.` and `..`; of anything else none
abbrev pub entries_of : Content → List DirEntry
entries_of (Directory _ entries) = entries
entries_of _ = []

-- the entries of a node in use, else none
abbrev pub entries_in : Option Node → List DirEntry
entries_in None = []
entries_in (Some node) = entries_of node.content

-- a directory's entries behind `.` and `..`; of any other node none
abbrev pub entries_at : Tree → ℕ → List DirEntry
entries_at tree number = entries_in (node_at tree number)

-- the parent that a directory has; of anything else the root
abbrev pub parent_of : Content → ℕ
parent_of (Directory parent _) = parent
parent_of _ = root

-- the parent of a node in use, else the root
abbrev pub parent_in : Option Node → ℕ
parent_in None = root
parent_in (Some node) = parent_of node.content

-- the directory that a directory's `..` names; the root's is the root
abbrev pub parent_at : Tree → ℕ → ℕ
parent_at tree number = parent_in (node_at tree number)

-- the entry has this name
abbrev pub has_name : List ℕ → DirEntry → Bool
has_name name entry = bytes_eq entry.name name

-- the node of the first entry that has this name
abbrev pub found_among : List DirEntry → List ℕ → Option ℕ
found_among entries name = option_map (λ entry. entry.node) (find (has_name name) entries)

-- the node under a name of a directory; None where the name isn't there
abbrev pub found : Tree → ℕ → List ℕ → Option ℕ
found tree dir name = found_among (entries_at tree dir) name

-- the directory after so many steps by `..`
abbrev pub climbed : Tree → ℕ → ℕ → ℕ
climbed tree zero number = number
climbed tree (suc steps) number = climbed tree steps (parent_at tree number)

-- ---- sizes

-- in bytes; a directory has 32 for each entry, `.` and `..` among them
abbrev pub size_of : Content → ℕ
size_of (File bytes) = length bytes
size_of (Directory _ entries) = 32 * (length entries + 2)
size_of SocketName = 0
size_of Fifo = 0

-- the size in bytes of a node in use, else 0
abbrev pub size_in : Option Node → ℕ
size_in None = 0
size_in (Some node) = size_of node.content

-- the size of a node in bytes, 0 for a free one
abbrev pub size_at : Tree → ℕ → ℕ
size_at tree number = size_in (node_at tree number)

-- how many blocks a node in use takes, that of its pointers among them; else 0
abbrev pub blocks_in : Option Node → ℕ
blocks_in there = blocks_of (size_in there)

-- how many blocks all nodes take
abbrev pub used_blocks : Tree → ℕ
used_blocks tree = sum_by blocks_in tree.nodes

-- how many blocks are left beside the map, the table and what the nodes take
abbrev pub free_blocks : Tree → ℕ
free_blocks tree = tree.blocks - 1 - table_end tree.blocks - used_blocks tree

-- the free node of the lowest number, which is made next
abbrev pub free_node : Tree → Option ℕ
free_node tree = position_from is_none 1 tree.nodes

-- ---- the inode of a node

-- 1 for a file, 2 for a directory, 3 for a socket's name, 4 for a FIFO
abbrev pub kind_of : Content → ℕ
kind_of (File _) = 1
kind_of (Directory _ _) = directory
kind_of SocketName = 3
kind_of Fifo = 4

-- the inode says of a node what there is beside its pointers
pub record IsInodeOf (node : Node) (inode : Inode) : Type 0 where
  pub kind : inode.kind ≡ kind_of node.content
  pub links : inode.nlink ≡ node.links
  pub size : inode.size ≡ size_of node.content

-- a node is in use, and the inode says of it what there is beside its pointers
abbrev pub IsInodeIn : Option Node → Inode → Type 0
IsInodeIn None inode = ⊥
IsInodeIn (Some node) inode = IsInodeOf node inode

-- a node in use has this inode, beside its pointers
abbrev pub IsInodeAt : Tree → ℕ → Inode → Type 0
IsInodeAt tree number inode = IsInodeIn (node_at tree number) inode

-- ---- the new tree

-- a directory without entries but `.` and `..`, which both name the root; its one link is no entry
abbrev pub new_root_node : Node
new_root_node = record { links = 1; content = Directory root [] }

-- a root without entries but `.` and `..`, on a disk of so many blocks
abbrev pub new_tree : ℕ → Tree
new_tree blocks = record { blocks = blocks; nodes = Some new_root_node ∷ replicate (table_nodes blocks - 1) None }

-- What a call leaves of a disk on which it makes a node, says something else of one beside its size, or frees one.
use Rattle.std.specs.Prelude.{ℕ, ◌+◌, ◌-◌, ◌<◌, ◌≡◌, ◌≢◌, Bool, true, false, List, [], length, Result, Ok, Err}
use Rattle.kabi_types.specs.declared.errnos.Errno.{Errno}
use Rattle.kabi_types.specs.declared.inodes.Inode.{Inode}
use Rattle.posix_defs.specs.DiskFormat.{blocks_of}
use Rattle.posix_defs.specs.SoundDisk.{block_bytes, HasInode, HasNode, IsFreeNode, free_in_map}
use Rattle.posix_defs.specs.DiskContents.{node_bytes}
use Rattle.posix_defs.specs.DiskTree.{HasContent, StandsFor, ChangesNode}
use Rattle.posix_defs.specs.Tree.{Content, File, Directory, SocketName, Fifo, Node, Tree, IsInodeOf, size_of}
use Rattle.posix_defs.specs.IsTree.{IsTree}
use Rattle.memfs_node.specs.declared.making.NewNode.{NewNode}
use Rattle.memfs_node.specs.declared.making.NewNode.TheVariants as kinds

-- what a new node holds: no bytes, no entries, or a socket's name
abbrev pub content_of : NewNode → Content
content_of kinds.File = File []
content_of (kinds.Directory parent) = Directory parent []
content_of kinds.SocketName = SocketName
content_of kinds.Fifo = Fifo

-- a directory has a parent
abbrev pub HasParent : NewNode → Type 0
HasParent (kinds.Directory parent) = 0 < parent
HasParent _ = Unit {0}

-- a new node as the tree has it
abbrev pub new_node : Content → Node
new_node content = record { links = 1; content = content }

-- the table has another kind and other links of a node: its size, its blocks and their bytes are what they were, and so is the map
pub record Retags (number : ℕ) (before : List (List ℕ)) (old : Inode) (kind links : ℕ) (after : List (List ℕ)) (new : Inode) : Type 0 where
  pub changes : ChangesNode before after number
  pub has : HasInode after number new
  pub fields : new ≡ record old { kind = kind; nlink = links }
  pub bytes : node_bytes after new ≡ node_bytes before old
  pub map : block_bytes after 0 ≡ block_bytes before 0
  pub free : free_in_map after ≡ free_in_map before

-- a node alone changes: it is in use with one link and holds this, in as many blocks as that takes
pub record Makes (number : ℕ) (before : List (List ℕ)) (content : Content) (after : List (List ℕ)) (inode : Inode) : Type 0 where
  pub changes : ChangesNode before after number
  pub has : HasInode after number inode
  pub shows : IsInodeOf (new_node content) inode
  pub holds : HasContent after number inode content
  pub free : free_in_map after + blocks_of (size_of content) ≡ free_in_map before

-- a node alone changes: it has no bytes and no blocks any more
pub record Empties (number : ℕ) (before : List (List ℕ)) (old : Inode) (after : List (List ℕ)) (new : Inode) : Type 0 where
  pub changes : ChangesNode before after number
  pub has : HasInode after number new
  pub size : new.size ≡ 0
  pub free : free_in_map after ≡ free_in_map before + blocks_of old.size

-- a node alone changes: it is free, and so are the blocks that it had
pub record Frees (number : ℕ) (before : List (List ℕ)) (old : Inode) (after : List (List ℕ)) : Type 0 where
  pub changes : ChangesNode before after number
  pub gone : IsFreeNode after number
  pub free : free_in_map after ≡ free_in_map before + blocks_of old.size

-- a node has one link less, or is gone
abbrev pub DropsLink : Bool → ℕ → List (List ℕ) → Inode → List (List ℕ) → Inode → Type 0
DropsLink true number before old after new = Frees number before old after
DropsLink false number before old after new = Retags number before old old.kind (old.nlink - 1) after new

-- every node in use but one has the inode that it had, on a disk of as many blocks
pub record KeepsOthers (number : ℕ) (before after : List (List ℕ)) : Type 0 where
  pub blocks : length after ≡ length before
  pub nodes : (other : ℕ) (inode : Inode) → other ≢ number → HasNode before other inode → HasNode after other inode

-- the disk stands for a tree
abbrev pub HasTree : List (List ℕ) → Type 0
HasTree disk = (tree : Tree) × StandsFor disk tree × IsTree tree

-- a call answers what the tree answers, and leaves a disk that stands for the tree after it; where that has a fault, the disk as it was
abbrev pub AnswersAs : List (List ℕ) → List (List ℕ) → Result (ℕ × Tree) Errno → Result ℕ Errno → Type 0
AnswersAs before after (Ok (number, tree)) answer = (answer ≡ Ok number) × StandsFor after tree
AnswersAs before after (Err errno) answer = (answer ≡ Err errno) × (after ≡ before)

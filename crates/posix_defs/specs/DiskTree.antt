-- When a disk stands for a tree, and what a change of one node leaves.
use Rattle.std.specs.Prelude.{ℕ, ◌<◌, ◌≤◌, ◌≡◌, ◌≢◌, List, ◌∷◌, length, Option, None, Some}
use Rattle.kabi_types.specs.declared.inodes.Inode.{Inode}
use Rattle.posix_defs.specs.DiskFormat.{table_nodes}
use Rattle.posix_defs.specs.SoundDisk.{HasInode, Place, HasPlace, named_at, Sound, IsFreeNode}
use Rattle.posix_defs.specs.DiskContents.{node_bytes, HasEntries, entry_for, own_name, parent_name}
use Rattle.posix_defs.specs.Tree.{Content, File, Directory, SocketName, Fifo, Node, Tree, node_at, IsInodeOf}

-- what an inode, read through its pointers, holds
abbrev pub HasContent : List (List ℕ) → ℕ → Inode → Content → Type 0
HasContent disk number inode (File bytes) = node_bytes disk inode ≡ bytes
HasContent disk number inode (Directory parent entries) = HasEntries disk inode (entry_for number own_name ∷ entry_for parent parent_name ∷ entries)
HasContent disk number inode SocketName = Unit {0}
HasContent disk number inode Fifo = Unit {0}

-- the disk has this node under a number
pub record HasNodeOf (disk : List (List ℕ)) (number : ℕ) (node : Node) : Type 0 where
  pub inode : Inode
  pub has : HasInode disk number inode
  pub shows : IsInodeOf node inode
  pub content : HasContent disk number inode node.content

-- the disk has what there is under a number
abbrev pub HasThere : List (List ℕ) → ℕ → Option Node → Type 0
HasThere disk number None = IsFreeNode disk number
HasThere disk number (Some node) = HasNodeOf disk number node

-- the disk stands for the tree
pub record StandsFor (disk : List (List ℕ)) (tree : Tree) : Type 0 where
  pub sound : Sound disk
  pub blocks : length disk ≡ tree.blocks
  pub count : length tree.nodes ≡ table_nodes tree.blocks
  pub each : (number : ℕ) → 0 < number → number ≤ table_nodes tree.blocks → HasThere disk number (node_at tree number)

-- a disk changed at one node alone: it is sound, and every other node has its inode, names its blocks, and has its bytes
pub record ChangesNode (old new : List (List ℕ)) (number : ℕ) : Type 0 where
  pub sound : Sound new
  pub blocks : length new ≡ length old
  pub inodes : (other : ℕ) (inode : Inode) → other ≢ number → HasInode old other inode → HasInode new other inode
  pub bytes : (other : ℕ) (inode : Inode) → other ≢ number → HasInode old other inode → node_bytes new inode ≡ node_bytes old inode
  pub names : (other : ℕ) (inode : Inode) (place : Place) → other ≢ number → HasInode old other inode → HasPlace inode.size place → named_at new inode place ≡ named_at old inode place

-- A node in use, seen from its tree and from its disk.
use Rattle.std.specs.Prelude.{ℕ, ◌≡◌, List, Option, Some}
use Rattle.kabi_types.specs.declared.inodes.Inode.{Inode}
use Rattle.posix_defs.specs.SoundDisk.{HasNode}
use Rattle.posix_defs.specs.DiskTree.{HasContent}
use Rattle.posix_defs.specs.Tree.{Node, IsInodeOf}

-- the disk has the inode of this node in use, and what it holds
pub record HasNodeIn (disk : List (List ℕ)) (number : ℕ) (node : Node) : Type 0 where
  pub inode : Inode
  pub has : HasNode disk number inode
  pub shows : IsInodeOf node inode
  pub content : HasContent disk number inode node.content

-- what there is under the number is the node of this inode
pub record IsNodeIn (disk : List (List ℕ)) (number : ℕ) (inode : Inode) (there : Option Node) : Type 0 where
  pub node : Node
  pub is : there ≡ Some node
  pub shows : IsInodeOf node inode
  pub content : HasContent disk number inode node.content

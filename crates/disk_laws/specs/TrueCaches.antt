-- Caches that are true of a disk: each cached name, inode and block is what the disk says now.
use Rattle.std.specs.Prelude.{ℕ, ◌≡◌, List, Option, Some}
use Rattle.kabi_types.specs.declared.inodes.Inode.{Inode}
use Rattle.kabi_types.specs.declared.inodes.DirEntry.{DirEntry}
use Rattle.posix_defs.specs.SoundDisk.{HasInode}
use Rattle.posix_defs.specs.DiskContents.{HasEntries, Finds}

-- a look for the name in the directory finds this node
pub record HasName (disk : List (List ℕ)) (dir : ℕ) (name : List ℕ) (node : ℕ) : Type 0 where
  pub inode : Inode
  pub entries : List DirEntry
  pub has : HasInode disk dir inode
  pub list : HasEntries disk inode entries
  pub found : Finds entries name node

-- a cache of names: it may have the node that is called so in a directory
abbrev pub TrueNames : List (List ℕ) → (ℕ → List ℕ → Option ℕ) → Type 0
TrueNames disk cached = (dir : ℕ) (name : List ℕ) (node : ℕ) → cached dir name ≡ Some node → HasName disk dir name node

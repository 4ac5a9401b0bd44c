-- The first two entries of a directory.
use Rattle.std.specs.Prelude.{ℕ, ◌+◌, ◌≡◌, List, [], ◌∷◌}
use Rattle.kabi_types.specs.declared.inodes.Inode.{Inode}
use Rattle.posix_defs.specs.SoundDisk.{HasInode, free_in_map}
use Rattle.posix_defs.specs.DiskContents.{HasEntries, entry_for, own_name, parent_name}
use Rattle.posix_defs.specs.DiskTree.{ChangesNode}
use Rattle.memfs_dir.specs.Slots.{HasBytesOf}

-- a block has `.` and `..` in its first two slots
pub record HasDots (block : List ℕ) (number parent : ℕ) : Type 0 where
  pub first : HasBytesOf block 0 (entry_for number own_name)
  pub second : HasBytesOf block 1 (entry_for parent parent_name)

-- a directory without any entry gets `.` and `..`, and a block for them
pub record PutsDots (number : ℕ) (before : List (List ℕ)) (old : Inode) (parent : ℕ) (after : List (List ℕ)) (new : Inode) : Type 0 where
  pub changes : ChangesNode before after number
  pub has : HasInode after number new
  pub links : new.nlink ≡ old.nlink
  pub size : new.size ≡ 64
  pub list : HasEntries after new (entry_for number own_name ∷ entry_for parent parent_name ∷ [])
  pub free : free_in_map after + 1 ≡ free_in_map before

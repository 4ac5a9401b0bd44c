-- The rule for inodes as it was before they had a pointer to a double block: 12 bytes behind the pointers were kept zero, and a node had
-- the blocks alone that its inode and one block of pointers name.
use Rattle.std.specs.Prelude.{ℕ, ◌*◌, ◌%◌, ◌^◌, ◌<◌, ◌≤◌, ◌≡◌, List, ◌∷◌, ◌++◌, length, replicate, slice_index, nat_lt}
use Rattle.std.specs.Int.{w16, w32, to_be_bytes}
use Rattle.std.specs.List.{flat_map}
use Rattle.kabi_types.specs.declared.inodes.Inode.{Inode}
use Rattle.posix_defs.specs.DiskFormat.{block_size, direct_pointers, near_blocks, IsPointer}

-- an inode as it was
pub record OldInode : Type 0 where
  pub kind : ℕ
  pub nlink : ℕ
  pub size : ℕ
  pub direct : List ℕ
  pub indirect : ℕ

-- the greatest size that a node had
abbrev pub old_greatest_size : ℕ
old_greatest_size = block_size * near_blocks

-- an inode of a disk of so many blocks, by the old rule
pub record IsOldInode (blocks : ℕ) (old : OldInode) : Type 0 where
  pub links : old.nlink ≤ 127
  pub kind : old.kind ≤ 3
  pub size : old.size ≤ old_greatest_size
  pub free : old.kind ≡ 0 → (old.nlink ≡ 0) × (old.size ≡ 0)
  pub entries : old.kind ≡ 2 → old.size % 32 ≡ 0
  pub name : old.kind ≡ 3 → old.size ≡ 0
  pub count : length old.direct ≡ direct_pointers
  pub fits : ((k : ℕ) → slice_index old.direct k < 2 ^ 32) × (old.indirect < 2 ^ 32)
  pub direct : (k : ℕ) → k < direct_pointers → IsPointer blocks (nat_lt (k * block_size) old.size) (slice_index old.direct k)
  pub indirect : IsPointer blocks (nat_lt (direct_pointers * block_size) old.size) old.indirect

-- its 64 bytes
abbrev pub old_inode_bytes : OldInode → List ℕ
old_inode_bytes old =
    old.kind ∷ 0 ∷ (to_be_bytes w16 old.nlink ++ (to_be_bytes w32 old.size
    ++ (flat_map (to_be_bytes w32) old.direct ++ (to_be_bytes w32 old.indirect ++ replicate 12 0))))

-- the inode that it is now
abbrev pub renewed : OldInode → Inode
renewed old = record { kind = old.kind; nlink = old.nlink; size = old.size; direct = old.direct; indirect = old.indirect; double = 0 }

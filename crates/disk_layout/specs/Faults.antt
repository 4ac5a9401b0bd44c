-- What is wrong with bytes that no inode of a disk has.
use Rattle.std.specs.Prelude.{ℕ, ◌≡◌, List}
use Rattle.kabi_types.specs.declared.inodes.Inode.{Inode}
use Rattle.posix_defs.specs.DiskFormat.{Fits, IsOfKind, HasPointers, inode_bytes}
use Rattle.disk_layout.specs.declared.faults.BadInode.{BadInode}
use Rattle.disk_layout.specs.declared.faults.BadInode.TheVariants.{BadKind, BadPointer}

-- no kind, links and size that go together are spelled so; or they are, and a pointer is at fault
abbrev pub IsFault : ℕ → List ℕ → BadInode → Type 0
IsFault blocks bytes BadKind = (inode : Inode) → Fits inode → IsOfKind inode → ¬ (bytes ≡ inode_bytes inode)
IsFault blocks bytes BadPointer =
    (inode : Inode) × Fits inode × IsOfKind inode × (bytes ≡ inode_bytes inode) × ¬ (HasPointers blocks inode)

-- Directories stay directories: the one that a call changes, and every other.
use Rattle.std.proofs.Common.{◌≢◌, ℕ, List, ◌∙◌}
use Rattle.kabi_types.specs.declared.inodes.Inode.{Inode}
use Rattle.kabi_types.specs.declared.inodes.DirEntry.{DirEntry}
use Rattle.posix_defs.specs.SoundDisk.{HasInode}
use Rattle.posix_defs.specs.DiskContents.{HasEntries}
use Rattle.posix_defs.specs.DiskTree.{ChangesNode}
use Rattle.memfs_dir.specs.Listed.{HasDirectory, Relists}

pub relisted : (number : ℕ) (before : List (List ℕ)) (old : Inode) (change : List DirEntry → List DirEntry) (after : List (List ℕ)) (new : Inode) → HasDirectory before number old
    → Relists number before old change after new → HasDirectory after number new
relisted number before old change after new was r = (r.changes.sound, r.has, (change was.2.0, r.list was.2.0 was.2.1))

-- a call that changes one node leaves every other directory its entries
pub entries_stay : (number other : ℕ) (before after : List (List ℕ)) (inode : Inode) (entries : List DirEntry) → ChangesNode before after number → other ≢ number → HasInode before other inode → HasEntries before inode entries
    → HasEntries after inode entries
entries_stay number other before after inode entries change apart at has = record { kind = has.kind; each = has.each; bytes = change.bytes other inode apart at ∙ has.bytes }

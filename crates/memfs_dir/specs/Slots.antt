-- A block of a directory: 32 slots, each with the bytes of one entry.
use Rattle.std.specs.Prelude.{ℕ, ◌+◌, ◌*◌, ◌<◌, ◌≡◌, List, slice_index}
use Rattle.kabi_types.specs.declared.inodes.DirEntry.{DirEntry}
use Rattle.posix_defs.specs.DiskFormat.{IsEntry, entry_bytes}

-- the bytes of an entry
abbrev pub entry_size : ℕ
entry_size = 32

-- how many entries a block has
abbrev pub entries_in_block : ℕ
entries_in_block = 32

-- the bytes from a slot on are those of an entry
abbrev pub HasBytesOf : List ℕ → ℕ → DirEntry → Type 0
HasBytesOf block slot entry = (j : ℕ) → j < entry_size → slice_index block (entry_size * slot + j) ≡ slice_index (entry_bytes entry) j

-- a slot has this entry
pub record Spells (block : List ℕ) (slot : ℕ) (entry : DirEntry) : Type 0 where
  pub valid : IsEntry entry
  pub bytes : HasBytesOf block slot entry

-- a slot has an entry of this name
pub record IsCalled (block : List ℕ) (slot : ℕ) (name : List ℕ) : Type 0 where
  pub entry : DirEntry
  pub spells : Spells block slot entry
  pub called : entry.name ≡ name

-- What a look for a name finds in a directory, and which blocks of it it asks for.
use Rattle.std.specs.Prelude.{ℕ, zero, suc, ◌+◌, ◌-◌, ◌/◌, ◌<◌, ◌≡◌, List, [], ◌∷◌, ◌++◌, map, slice_index, Option, None, Some, IfSome}
use Rattle.std.specs.List.{range_with_len}
use Rattle.std.specs.Option.{option_map}
use Rattle.kabi_types.specs.declared.inodes.DirEntry.{DirEntry}
use Rattle.kabi_types.specs.declared.inodes.Inode.{Inode}
use Rattle.posix_defs.specs.DiskFormat.{direct_pointers, block_pointers, near_blocks, data_blocks, pointers_beside}
use Rattle.posix_defs.specs.SoundDisk.{Place, Data, Pointers, block_bytes, block_of_run, named_at, pointer_at, pointer_block, run_of}
use Rattle.memfs_dir.specs.Slots.{entries_in_block, IsCalled, Spells}
use Rattle.memfs_dir.specs.Listed.{at_place, place_called}
use Rattle.memfs_dir.specs.declared.finding.FoundEntry.{FoundEntry}

-- the blocks of pointers that one block of entries more takes behind so many
abbrev pub entered : ℕ → List Place
entered index = map Pointers (range_with_len (pointers_beside index) (pointers_beside (index + 1) - pointers_beside index))

-- a block of its entries, behind those of pointers that it is the first to be named through
abbrev pub looked_at : ℕ → List Place
looked_at index = entered index ++ Data index ∷ []

-- its first blocks of entries, one after another
abbrev pub looked_through : ℕ → List Place
looked_through zero = []
looked_through (suc count) = looked_through count ++ looked_at count

-- a look goes up to the block that has the name, else through all
abbrev pub blocks_to : ℕ → Option ℕ → ℕ
blocks_to size (Some place) = place / entries_in_block + 1
blocks_to size None = data_blocks size

-- the blocks that a directory has at these places
abbrev pub blocks_at : List (List ℕ) → Inode → List Place → List ℕ
blocks_at disk inode places = map (λ there. named_at disk inode there) places

-- the blocks that a look asks for which ends at this place, or finds none
abbrev pub asked_to_find : List (List ℕ) → Inode → Option ℕ → List ℕ
asked_to_find disk inode place = blocks_at disk inode (looked_through (blocks_to inode.size place))

-- these are the pointers of the run in which the block before `index` has its own
abbrev pub HasRun : List (List ℕ) → Inode → List ℕ → ℕ → Type 0
HasRun disk inode pointers index = direct_pointers < index
    → (place : ℕ) → place < block_pointers → slice_index pointers place ≡ pointer_at (block_bytes disk (pointer_block disk inode (block_of_run (run_of (index - 1))))) place

-- these are the pointers of the double block, where a block before `index` is reached through it
abbrev pub HasDouble : List (List ℕ) → Inode → List ℕ → ℕ → Type 0
HasDouble disk inode pointers index = near_blocks < index → (place : ℕ) → place < block_pointers → slice_index pointers place ≡ pointer_at (block_bytes disk inode.double) place

-- the place of the entry that a look found
abbrev pub found_place : Option FoundEntry → Option ℕ
found_place found = option_map (λ entry. entry.place) found

-- a look for a name finds the first entry that has it, with its node
abbrev pub IsLookOf : List ℕ → List DirEntry → Option FoundEntry → Type 0
IsLookOf name entries found = (found_place found ≡ place_called name entries) × IfSome found (λ entry. entry.node ≡ (at_place entries entry.place).node)

-- the first of so many slots of a block that has an entry of this name, with its node; None where none has one
pub record FoundIn (block : List ℕ) (count : ℕ) (name : List ℕ) (answer : Option FoundEntry) : Type 0 where
  pub found : IfSome answer (λ found. (found.place < count) × IsCalled block found.place name)
  pub node : IfSome answer (λ found. (entry : DirEntry) → Spells block found.place entry → found.node ≡ entry.node)
  pub first : IfSome answer (λ found. (before : ℕ) → before < found.place → ¬ (IsCalled block before name))
  pub none : answer ≡ None → (slot : ℕ) → slot < count → ¬ (IsCalled block slot name)

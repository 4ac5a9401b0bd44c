-- The blocks of a node as the calls have them in hand: the pointers of its inode, and those of one run.
use Rattle.std.specs.Prelude.{ℕ, ◌-◌, ◌<◌, ◌≡◌, ◌⊎◌, ◌%◌, List, [], map, Option, None, Some, slice_index, nat_lt, cond}
use Rattle.kabi_types.specs.declared.inodes.Inode.{Inode}
use Rattle.posix_defs.specs.DiskFormat.{direct_pointers, block_pointers}
use Rattle.posix_defs.specs.SoundDisk.{IsMarked, IsFreeBlock, Place, named_at, on_way, run_of}
use Rattle.posix_defs.specs.Tree.{directory}

-- the kind of a file
abbrev pub file : ℕ
file = 1

-- what may grow and shrink: a file, and a directory by whole entries
abbrev pub MayHaveSize : ℕ → ℕ → Type 0
MayHaveSize kind size = (kind ≡ file) ⊎ ((kind ≡ directory) × (size % 32 ≡ 0))

-- the pointer to a block of bytes whose run is in hand
abbrev pub pointer_to : List ℕ → List ℕ → ℕ → ℕ
pointer_to direct behind index = cond (nat_lt index direct_pointers) (slice_index direct index) (slice_index behind ((index - direct_pointers) % block_pointers))

-- a block of bytes whose pointer is in hand with those of a run: one that the inode has itself, or one of the run
abbrev pub IsInHand : ℕ → ℕ → Type 0
IsInHand run index = (index < direct_pointers) ⊎ (run_of index ≡ run)

-- the blocks that are asked for to find a block of a node's bytes: those of pointers on the way
abbrev pub asked_for : List (List ℕ) → Inode → ℕ → List ℕ
asked_for disk inode index = cond (nat_lt index direct_pointers) [] (map (λ there. named_at disk inode there) (on_way (run_of index)))

-- no block was taken: what is marked was marked
abbrev pub TakesNone : List (List ℕ) → List (List ℕ) → Type 0
TakesNone before after = (block : ℕ) → IsMarked after block → IsMarked before block

-- no block was freed: what was marked is marked
abbrev pub FreesNone : List (List ℕ) → List (List ℕ) → Type 0
FreesNone before after = (block : ℕ) → IsMarked before block → IsMarked after block

-- of the blocks that were free those that were taken are lower than those that are left
abbrev pub PrefersLowest : List (List ℕ) → List (List ℕ) → Type 0
PrefersLowest before after = (block other : ℕ) → IsFreeBlock before block → IsMarked after block → IsFreeBlock before other → IsFreeBlock after other → block < other

-- the blocks that were taken are the lowest of those that were free, and of those that are given back
abbrev pub TakesLowest : List (List ℕ) → List (List ℕ) → Type 0
TakesLowest before after = (block other : ℕ) → IsFreeBlock before block → IsMarked after block → IsFreeBlock after other → block < other

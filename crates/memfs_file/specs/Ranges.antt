-- A range of a node's bytes, and the blocks that it lies in.
use Rattle.std.specs.Prelude.{ℕ, ◌+◌, ◌-◌, ◌*◌, ◌/◌, ◌==◌, if◌then◌else◌, max, min, nat_lt, List, [], ◌∷◌, ◌++◌, map}
use Rattle.std.specs.List.{range_with_len, flat_map}
use Rattle.kabi_types.specs.declared.inodes.Inode.{Inode}
use Rattle.posix_defs.specs.DiskFormat.{block_size, direct_pointers, near_blocks, data_blocks}
use Rattle.posix_defs.specs.SoundDisk.{block_of_run, pointer_block, run_of}
use Rattle.posix_defs.specs.DiskContents.{data_block}
use Rattle.blk_map.specs.Runs.{run_first, run_end}

-- how many bytes of a block and of a range are the same
abbrev pub shared : ℕ → ℕ → ℕ → ℕ
shared index at len = min (block_size - (at - block_size * index)) (len - (block_size * index - at))

-- the block of a run of pointers, where one of the first blocks of bytes is named there
abbrev pub pointers_for : ℕ → ℕ → List ℕ
pointers_for pointers blocks = if nat_lt direct_pointers blocks then pointers ∷ [] else []

-- the double block, where one of the first blocks of bytes is reached through it
abbrev pub double_for : Inode → ℕ → List ℕ
double_for inode blocks = if nat_lt near_blocks blocks then inode.double ∷ [] else []

-- the blocks of a node's bytes from one up to another
abbrev pub blocks_between : List (List ℕ) → Inode → ℕ → ℕ → List ℕ
blocks_between disk inode from to = map (λ index. data_block disk inode index) (range_with_len from (to - from))

-- the runs of pointers that these have theirs in
abbrev pub runs_between : ℕ → ℕ → List ℕ
runs_between from to = range_with_len (run_of from) (run_of (to - 1) + 1 - run_of from)

-- of these blocks of bytes, those of one run: its pointers once, then each block of bytes once
abbrev pub asked_in_run : List (List ℕ) → Inode → ℕ → ℕ → ℕ → List ℕ
asked_in_run disk inode from to run =
    pointers_for (pointer_block disk inode (block_of_run run)) (min to (run_end run)) ++ blocks_between disk inode (max from (run_first run)) (min to (run_end run))

-- the blocks that are asked for to read a node's blocks of bytes from one up to another: the double block once, then run by run
abbrev pub asked_between : List (List ℕ) → Inode → ℕ → ℕ → List ℕ
asked_between disk inode from to = double_for inode to ++ flat_map (asked_in_run disk inode from to) (runs_between from to)

-- and to read so many bytes from a place on
abbrev pub asked_to_read : List (List ℕ) → Inode → ℕ → ℕ → List ℕ
asked_to_read disk inode at count = if count == 0 then [] else asked_between disk inode (at / block_size) (data_blocks (at + count))

-- What a caller sees of a disk in memory.
use Rattle.std.specs.Prelude.{ℕ, ◌+◌, ◌-◌, ◌^◌, ◌≡◌, ◌++◌, min, List, length, replicate}
use Rattle.posix_defs.specs.DiskContents.{zeros}

-- its blocks in order, and how often one was read
pub record Disk : Type 0 where
  pub blocks : List (List ℕ)
  pub reads : ℕ

-- a count of reads stands still at the last number of its type
abbrev pub one_more : ℕ → ℕ
one_more reads = min (reads + 1) (2 ^ 64 - 1)

-- one read changes the count alone
pub record IsRead (before after : Disk) : Type 0 where
  pub blocks : after.blocks ≡ before.blocks
  pub reads : after.reads ≡ one_more before.reads

-- so many blocks: those that are there, and zeros behind them
abbrev pub all_blocks : ℕ → List (List ℕ) → List (List ℕ)
all_blocks count blocks = blocks ++ replicate (count - length blocks) (zeros 1024)

-- The bytes of a file under a write and a change of its size, and how much of a write there is room for.
use Rattle.std.specs.Prelude.{ℕ, ◌+◌, ◌-◌, ◌*◌, ◌/◌, List, ◌++◌, min, length, take, drop, replicate}
use Rattle.posix_defs.specs.DiskFormat.{block_size, direct_pointers, block_pointers, near_blocks, greatest_size}

-- cut at a size, or with zeros behind it up to that size
abbrev pub resized : ℕ → List ℕ → List ℕ
resized size bytes = take size bytes ++ replicate (size - length bytes) 0

-- other bytes from a place on; a gap before it is zeros
abbrev pub overwritten : ℕ → List ℕ → List ℕ → List ℕ
overwritten at new bytes = resized at bytes ++ new ++ drop (at + length new) bytes

-- how many of so many blocks have bytes: those that the inode names itself, and of each 257 others 256. Where the near ones leave some,
-- the first of these is the double block
abbrev pub held_blocks : ℕ → ℕ
held_blocks blocks = min blocks direct_pointers + block_pointers * (blocks - (direct_pointers + min 1 (blocks / (near_blocks + 2)))) / (block_pointers + 1)

-- the greatest size of a file that so many blocks hold
abbrev pub capacity : ℕ → ℕ
capacity blocks = min greatest_size (block_size * held_blocks blocks)

-- how many of n bytes at a place there is room for
abbrev pub fitting : ℕ → ℕ → ℕ → ℕ
fitting blocks at n = min n (capacity blocks - at)

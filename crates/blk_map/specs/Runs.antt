-- Runs of pointers: the blocks of bytes that have theirs in one block of pointers.
use Rattle.std.specs.Prelude.{ℕ, ◌+◌, ◌*◌, min}
use Rattle.posix_defs.specs.DiskFormat.{direct_pointers, block_pointers}

-- the first block of bytes whose pointer stands in a run
abbrev pub run_start : ℕ → ℕ
run_start run = direct_pointers + block_pointers * run

-- the first block of bytes behind those of a run
abbrev pub run_end : ℕ → ℕ
run_end run = run_start (run + 1)

-- the first block of bytes of a run: those that the inode names itself go with the first one
abbrev pub run_first : ℕ → ℕ
run_first run = direct_pointers * min 1 run + block_pointers * run

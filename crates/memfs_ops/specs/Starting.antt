-- The line that names a program.
use Rattle.std.specs.Prelude.{◌≡◌, ℕ, ◌<◌, ◌≤◌, ◌++◌, List, codes, length, min}
use Rattle.std.specs.List.{All, AllByRecursion}
use Rattle.kabi_types.specs.declared.scripts.Program.{Program}
use Rattle.kabi_types.specs.declared.inodes.Inode.{Inode}
use Rattle.posix_defs.specs.DiskContents.{data_block}
use Rattle.posix_defs.specs.SoundDisk.{HasNode}
use Rattle.memfs_file.specs.Ranges.{asked_to_read}
use Rattle.cached_disk.specs.Lent.{IsCached}
use Rattle.memfs_ops.specs.FileTree.{TreeView}

-- `#!`, a name and a newline
abbrev pub line_of : List ℕ → List ℕ
line_of name = codes "#!" ++ name ++ codes "\n"

-- the programs of a script: 64 at most, each with a name that fits
pub record ArePrograms (programs : List Program) : Type 0 where
  pub few : length programs ≤ 64
  pub names : All (λ program. length program.name ≤ 27) programs

-- the kind of a file in the table
abbrev pub file_kind : ℕ
file_kind = 1

-- Where a node is a file, the blocks are cached that its first 30 bytes are reached by, in which the longest line has room.
abbrev pub KnowsLine : TreeView → ℕ → Type 0
KnowsLine fs number = (inode : Inode) → HasNode fs.disk.blocks number inode → inode.kind ≡ file_kind → AllByRecursion (IsCached fs.blocks) (asked_to_read fs.disk.blocks inode 0 (min 30 inode.size))

-- where a node is a file that isn't empty, its first block is cached afterwards
abbrev pub KeepsLine : TreeView → TreeView → ℕ → Type 0
KeepsLine was is number = (inode : Inode) → HasNode was.disk.blocks number inode → inode.kind ≡ file_kind → 0 < inode.size → IsCached is.blocks (data_block was.disk.blocks inode 0)

-- The blocks of a node as the pointers in hand name them.
use Rattle.std.proofs.Common.{◌≡◌, ℕ, ◌+◌, ◌*◌, ◌<◌, ◌≤◌, inl, inr, List, length, get_or, sym, ap, subst, ◌∙◌, arith}
use Rattle.std.proofs.lemmas.Bool.{cases_lt}
use Rattle.kabi_types.specs.declared.inodes.Inode.{Inode}
use Rattle.posix_defs.specs.DiskFormat.{data_blocks, IsForFiles}
use Rattle.posix_defs.specs.SoundDisk.{block_bytes, block_of_run, run_of, HasInode, pointer_at, pointer_block, Data, Pointers, HasPlace, Sound}
use Rattle.posix_defs.specs.DiskContents.{data_block}
use Rattle.disk_laws.proofs.FreeBlocks.{named_is_for_files, has_run}
use Rattle.blk_map.specs.Named.{IsInHand, pointer_to}
use Rattle.blk_map.proofs.Inodes.{names_in_hand}

-- a run that some blocks are in, from one up to another of a node
pub record InRun (disk : List (List ℕ)) (number : ℕ) (inode : Inode) (pointers from to : ℕ) : Type 0 where
  pub sound : Sound disk
  pub has : HasInode disk number inode
  pub some : from < to
  pub run : to ≤ 10 + 256 * (run_of from + 1)
  pub pointers_are : pointers ≡ pointer_block disk inode (block_of_run (run_of from))
  pub within : to ≤ data_blocks inode.size

module _ (disk : List (List ℕ)) (number : ℕ) (inode : Inode) (pointers from to : ℕ) (r : InRun disk number inode pointers from to) where
  -- where one of them is behind the direct ones, the node has the block of the run
  pub on_disk : 10 < to → pointers < length disk
  on_disk past =
      let block : ℕ = block_of_run (run_of from) in
      let large : 10 + 256 * run_of from < data_blocks inode.size = begins from to (data_blocks inode.size) past r.some r.within in
      let files = named_is_for_files disk r.sound number inode (Pointers block) r.has (has_run inode.size (run_of from) large) in
      omega (arith, r.pointers_are, files.1)
    where
      begins : (from to size : ℕ) → 10 < to → from < to → to ≤ size → 10 + 256 * run_of from < size
      begins from to size past some within = omega (arith, past, some, within)

  in_hand : (index : ℕ) → from ≤ index → index < to → IsInHand (run_of from) index
  in_hand index low high = elim (cases_lt index 10) [
    | inl first ↦ inl first
    | inr past ↦ inr (here from to index r.run low high past)
  ]
    where
      here : (from to index : ℕ) → to ≤ 10 + 256 * (run_of from + 1) → from ≤ index → index < to → 10 ≤ index → run_of index ≡ run_of from
      here from to index run low high past = omega (arith, run, low, high, past)

  pub pointer_names : (behind : List ℕ) → (10 < to → (k : ℕ) → k < 256 → get_or behind k 0 ≡ pointer_at (block_bytes disk pointers) k)
      → (index : ℕ) → from ≤ index → index < to → pointer_to inode.direct behind index ≡ data_block disk inode index
  pointer_names behind copied index low high =
      names_in_hand disk inode behind (run_of from) to (
      λ large k lt. copied (omega (arith, large)) k lt ∙ ap (λ (n : ℕ). pointer_at (block_bytes disk n) k) r.pointers_are
      ) index high (in_hand index low high)

  pub block_on_disk : (index : ℕ) → index < to → data_block disk inode index < length disk
  block_on_disk index lt = let within : HasPlace inode.size (Data index) = omega (arith, lt, r.within) in (named_is_for_files disk r.sound number inode (Data index) r.has within).1

-- a place within the size lies in one of the node's blocks
pub few_blocks : (end size : ℕ) → end ≤ size → data_blocks end ≤ data_blocks size
few_blocks end size within = omega (arith, within)

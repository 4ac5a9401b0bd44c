-- Blocks that are read and written.
use Rattle.std.proofs.Common.{◌≡◌, ◌≢◌, ℕ, ◌<◌, ◌≤◌, Some, inl, inr, List, [], length, set, sym, ap, ◌∙◌, arith}
use Rattle.std.specs.Prelude.{slice_get}
use Rattle.std.proofs.lemmas.Bool.{cases_lt, cases_eq}
use Rattle.std.proofs.lemmas.List.{get_or-set_same, get_or-set_other}
use Rattle.std.proofs.lemmas.Option.{get_or_from_slice_get}
use Rattle.kabi_types.specs.declared.inodes.Inode.{Inode}
use Rattle.posix_defs.specs.DiskFormat.{table_nodes, table_end, IsForFiles, inode_bytes}
use Rattle.posix_defs.specs.SoundDisk.{block_bytes, table_block, table_slot, slot_bytes, table_bytes, Sound, IsFreeBlock}

-- what was got is the block
pub got : (disk : List (List ℕ)) (number : ℕ) (bytes : List ℕ) → slice_get disk number ≡ Some bytes → block_bytes disk number ≡ bytes
got disk number bytes e = get_or_from_slice_get disk number bytes [] e

-- what was written there is there
pub written_is : (before between after : List (List ℕ)) (number : ℕ) (bytes : List ℕ) → number < length before → between ≡ before → after ≡ set between number bytes → block_bytes after number ≡ bytes
written_is before between after number bytes within kept is =
    ap (λ (disk : List (List ℕ)). block_bytes disk number) (is ∙ ap (λ (disk : List (List ℕ)). set disk number bytes) kept) ∙ get_or-set_same before number bytes [] within

-- what is free is for files
pub free_is_for_files : (disk : List (List ℕ)) → Sound disk → (block : ℕ) → IsFreeBlock disk block → IsForFiles (length disk) block
free_is_for_files disk sound block free = elim (cases_lt (table_end (length disk)) block) [
  | inl above ↦ (above, free.0)
  | inr low ↦ absurd (free.1 ((sound.map block free.0).1 (inl low)))
]

pub in_table : (blocks node : ℕ) → 0 < node → node ≤ table_nodes blocks → (0 < table_block node) × (table_block node ≤ table_end blocks)
in_table blocks node pos within = (omega arith, omega (arith, pos, within))

-- a node's slot depends on its block alone
pub same_table : (before after : List (List ℕ)) (node : ℕ) → block_bytes after (table_block node) ≡ block_bytes before (table_block node) → table_bytes after node ≡ table_bytes before node
unfolding table_bytes
same_table before after node same = ap (λ (bytes : List ℕ). slot_bytes bytes (table_slot node)) same

pub slot_put : (before after : List (List ℕ)) (number : ℕ) (bytes : List ℕ) (inode : Inode) → table_block number < length before → after ≡ set before (table_block number) bytes
    → slot_bytes bytes (table_slot number) ≡ inode_bytes inode → table_bytes after number ≡ inode_bytes inode
unfolding table_bytes
slot_put before after number bytes inode within is put =
    let here : block_bytes after (table_block number) ≡ bytes = ap (λ (disk : List (List ℕ)). block_bytes disk (table_block number)) is ∙ get_or-set_same before (table_block number) bytes [] within in
    ap (λ (b : List ℕ). slot_bytes b (table_slot number)) here ∙ put

pub slots_stay : (before after : List (List ℕ)) (number : ℕ) (bytes : List ℕ) → table_block number < length before → after ≡ set before (table_block number) bytes
    → ((other : ℕ) → other ≢ table_slot number → slot_bytes bytes other ≡ slot_bytes (block_bytes before (table_block number)) other)
    → 0 < number → (node : ℕ) → 0 < node → node ≢ number → table_bytes after node ≡ table_bytes before node
unfolding table_bytes
slots_stay before after number bytes within is others pos node also apart =
    elim (cases_eq (table_block node) (table_block number)) [
      | inl same ↦
          let here : block_bytes after (table_block node) ≡ bytes =
          ap (λ (disk : List (List ℕ)). block_bytes disk (table_block node)) is ∙ ap (λ (n : ℕ). block_bytes (set before (table_block number) bytes) n) same ∙ get_or-set_same before (table_block number) bytes [] within in
          let slot : table_slot node ≢ table_slot number = λ e. apart (omega (arith, e, same, pos, also)) in
          ap (λ (b : List ℕ). slot_bytes b (table_slot node)) here ∙ others (table_slot node) slot ∙ ap (λ (n : ℕ). slot_bytes (block_bytes before n) (table_slot node)) (sym same)
      | inr elsewhere ↦
          let there : block_bytes after (table_block node) ≡ block_bytes before (table_block node) =
          ap (λ (disk : List (List ℕ)). block_bytes disk (table_block node)) is ∙ get_or-set_other before (table_block number) (table_block node) bytes [] elsewhere in
          ap (λ (b : List ℕ). slot_bytes b (table_slot node)) there
    ]

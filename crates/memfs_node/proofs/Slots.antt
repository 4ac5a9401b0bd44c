-- Blocks of the table, slot by slot, against the nodes whose inodes they have.
use Rattle.std.proofs.Common.{◌≡◌, ◌≢◌, ℕ, ◌+◌, ◌-◌, ◌*◌, ◌/◌, ◌<◌, ◌≤◌, inl, inr, List, length, sym, ap, subst, ◌∙◌, arith}
use Rattle.std.proofs.lemmas.Bool.{cases_lt}
use Rattle.kabi_types.specs.declared.inodes.Inode.{Inode}
use Rattle.posix_defs.specs.SoundDisk.{block_bytes, table_block, table_slot, slot_bytes, table_bytes, HasInode, IsFreeNode, IsLowestFreeNode, Sound}
use Rattle.disk_layout.specs.Vacant.{kind_in, HasNoneFree, NoneFreeIn}
use Rattle.disk_layout.proofs.TableBlocks.{kind_there}
use Rattle.memfs_node.specs.Slots.{HasSlot}

-- the inode of a node stands in its slot
pub in_slot : (disk : List (List ℕ)) (number : ℕ) (inode : Inode) (block : List ℕ) → HasInode disk number inode → block_bytes disk (table_block number) ≡ block → HasSlot (length disk) block (table_slot number) inode
unfolding table_bytes
in_slot disk number inode block has is =
    record {
      within = omega arith;
      valid = has.valid;
      bytes = ap (λ (bytes : List ℕ). slot_bytes bytes (table_slot number)) (sym is) ∙ has.bytes;
    }

-- the slots of one block of the table, by the numbers of their nodes
pub record TableBlock (disk : List (List ℕ)) (index : ℕ) (block : List ℕ) : Type 0 where
  pub sound : Sound disk
  pub within : index < length disk / 16
  pub is : block_bytes disk (1 + index) ≡ block

module _ (disk : List (List ℕ)) (index : ℕ) (block : List ℕ) (t : TableBlock disk index block) where
  at : (number : ℕ) → 16 * index < number → number ≤ 16 * index + 16 → block_bytes disk (table_block number) ≡ block
  at number above below =
      let same : table_block number ≡ 1 + index = omega (arith, above, below) in
      ap (λ (n : ℕ). block_bytes disk n) same ∙ t.is

  of_number : (slot : ℕ) → slot < 16 → table_slot (16 * index + slot + 1) ≡ slot
  of_number slot lt = omega (arith, lt)

  kind_here : (slot : ℕ) (inode : Inode) → slot < 16 → HasInode disk (16 * index + slot + 1) inode → kind_in block slot ≡ inode.kind
  kind_here slot inode lt has =
      let number : ℕ = 16 * index + slot + 1 in
      let here : block_bytes disk (table_block number) ≡ block = at number (omega arith) (omega (arith, lt)) in
      ap (λ (n : ℕ). kind_in block n) (sym (of_number slot lt)) ∙ ap (λ (bytes : List ℕ). kind_in bytes (table_slot number)) (sym here) ∙ kind_there disk number inode has

  free_here : (slot : ℕ) → slot < 16 → kind_in block slot ≡ 0 → IsFreeNode disk (16 * index + slot + 1)
  free_here slot lt is =
      let there = t.sound.table (16 * index + slot + 1) (omega arith) (omega (arith, lt, t.within)) in
      (there.0, there.1, sym (kind_here slot there.0 lt there.1) ∙ is)

  free_there : (number : ℕ) → 16 * index < number → number ≤ 16 * index + 16 → IsFreeNode disk number → kind_in block (number - 16 * index - 1) ≡ 0
  free_there number above below free =
      let slot : ℕ = number - 16 * index - 1 in
      let same : number ≡ 16 * index + slot + 1 = omega (arith, above) in
      let has : HasInode disk (16 * index + slot + 1) free.0 = subst (λ (n : ℕ). HasInode disk n free.0) same free.1 in
      kind_here slot free.0 (omega (arith, above, below)) has ∙ free.2

  -- a number up to that of the slot in the block
  before_slot : (slot number : ℕ) → number < 16 * index + slot + 1 → NoneFreeIn disk index → ((before : ℕ) → before < slot → kind_in block before ≢ 0) → slot < 16 → ¬ (IsFreeNode disk number)
  before_slot slot number lt none free within is = elim (cases_lt (16 * index) number) [
    | inl above ↦ free (number - 16 * index - 1) (omega (arith, above, lt)) (free_there number above (omega (arith, lt, within)) is)
    | inr below ↦ none number below is
  ]

  pub lowest_here : (slot : ℕ) → NoneFreeIn disk index → slot < 16 → kind_in block slot ≡ 0 → ((before : ℕ) → before < slot → kind_in block before ≢ 0) → IsLowestFreeNode disk (16 * index + slot + 1)
  lowest_here slot none lt free first = record {
    free = free_here slot lt free;
    lowest = λ other less. before_slot slot other less none first lt;
  }

  pub none_here : NoneFreeIn disk index → HasNoneFree block → NoneFreeIn disk (index + 1)
  none_here none free number within is = elim (cases_lt (16 * index) number) [
    | inl above ↦ free (number - 16 * index - 1) (omega (arith, above, within)) (free_there number above (omega (arith, within)) is)
    | inr below ↦ none number below is
  ]

pub none_left : (disk : List (List ℕ)) (index : ℕ) → length disk / 16 ≤ index → NoneFreeIn disk index → (number : ℕ) → ¬ (IsFreeNode disk number)
none_left disk index all none number is = none number (omega (arith, is.1.number.1, all)) is

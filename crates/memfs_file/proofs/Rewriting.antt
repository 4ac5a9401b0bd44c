-- The bytes of a file after it grew or shrank, and after bytes of it were written.
use Rattle.std.proofs.Common.{◌≡◌, ℕ, ◌+◌, ◌-◌, ◌*◌, ◌/◌, ◌%◌, ◌<◌, ◌≤◌, ◌⊎◌, max, inl, inr, List, ◌++◌, length, get_or, drop, sym, ap, ◌∙◌, arith, length-append}
use Rattle.std.proofs.lemmas.Bool.{cases_lt}
use Rattle.std.proofs.lemmas.List.{get_or_append_left, get_or-append_right, get_or-replicate, get_or_past}
use Rattle.kabi_types.specs.declared.inodes.Inode.{Inode}
use Rattle.posix_defs.specs.DiskFormat.{block_size, data_blocks, blocks_of}
use Rattle.posix_defs.specs.FileBytes.{resized, overwritten}
use Rattle.posix_defs.specs.SoundDisk.{block_bytes, free_in_map}
use Rattle.posix_defs.specs.DiskContents.{byte_at, node_bytes, zeros}
use Rattle.posix_defs.specs.NodeChange.{Resizes}
use Rattle.blk_map.specs.Growing.{GrowsBut}
use Rattle.tree_laws.proofs.FileRoom.{length-resized, length-overwritten}
use Rattle.tree_laws.proofs.FileBytesLaws.{resized_at, written_before, written_behind}
use Rattle.blk_map.proofs.AndBack.{changes_follow}
use Rattle.memfs_file.specs.FileChange.{Rewrites, Puts, Clears}
use Rattle.memfs_file.proofs.Bytes.{bytes_len, byte_of, bytes_are}

-- ---- one byte

-- within both sizes it stays
kept_byte : {number : ℕ} {before : List (List ℕ)} {old : Inode} {size : ℕ} {after : List (List ℕ)} {new : Inode} → Resizes number before old size after new
    → (k : ℕ) → k < old.size → k < size → byte_at after new k ≡ byte_at before old k
kept_byte {number} {before} {old} {size} {after} {new} r k low lt =
    let same = r.kept (k / block_size) (omega (arith, low)) (omega (arith, lt)) in
    ap (λ (n : ℕ). get_or (block_bytes after n) (k % block_size) 0) same.0 ∙ ap (λ (bytes : List ℕ). get_or bytes (k % block_size) 0) same.1

-- in a new block it is zero
new_byte : {from to number : ℕ} {before : List (List ℕ)} {old : Inode} {size : ℕ} {after : List (List ℕ)} {new : Inode} → GrowsBut from to number before old size after new
    → (k : ℕ) → block_size * data_blocks old.size ≤ k → k < size → (k / block_size < from) ⊎ (to ≤ k / block_size) → byte_at after new k ≡ 0
unfolding zeros
new_byte {from} {to} {number} {before} {old} {size} {after} {new} g k past lt off =
    ap (λ (bytes : List ℕ). get_or bytes (k % block_size) 0) (g.zero (k / block_size) (omega (arith, past)) (omega (arith, lt)) off) ∙ get_or-replicate block_size (k % block_size) 0 0 (omega arith)

-- what was written is there
written_at : (at : ℕ) (new old : List ℕ) (k : ℕ) → at ≤ k → k < at + length new → get_or (overwritten at new old) k 0 ≡ get_or new (k - at) 0
written_at at new old k le lt =
    let front : List ℕ = resized at old in
    get_or_append_left (front ++ new) (drop (at + length new) old) 0 k (omega (arith, length-append front new, length-resized at old, lt))
    ∙ get_or-append_right front new at k 0 (length-resized at old) le

-- ---- a size that is not greater

pub cut : (number : ℕ) (before : List (List ℕ)) (old : Inode) (size : ℕ) (after : List (List ℕ)) (new : Inode) → size ≤ old.size → Resizes number before old size after new
    → Rewrites number before old (resized size (node_bytes before old)) after new
cut number before old size after new less r =
    let bytes : List ℕ = node_bytes before old in
    let len : length (resized size bytes) ≡ size = length-resized size bytes in
    record {
      changes = r.changes;
      has = r.has;
      fields = (r.fields.0, r.fields.1, r.fields.2 ∙ sym len);
      holds = bytes_are after new (resized size bytes) (len ∙ sym r.fields.2) (
          λ k lt.
          let within : k < size = omega (arith, lt, r.fields.2) in
          kept_byte r k (omega (arith, within, less)) within ∙ sym (byte_of before old k (omega (arith, within, less))) ∙ sym (resized_at size bytes k within)
          );
      free = ap (λ (n : ℕ). free_in_map after + blocks_of n) r.fields.2 ∙ r.free;
    }

-- ---- growth

-- a file grew, of which no block before a place has any bytes, and what stands behind its old bytes was cleared up to there
pub record Grown (number : ℕ) (before : List (List ℕ)) (old : Inode) (size : ℕ) (grown : List (List ℕ)) (new : Inode) (to : ℕ) (cleared : List (List ℕ)) : Type 0 where
  pub from : ℕ
  pub until : ℕ
  pub grows : GrowsBut from until number before old size grown new
  pub whole : (k : ℕ) → k < to → (k / block_size < from) ⊎ (until ≤ k / block_size)
  pub clears : Clears number grown new old.size to cleared

module _ (number : ℕ) (before : List (List ℕ)) (old : Inode) (size : ℕ) (grown : List (List ℕ)) (new : Inode) (to : ℕ) (cleared : List (List ℕ)) (g : Grown number before old size grown new to cleared) where
  size_is : new.size ≡ size
  size_is = g.grows.resizes.fields.2

  old_byte : (k : ℕ) → k < old.size → k < size → byte_at cleared new k ≡ get_or (node_bytes before old) k 0
  old_byte k low lt = g.clears.rest k (omega (arith, lt, size_is)) (inl low) ∙ kept_byte g.grows.resizes k low lt ∙ sym (byte_of before old k low)

  gap_byte : (k : ℕ) → old.size ≤ k → k < to → k < size → byte_at cleared new k ≡ get_or (node_bytes before old) k 0
  gap_byte k past below lt =
      let nothing : get_or (node_bytes before old) k 0 ≡ 0 = get_or_past (node_bytes before old) k 0 (omega (arith, bytes_len before old, past)) in
      elim (cases_lt k (block_size * data_blocks old.size)) [
        | inl last ↦ g.clears.zero k past below last ∙ sym nothing
        | inr further ↦ g.clears.rest k (omega (arith, lt, size_is)) (inr (inr further)) ∙ new_byte g.grows k further lt (g.whole k below) ∙ sym nothing
      ]

  -- before that place it has its old bytes, and zeros behind them
  pub front_byte : (k : ℕ) → k < to → k < size → byte_at cleared new k ≡ get_or (node_bytes before old) k 0
  front_byte k below lt = elim (cases_lt k old.size) [
    | inl low ↦ old_byte k low lt
    | inr past ↦ gap_byte k past below lt
  ]

  pub stretched : to ≡ size → Rewrites number before old (resized size (node_bytes before old)) cleared new
  stretched all =
      let bytes : List ℕ = node_bytes before old in
      let len : length (resized size bytes) ≡ size = length-resized size bytes in
      record {
        changes = changes_follow number before grown cleared g.grows.resizes.changes g.clears.changes;
        has = g.clears.has;
        fields = (g.grows.resizes.fields.0, g.grows.resizes.fields.1, size_is ∙ sym len);
        holds = bytes_are cleared new (resized size bytes) (len ∙ sym size_is) (
            λ k lt.
            let within : k < size = omega (arith, lt, size_is) in
            front_byte k (omega (arith, within, all)) within ∙ sym (resized_at size bytes k within)
            );
        free = ap (λ (n : ℕ). n + blocks_of new.size) g.clears.free ∙ ap (λ (n : ℕ). free_in_map grown + blocks_of n) size_is ∙ g.grows.resizes.free;
      }

  -- ---- a write

  pub overwrote : (bytes : List ℕ) (after : List (List ℕ)) → size ≡ max old.size (to + length bytes) → Puts number cleared new to bytes after
      → Rewrites number before old (overwritten to bytes (node_bytes before old)) after new
  overwrote bytes after size_max puts =
      let was : List ℕ = node_bytes before old in
      let now : List ℕ = overwritten to bytes was in
      let len : length now ≡ new.size = omega (arith, length-overwritten to bytes was, bytes_len before old, size_max, size_is) in
      record {
        changes = changes_follow number before cleared after (changes_follow number before grown cleared g.grows.resizes.changes g.clears.changes) puts.changes;
        has = puts.has;
        fields = (g.grows.resizes.fields.0, g.grows.resizes.fields.1, sym len);
        holds = bytes_are after new now len (
            λ k lt.
            let within : k < size = omega (arith, lt, size_is) in
            elim (cases_lt k to) [
              | inl front ↦ puts.rest k lt (inl front) ∙ front_byte k front within ∙ sym (written_before to bytes was k front)
              | inr le ↦ elim (cases_lt k (to + length bytes)) [
                | inl here ↦ puts.new k le here ∙ sym (written_at to bytes was k le here)
                | inr past ↦ puts.rest k lt (inr past) ∙ old_byte k (omega (arith, past, within, size_max)) within ∙ sym (written_behind to bytes was k past)
              ]
            ]
            );
        free = ap (λ (n : ℕ). n + blocks_of new.size) (puts.free ∙ g.clears.free) ∙ ap (λ (n : ℕ). free_in_map grown + blocks_of n) size_is ∙ g.grows.resizes.free;
      }

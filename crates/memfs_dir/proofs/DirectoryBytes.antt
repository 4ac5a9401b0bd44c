-- A directory's bytes and its entries: the entry of each place stands in its slot of its block.
use Rattle.std.proofs.Common.{◌≡◌, ℕ, zero, suc, ◌+◌, ◌-◌, ◌*◌, ◌/◌, ◌%◌, ◌<◌, Some, List, [], ◌∷◌, ◌++◌, length, get_or, refl, sym, ap, ◌∙◌, arith, slice_get}
use Rattle.std.specs.List.{All, AllByRecursion, flat_map}
use Rattle.std.proofs.lemmas.List.{ext_get_or, get_or_append_left, get_or-append_right, length-append}
use Rattle.std.proofs.lemmas.List.Concat.{flat_map-cons}
use Rattle.std.proofs.lemmas.List.FromFn.{length-map-range_with_len, get_or-map-range_with_len}
use Rattle.std.proofs.lemmas.Option.{get_or_from_slice_get}
use Rattle.kabi_types.specs.declared.inodes.Inode.{Inode}
use Rattle.kabi_types.specs.declared.inodes.DirEntry.{DirEntry}
use Rattle.posix_defs.specs.DiskFormat.{IsEntry, entry_bytes}
use Rattle.posix_defs.specs.SoundDisk.{block_bytes}
use Rattle.posix_defs.specs.DiskContents.{data_block, byte_at, node_bytes, HasEntries}
use Rattle.posix_defs.specs.Tree.{directory}
use Rattle.posix_defs.specs.TreeChanges.{no_entry}
use Rattle.disk_laws.proofs.DiskSpelling.{length-entry_bytes}
use Rattle.disk_laws.proofs.DirectoryEntries.{size_of_entries}
use Rattle.memfs_dir.specs.Slots.{Spells}

-- ---- every entry is one

pub all_entries : (entries : List DirEntry) → AllByRecursion IsEntry entries → All IsEntry entries
all_entries [] each k d lt = absurd (omega (arith, lt))
all_entries (entry ∷ entries) each zero d lt = each.0
all_entries (entry ∷ entries) each (suc k) d lt = all_entries entries each.1 k d (omega (arith, lt))

each_entry : (entries : List DirEntry) → All IsEntry entries → AllByRecursion IsEntry entries
each_entry [] all = tt
each_entry (entry ∷ entries) all = (all 0 no_entry (omega arith), each_entry entries (λ k d lt. all (suc k) d (omega (arith, lt))))

-- ---- their bytes in a row

length-row : (entries : List DirEntry) → AllByRecursion IsEntry entries → length (flat_map entry_bytes entries) ≡ 32 * length entries
length-row [] each = refl
length-row (entry ∷ entries) each =
    omega (arith, ap length (flat_map-cons entry_bytes entry entries), length-append (entry_bytes entry) (flat_map entry_bytes entries), length-entry_bytes entry each.0, length-row entries each.1)

byte_in_row : (entries : List DirEntry) (k j : ℕ) → AllByRecursion IsEntry entries → k < length entries → j < 32 → get_or (flat_map entry_bytes entries) (32 * k + j) 0 ≡ get_or (entry_bytes (get_or entries k no_entry)) j 0
byte_in_row [] k j each lt within = absurd (omega (arith, lt))
byte_in_row (entry ∷ entries) zero j each lt within =
    let at : 32 * 0 + j ≡ j = omega arith in
    ap (λ (row : List ℕ). get_or row (32 * 0 + j) 0) (flat_map-cons entry_bytes entry entries)
    ∙ ap (λ (i : ℕ). get_or (entry_bytes entry ++ flat_map entry_bytes entries) i 0) at
    ∙ get_or_append_left (entry_bytes entry) (flat_map entry_bytes entries) 0 j (omega (arith, within, length-entry_bytes entry each.0))
byte_in_row (entry ∷ entries) (suc k) j each lt within =
    let at : 32 * suc k + j - 32 ≡ 32 * k + j = omega arith in
    ap (λ (row : List ℕ). get_or row (32 * suc k + j) 0) (flat_map-cons entry_bytes entry entries)
    ∙ get_or-append_right (entry_bytes entry) (flat_map entry_bytes entries) 32 (32 * suc k + j) 0 (length-entry_bytes entry each.0) (omega arith)
    ∙ ap (λ (i : ℕ). get_or (flat_map entry_bytes entries) i 0) at
    ∙ byte_in_row entries k j each.1 (omega (arith, lt)) within

-- ---- the first entries that a node's bytes spell

pub record Begins (disk : List (List ℕ)) (inode : Inode) (entries : List DirEntry) : Type 0 where
  pub all : All IsEntry entries
  pub bytes : (k j : ℕ) → k < length entries → j < 32 → byte_at disk inode (32 * k + j) ≡ get_or (entry_bytes (get_or entries k no_entry)) j 0

get_or-node_bytes : (disk : List (List ℕ)) (inode : Inode) (at : ℕ) → at < inode.size → get_or (node_bytes disk inode) at 0 ≡ byte_at disk inode at
unfolding node_bytes
get_or-node_bytes disk inode at lt = get_or-map-range_with_len (λ (place : ℕ). byte_at disk inode place) 0 inode.size at at 0 lt (omega arith)

length-node_bytes : (disk : List (List ℕ)) (inode : Inode) → length (node_bytes disk inode) ≡ inode.size
unfolding node_bytes
length-node_bytes disk inode = length-map-range_with_len (λ (place : ℕ). byte_at disk inode place) 0 inode.size

pub begins : (disk : List (List ℕ)) (inode : Inode) (entries : List DirEntry) → HasEntries disk inode entries → Begins disk inode entries
begins disk inode entries has = record {
  all = all_entries entries has.each;
  bytes = λ k j lt within.
      sym (get_or-node_bytes disk inode (32 * k + j) (omega (arith, lt, within, size_of_entries disk inode entries has)))
      ∙ ap (λ (row : List ℕ). get_or row (32 * k + j) 0) has.bytes
      ∙ byte_in_row entries k j has.each lt within;
}

pub lists : (disk : List (List ℕ)) (inode : Inode) (entries : List DirEntry) → inode.kind ≡ directory → inode.size ≡ 32 * length entries → Begins disk inode entries → HasEntries disk inode entries
lists disk inode entries kind size is =
    let each : AllByRecursion IsEntry entries = each_entry entries is.all in
    record {
      kind = kind;
      each = each;
      bytes = ext_get_or 0 (node_bytes disk inode) (flat_map entry_bytes entries) (length-node_bytes disk inode ∙ size ∙ sym (length-row entries each))
          (λ at within.
          let lt : at < inode.size = omega (arith, within, length-node_bytes disk inode) in
          let split : 32 * (at / 32) + at % 32 ≡ at = omega arith in
          let k_lt : at / 32 < length entries = omega (arith, lt, size) in
          get_or-node_bytes disk inode at lt
          ∙ ap (λ (i : ℕ). byte_at disk inode i) (sym split)
          ∙ is.bytes (at / 32) (at % 32) k_lt (omega arith)
          ∙ sym (byte_in_row entries (at / 32) (at % 32) each k_lt (omega arith))
          ∙ ap (λ (i : ℕ). get_or (flat_map entry_bytes entries) i 0) split);
    }

-- ---- an entry in its slot

pub block_of_place : (k j : ℕ) → j < 32 → (32 * k + j) / 1024 ≡ k / 32
block_of_place k j lt = omega (arith, lt)

pub byte_in_slot : (k j : ℕ) → j < 32 → (32 * k + j) % 1024 ≡ 32 * (k % 32) + j
byte_in_slot k j lt = omega (arith, lt)

pub byte_at_slot : (disk : List (List ℕ)) (inode : Inode) (k j : ℕ) (block : List ℕ) → j < 32 → block_bytes disk (data_block disk inode (k / 32)) ≡ block
    → byte_at disk inode (32 * k + j) ≡ get_or block (32 * (k % 32) + j) 0
byte_at_slot disk inode k j block lt is =
    ap (λ (index : ℕ). get_or (block_bytes disk (data_block disk inode index)) ((32 * k + j) % 1024) 0) (block_of_place k j lt)
    ∙ ap (λ (i : ℕ). get_or (block_bytes disk (data_block disk inode (k / 32))) i 0) (byte_in_slot k j lt)
    ∙ ap (λ (bytes : List ℕ). get_or bytes (32 * (k % 32) + j) 0) is

-- the bytes of a block, by its number
pub block_is : (disk between : List (List ℕ)) (inode : Inode) (index number : ℕ) → number ≡ data_block disk inode index → between ≡ disk
    → block_bytes disk (data_block disk inode index) ≡ block_bytes between number
block_is disk between inode index number is same = ap (λ (n : ℕ). block_bytes disk n) (sym is) ∙ ap (λ (d : List (List ℕ)). block_bytes d number) (sym same)

-- what was got is the block
pub block_got : (disk between : List (List ℕ)) (inode : Inode) (index number : ℕ) (bytes : List ℕ) → number ≡ data_block disk inode index → between ≡ disk → slice_get between number ≡ Some bytes
    → block_bytes disk (data_block disk inode index) ≡ bytes
block_got disk between inode index number bytes is same got =
    ap (λ (n : ℕ). block_bytes disk n) (sym is) ∙ ap (λ (d : List (List ℕ)). block_bytes d number) (sym same) ∙ get_or_from_slice_get between number bytes [] got

-- the entry of a place stands in its slot
pub spelled : (disk : List (List ℕ)) (inode : Inode) (entries : List DirEntry) (place : ℕ) (block : List ℕ) → HasEntries disk inode entries → place < length entries
    → block_bytes disk (data_block disk inode (place / 32)) ≡ block → Spells block (place % 32) (get_or entries place no_entry)
spelled disk inode entries place block has lt is =
    let b = begins disk inode entries has in
    record { valid = b.all place no_entry lt; bytes = λ j within. sym (byte_at_slot disk inode place j block within is) ∙ b.bytes place j lt within }

pub place_within : (disk : List (List ℕ)) (inode : Inode) (entries : List DirEntry) (place : ℕ) → HasEntries disk inode entries → 32 * place < inode.size → place < length entries
place_within disk inode entries place has lt = omega (arith, lt, size_of_entries disk inode entries has)

-- A directory of which the block of one entry was written.
use Rattle.std.proofs.Common.{◌≡◌, ℕ, ◌+◌, ◌*◌, ◌/◌, ◌%◌, ◌<◌, ◌≤◌, ◌⊎◌, inl, inr, List, length, get_or, set, refl, sym, ap, ◌∙◌, arith}
use Rattle.std.proofs.lemmas.Bool.{cases_lt, cases_eq}
use Rattle.std.proofs.lemmas.List.{length-set, get_or-set_same, get_or-set_other}
use Rattle.std.proofs.lemmas.List.Elements.{All-set}
use Rattle.kabi_types.specs.declared.inodes.Inode.{Inode}
use Rattle.kabi_types.specs.declared.inodes.DirEntry.{DirEntry}
use Rattle.posix_defs.specs.DiskFormat.{data_blocks, IsForFiles, IsEntry, entry_bytes}
use Rattle.posix_defs.specs.SoundDisk.{block_bytes, Data, HasNode}
use Rattle.posix_defs.specs.DiskContents.{data_block, byte_at, HasEntries}
use Rattle.posix_defs.specs.NodeChange.{WritesBlock}
use Rattle.posix_defs.specs.TreeChanges.{no_entry}
use Rattle.disk_laws.proofs.DirectoryEntries.{size_of_entries}
use Rattle.memfs_dir.specs.Slots.{HasBytesOf}
use Rattle.memfs_dir.specs.Listed.{PutsEntry, Relists}
use Rattle.memfs_dir.proofs.DirectoryBytes.{begins, lists, byte_at_slot, place_within}

pub byte_of : (disk : List (List ℕ)) (inode : Inode) (at index : ℕ) (block : List ℕ) → at / 1024 ≡ index → block_bytes disk (data_block disk inode index) ≡ block → byte_at disk inode at ≡ get_or block (at % 1024) 0
byte_of disk inode at index block where_ is = ap (λ (n : ℕ). get_or (block_bytes disk (data_block disk inode n)) (at % 1024) 0) where_ ∙ ap (λ (bytes : List ℕ). get_or bytes (at % 1024) 0) is

block_after : (number : ℕ) (before : List (List ℕ)) (inode : Inode) (index : ℕ) (bytes : List ℕ) (after : List (List ℕ)) → WritesBlock number before inode index bytes after → index < data_blocks inode.size
    → block_bytes after (data_block after inode index) ≡ bytes
block_after number before inode index bytes after w lt = ap (λ (n : ℕ). block_bytes after n) (w.names (Data index) lt) ∙ w.this

-- a block for files isn't the map
pub map_stays : (disk : List (List ℕ)) (number : ℕ) (block : List ℕ) → IsForFiles (length disk) number → block_bytes (set disk number block) 0 ≡ block_bytes disk 0
map_stays disk number block files = get_or-set_other {A = List ℕ} disk number 0 block _ (λ e. omega (arith, e, files.0))

-- the block has the entry in its slot, and of the bytes beside it all that lie within the directory
pub puts : (number : ℕ) (before : List (List ℕ)) (inode : Inode) (place : ℕ) (entry : DirEntry) (block : List ℕ) (after : List (List ℕ)) → HasNode before number inode → 32 * place + 32 ≤ inode.size
    → WritesBlock number before inode (place / 32) block after → HasBytesOf block (place % 32) entry → block_bytes after 0 ≡ block_bytes before 0
    → ((at : ℕ) → at < inode.size → at / 1024 ≡ place / 32 → (at < 32 * place) ⊎ (32 * place + 32 ≤ at) → get_or block (at % 1024) 0 ≡ byte_at before inode at)
    → PutsEntry number before inode place entry after
puts number before inode place entry block after node within w here map beside =
    let index_lt : place / 32 < data_blocks inode.size = omega (arith, within) in
    let is = block_after number before inode (place / 32) block after w index_lt in
    record {
      changes = w.changes;
      has = (w.has, node.1);
      map = map;
      free = w.free;
      this = λ j lt. byte_at_slot after inode place j block lt is ∙ here j lt;
      others = λ at lt aside. elim (cases_eq (at / 1024) (place / 32)) [
        | inl same ↦ byte_of after inode at (place / 32) block same is ∙ beside at lt same aside
        | inr other ↦
            let at_lt : at / 1024 < data_blocks inode.size = omega (arith, lt) in
            ap (λ (n : ℕ). get_or (block_bytes after n) (at % 1024) 0) (w.names (Data (at / 1024)) at_lt)
            ∙ ap (λ (bytes : List ℕ). get_or bytes (at % 1024) 0) (w.others (at / 1024) at_lt other)
      ];
    }

-- an entry that was put in the place of another
pub replaced : (number : ℕ) (before : List (List ℕ)) (inode : Inode) (place : ℕ) (entry : DirEntry) (after : List (List ℕ)) → PutsEntry number before inode place entry after → IsEntry entry → 32 * place < inode.size
    → (entries : List DirEntry) → HasEntries before inode entries → HasEntries after inode (set entries place entry)
replaced number before inode place entry after put valid within entries has =
    let old = begins before inode entries has in
    let size = size_of_entries before inode entries has in
    let lt : place < length entries = place_within before inode entries place has within in
    let len : length (set entries place entry) ≡ length entries = length-set entries place entry in
    lists after inode (set entries place entry) has.kind (size ∙ ap (λ (n : ℕ). 32 * n) (sym len)) (
    record {
      all = All-set IsEntry entries place entry valid old.all;
      bytes = λ k j k_lt j_lt. elim (cases_eq k place) [
        | inl same ↦
            let at : get_or (set entries place entry) k no_entry ≡ entry = ap (λ (n : ℕ). get_or (set entries place entry) n no_entry) same ∙ get_or-set_same entries place entry no_entry lt in
            ap (λ (n : ℕ). byte_at after inode (32 * n + j)) same ∙ put.this j j_lt ∙ ap (λ (e : DirEntry). get_or (entry_bytes e) j 0) (sym at)
        | inr other ↦
            let at : get_or (set entries place entry) k no_entry ≡ get_or entries k no_entry = get_or-set_other entries place k entry no_entry other in
            let aside : (32 * k + j < 32 * place) ⊎ (32 * place + 32 ≤ 32 * k + j) = elim (cases_lt k place) [ inl lower ↦ inl (omega (arith, lower, j_lt)) | inr higher ↦ inr (omega (arith, higher, other)) ] in
            put.others (32 * k + j) (omega (arith, k_lt, j_lt, size, len)) aside
            ∙ old.bytes k j (omega (arith, k_lt, len)) j_lt
            ∙ ap (λ (e : DirEntry). get_or (entry_bytes e) j 0) (sym at)
      ];
    }
    )

pub renamed : (number : ℕ) (before : List (List ℕ)) (inode : Inode) (place : ℕ) (entry : DirEntry) (after : List (List ℕ)) → PutsEntry number before inode place entry after → IsEntry entry → 32 * place < inode.size
    → Relists number before inode (λ entries. set entries place entry) after inode
renamed number before inode place entry after put valid within = record {
  changes = put.changes;
  has = put.has;
  links = refl;
  list = replaced number before inode place entry after put valid within;
  free = omega (arith, put.free);
}

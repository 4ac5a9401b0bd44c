-- A directory that grew by an entry, or shrank.
use Rattle.std.proofs.Common.{◌≡◌, ◌≢◌, ℕ, ◌+◌, ◌-◌, ◌*◌, ◌/◌, ◌%◌, ◌<◌, inl, inr, List, ◌++◌, ◌∷◌, [], Some, length, get_or, set, take, sym, ap, subst, ◌∙◌, arith, slice_get}
use Rattle.std.specs.List.{swap_remove}
use Rattle.std.proofs.lemmas.Bool.{cases_lt}
use Rattle.std.proofs.lemmas.Option.{same_Some, slice_get-get_or}
use Rattle.std.proofs.lemmas.List.{length-set, length-take-le, get_or-take, get_or_append_left, get_or_at, length_push}
use Rattle.std.proofs.lemmas.List.Elements.{All-push, All-take}
use Rattle.kabi_types.specs.declared.inodes.Inode.{Inode}
use Rattle.kabi_types.specs.declared.inodes.DirEntry.{DirEntry}
use Rattle.posix_defs.specs.DiskFormat.{blocks_of, IsEntry, entry_bytes}
use Rattle.posix_defs.specs.SoundDisk.{block_bytes, bit_of, HasNode}
use Rattle.posix_defs.specs.DiskContents.{byte_at, HasEntries}
use Rattle.posix_defs.specs.NodeChange.{Resizes, Grows}
use Rattle.posix_defs.specs.TreeChanges.{no_entry}
use Rattle.disk_laws.proofs.DirectoryEntries.{size_of_entries}
use Rattle.blk_map.proofs.AndBack.{changes_follow}
use Rattle.blk_map.specs.Named.{FreesNone, TakesLowest, TakesNone}
use Rattle.blk_map.proofs.Taken.{none_then_none, same_frees_none, same_takes_none}
use Rattle.memfs_dir.specs.Listed.{PutsEntry, Relists}
use Rattle.memfs_dir.proofs.DirectoryBytes.{begins, lists, place_within}
use Rattle.memfs_dir.proofs.Written.{replaced}

pub in_use : (number : ℕ) (before : List (List ℕ)) (old : Inode) (size : ℕ) (after : List (List ℕ)) (new : Inode) → old.kind ≢ 0 → Resizes number before old size after new → HasNode after number new
in_use number before old size after new free r = (r.has, λ none. free (sym r.fields.0 ∙ none))

-- the bytes within both sizes stay
byte_kept : (number : ℕ) (before : List (List ℕ)) (old : Inode) (size : ℕ) (after : List (List ℕ)) (new : Inode) → Resizes number before old size after new → (at : ℕ) → at < old.size → at < size
    → byte_at after new at ≡ byte_at before old at
byte_kept number before old size after new r at lt also =
    let kept = r.kept (at / 1024) (omega (arith, lt)) (omega (arith, also)) in
    ap (λ (n : ℕ). get_or (block_bytes after n) (at % 1024) 0) kept.0 ∙ ap (λ (bytes : List ℕ). get_or bytes (at % 1024) 0) kept.1

-- ---- an entry more

pub added : (number : ℕ) (before between after : List (List ℕ)) (old new : Inode) (entry : DirEntry) → HasNode before number old → Resizes number before old (old.size + 32) between new
    → PutsEntry number between new (old.size / 32) entry after → IsEntry entry → Relists number before old (λ entries. entries ++ entry ∷ []) after new
added number before between after old new entry node r put valid = record {
  changes = changes_follow number before between after r.changes put.changes;
  has = put.has;
  links = r.fields.1;
  list = λ entries has.
      let is = begins before old entries has in
      let size = size_of_entries before old entries has in
      let len : length (entries ++ entry ∷ []) ≡ length entries + 1 = length_push entries entry in
      let place : old.size / 32 ≡ length entries = omega (arith, size) in
      lists after new (entries ++ entry ∷ []) (r.fields.0 ∙ has.kind) (omega (arith, r.fields.2, size, len)) (
      record {
        all = All-push IsEntry entries entry is.all valid;
        bytes = λ k j k_lt j_lt. elim (cases_lt k (length entries)) [
          | inl lt ↦
              let at : get_or (entries ++ entry ∷ []) k no_entry ≡ get_or entries k no_entry = get_or_append_left entries (entry ∷ []) no_entry k lt in
              put.others (32 * k + j) (omega (arith, lt, j_lt, size, r.fields.2)) (inl (omega (arith, lt, j_lt, place)))
              ∙ byte_kept number before old (old.size + 32) between new r (32 * k + j) (omega (arith, lt, j_lt, size)) (omega (arith, lt, j_lt, size))
              ∙ is.bytes k j lt j_lt
              ∙ ap (λ (e : DirEntry). get_or (entry_bytes e) j 0) (sym at)
          | inr last ↦
              let same : k ≡ length entries = omega (arith, k_lt, last, len) in
              let at : get_or (entries ++ entry ∷ []) k no_entry ≡ entry = get_or_at entries entry [] no_entry k (sym same) in
              ap (λ (n : ℕ). byte_at after new (32 * n + j)) (same ∙ sym place) ∙ put.this j j_lt ∙ ap (λ (e : DirEntry). get_or (entry_bytes e) j 0) (sym at)
        ];
      }
      );
  free = let same : blocks_of new.size ≡ blocks_of (old.size + 32) = ap blocks_of r.fields.2 in omega (arith, put.free, r.free, same);
}

-- it takes the blocks that growing took
pub takes_lowest : (number : ℕ) (before between after : List (List ℕ)) (old new : Inode) (place : ℕ) (entry : DirEntry) → Grows number before old (old.size + 32) between new → PutsEntry number between new place entry after
    → TakesLowest before after
takes_lowest number before between after old new place entry grown put block other free marked left =
    let bit : (n : ℕ) → bit_of (block_bytes after 0) n ≡ bit_of (block_bytes between 0) n = λ n. ap (λ (map : List ℕ). bit_of map n) put.map in
    grown.lowest block other free (sym (bit block) ∙ marked) (omega (arith, left.0, put.changes.blocks), λ is. left.1 (bit other ∙ is))

pub frees_none : (number : ℕ) (before between after : List (List ℕ)) (new : Inode) (place : ℕ) (entry : DirEntry) → FreesNone before between → PutsEntry number between new place entry after → FreesNone before after
frees_none number before between after new place entry grown put block is = same_frees_none between after put.map block (grown block is)

-- ---- an entry less

-- what fills the place takes nothing, and so does what is cut off
pub takes_none : (number : ℕ) (before between after : List (List ℕ)) (old : Inode) (place : ℕ) (last : DirEntry) → PutsEntry number before old place last between → TakesNone between after → TakesNone before after
takes_none number before between after old place last put cut = none_then_none before between after (same_takes_none before between put.map) cut

cut : (number : ℕ) (before : List (List ℕ)) (old : Inode) (after : List (List ℕ)) (new : Inode) → Resizes number before old (old.size - 32) after new → (entries : List DirEntry) → HasEntries before old entries
    → 0 < length entries → HasEntries after new (take (length entries - 1) entries)
cut number before old after new r entries has some =
    let is = begins before old entries has in
    let size = size_of_entries before old entries has in
    let fewer : ℕ = length entries - 1 in
    let len : length (take fewer entries) ≡ fewer = length-take-le fewer entries (omega arith) in
    lists after new (take fewer entries) (r.fields.0 ∙ has.kind) (omega (arith, r.fields.2, size, len, some)) (
    record {
      all = All-take IsEntry fewer entries is.all;
      bytes = λ k j k_lt j_lt.
          let lt : k < fewer = omega (arith, k_lt, len) in
          byte_kept number before old (old.size - 32) after new r (32 * k + j) (omega (arith, lt, j_lt, size)) (omega (arith, lt, j_lt, size))
          ∙ is.bytes k j (omega (arith, lt)) j_lt
          ∙ ap (λ (e : DirEntry). get_or (entry_bytes e) j 0) (sym (get_or-take fewer entries k no_entry lt));
    }
    )

pub removed : (number : ℕ) (before between after : List (List ℕ)) (old new : Inode) (place : ℕ) (last : DirEntry) → HasNode before number old → 32 * place < old.size → IsEntry last
    → ((entries : List DirEntry) → HasEntries before old entries → slice_get entries (old.size / 32 - 1) ≡ Some last) → PutsEntry number before old place last between
    → Resizes number between old (old.size - 32) after new → Relists number before old (λ entries. swap_remove entries place no_entry) after new
removed number before between after old new place last node within valid is_last put r = record {
  changes = changes_follow number before between after put.changes r.changes;
  has = in_use number between old (old.size - 32) after new node.1 r;
  links = r.fields.1;
  list = λ entries has.
      let size = size_of_entries before old entries has in
      let lt : place < length entries = place_within before old entries place has within in
      let at : old.size / 32 - 1 ≡ length entries - 1 = omega (arith, size) in
      let same : get_or entries (length entries - 1) no_entry ≡ last =
      same_Some _ _ (sym (slice_get-get_or entries (length entries - 1) no_entry (omega (arith, lt))) ∙ ap (λ (n : ℕ). slice_get entries n) (sym at) ∙ is_last entries has) in
      let len : length (set entries place last) ≡ length entries = length-set entries place last in
      let moved = replaced number before old place last between put valid within entries has in
      let shorter = cut number between old after new r (set entries place last) moved (omega (arith, lt, len)) in
      subst (λ (es : List DirEntry). HasEntries after new es)
      (ap (λ (n : ℕ). take (n - 1) (set entries place last)) len ∙ ap (λ (e : DirEntry). take (length entries - 1) (set entries place e)) (sym same))
      shorter;
  free = let same : blocks_of new.size ≡ blocks_of (old.size - 32) = ap blocks_of r.fields.2 in omega (arith, put.free, r.free, same);
}

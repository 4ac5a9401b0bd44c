-- A node has another size, and as many blocks as before.
use Rattle.std.proofs.Common.{◌≡◌, ◌≢◌, ℕ, ◌+◌, ◌-◌, ◌*◌, ◌<◌, ◌≤◌, inl, inr, List, length, get_or, refl, sym, ap, subst, ◌∙◌, arith}
use Rattle.kabi_types.specs.declared.inodes.Inode.{Inode}
use Rattle.posix_defs.specs.DiskFormat.{block_size, table_end, data_blocks, pointers_beside, pointer_blocks, leads_to, IsForFiles, inode_bytes, most_blocks}
use Rattle.posix_defs.specs.SoundDisk.{block_bytes, table_block, table_bytes, HasInode, pointer_at, Place, Data, Pointers, HasPlace, named_at, bit_of, IsMarked, Sound, pointer_block}
use Rattle.posix_defs.specs.NodeChange.{Names, Replaces, Resizes}
use Rattle.disk_laws.proofs.FreeBlocks.{named_is_for_files, direct_at, names_stay, same_names}
use Rattle.disk_laws.proofs.Pointing.{pointers_are, unneeded}
use Rattle.disk_laws.proofs.OneNode.{named_is_marked, this_has, changes_node, free_after}
use Rattle.blk_map.specs.Growing.{GrowsBut}
use Rattle.blk_map.specs.Named.{MayHaveSize}
use Rattle.blk_map.proofs.Blocks.{in_table}
use Rattle.blk_map.proofs.Inodes.{none_needed, Points, is_inode}

pub record SameBlocks : Type 0 where
  pub number : ℕ
  pub before : List (List ℕ)
  pub old : Inode
  pub size : ℕ
  pub after : List (List ℕ)
  pub sound : Sound before
  pub had : HasInode before number old
  pub kind : MayHaveSize old.kind size
  pub same : data_blocks size ≡ data_blocks old.size
  pub count : length after ≡ length before
  pub slot : table_bytes after number ≡ inode_bytes (record { kind = old.kind; nlink = old.nlink; size = size; direct = old.direct; indirect = old.indirect; double = old.double })
  pub slots : (node : ℕ) → 0 < node → node ≢ number → table_bytes after node ≡ table_bytes before node
  pub others : (block : ℕ) → block ≢ table_block number → block_bytes after block ≡ block_bytes before block

abbrev pub resized : SameBlocks → Inode
resized s = record { kind = s.old.kind; nlink = s.old.nlink; size = s.size; direct = s.old.direct; indirect = s.old.indirect; double = s.old.double }

most : (s : SameBlocks) → data_blocks s.size ≤ most_blocks
most s = omega (arith, s.same, s.had.valid.kind.size)

was : (s : SameBlocks) (place : Place) → HasPlace s.size place → HasPlace s.old.size place
was s (Data index) lt = omega (arith, lt, s.same)
was s (Pointers block) lt = subst (λ (n : ℕ). block < pointers_beside n) s.same lt

is : (s : SameBlocks) (place : Place) → HasPlace s.old.size place → HasPlace s.size place
is s (Data index) lt = omega (arith, lt, s.same)
is s (Pointers block) lt = subst (λ (n : ℕ). block < pointers_beside n) (sym s.same) lt

files : (s : SameBlocks) (place : Place) → HasPlace s.old.size place → IsForFiles (length s.before) (named_at s.before s.old place)
files s place within = named_is_for_files s.before s.sound s.number s.old place s.had within

-- blocks for files, and the map, are as they were
stays_there : (s : SameBlocks) (block : ℕ) → table_end (length s.before) < block → block_bytes s.after block ≡ block_bytes s.before block
stays_there s block above =
    let at = in_table (length s.before) s.number s.had.number.0 s.had.number.1 in
    s.others block (λ e. omega (arith, e, at.1, above))

bit_stays : (s : SameBlocks) (block : ℕ) → bit_of (block_bytes s.after 0) block ≡ bit_of (block_bytes s.before 0) block
bit_stays s block =
    let at = in_table (length s.before) s.number s.had.number.0 s.had.number.1 in
    ap (λ (map : List ℕ). bit_of map block) (s.others 0 (λ e. omega (arith, e, at.0)))

-- it names what it named
name : (s : SameBlocks) (place : Place) → HasPlace s.old.size place → named_at s.after (resized s) place ≡ named_at s.before s.old place
name s place within =
    same_names s.after s.old (resized s) refl refl refl place
    ∙ names_stay s.before s.after s.old (λ block has. stays_there s (pointer_block s.before s.old block) (files s (Pointers block) has).0) place within

files_now : (s : SameBlocks) (place : Place) → HasPlace s.old.size place → IsForFiles (length s.before) (named_at s.after (resized s) place)
files_now s place within = subst (IsForFiles (length s.before)) (sym (name s place within)) (files s place within)

rest_now : (s : SameBlocks) (block at : ℕ) → block < pointer_blocks s.size → at < 256 → data_blocks s.size ≤ leads_to block at → pointer_at (block_bytes s.after (pointer_block s.after (resized s) block)) at ≡ 0
rest_now s block at has lt past =
    let had : HasPlace s.old.size (Pointers block) = was s (Pointers block) has in
    ap (λ (n : ℕ). pointer_at (block_bytes s.after n) at) (name s (Pointers block) had)
    ∙ ap (λ (bytes : List ℕ). pointer_at bytes at) (stays_there s (pointer_block s.before s.old block) (files s (Pointers block) had).0)
    ∙ unneeded s.before s.sound s.number s.old block at s.had had lt (omega (arith, past, s.same))

points : (s : SameBlocks) → Points (length s.before) s.size (resized s)
points s =
    record {
      ten = s.had.valid.fits.count;
      direct = λ k lt within. subst (IsForFiles (length s.before)) (direct_at s.before s.old k lt) (files s (Data k) (omega (arith, within, s.same)));
      none = λ k lt past. none_needed (length s.before) (get_or s.old.direct k 0) (k * block_size) s.old.size (omega (arith, past, s.same)) (s.had.valid.pointers.direct k lt);
      pointers = λ large. files s (Pointers 0) (omega (arith, large, s.same));
      no_pointers = λ few. none_needed (length s.before) s.old.indirect (10 * block_size) s.old.size (omega (arith, few, s.same)) s.had.valid.pointers.indirect;
      double = λ large. files s (Pointers 1) (omega (arith, large, s.same));
      no_double = λ few. none_needed (length s.before) s.old.double (266 * block_size) s.old.size (omega (arith, few, s.same)) s.had.valid.pointers.double;
    }

still_names : (s : SameBlocks) (block : ℕ) → Names s.before s.old block → Names s.after (resized s) block
still_names s block names = record { place = names.place; within = is s names.place names.within; same = names.same ∙ sym (name s names.place names.within) }

replaces : (s : SameBlocks) → Replaces s.number s.before s.old s.after (resized s)
replaces s =
    record {
      count = s.count;
      had = s.had;
      inode = is_inode (length s.before) s.size s.old (resized s) s.sound.size.1 s.had.valid s.kind (most s) (refl, refl, refl) (points s);
      slot = s.slot;
      slots = λ node pos within other. s.slots node pos other;
      pointers = pointers_are (length s.before) s.after (resized s) (λ place within. files_now s place (was s place within)) (rest_now s);
      once = λ i j at_i at_j same.
          (s.sound.once s.number s.number s.old s.old i j s.had s.had (was s i at_i) (was s j at_j) (sym (name s i (was s i at_i)) ∙ same ∙ name s j (was s j at_j))).1;
      taken = λ place within. inl (record { place = place; within = was s place within; same = name s place (was s place within) });
      untouched = λ block above below marked none. stays_there s block above;
      marked = λ block lt marked. inr (sym (bit_stays s block) ∙ marked);
      freed = λ block lt marked names. still_names s block names;
      stays = λ block lt marked none. bit_stays s block ∙ marked;
      takes = λ place within.
          bit_stays s (named_at s.after (resized s) place)
          ∙ subst (λ (n : ℕ). IsMarked s.before n) (sym (name s place (was s place within))) (named_is_marked s.before s.sound s.number s.old place s.had (was s place within));
      rest = λ block past lt marked. s.sound.rest block past lt (sym (bit_stays s block) ∙ marked);
    }

pub same_resizes : (s : SameBlocks) → Resizes s.number s.before s.old s.size s.after (resized s)
same_resizes s =
    let change = replaces s in
    record {
      has = this_has s.number s.before s.old s.after (resized s) change;
      fields = (refl, refl, refl);
      changes = changes_node s.number s.before s.old s.after (resized s) s.sound change;
      kept = λ index lt also. (name s (Data index) lt, stays_there s (named_at s.before s.old (Data index)) (files s (Data index) lt).0);
      free = free_after s.number s.before s.old s.after (resized s) s.sound change;
    }

pub same_grows : (from to : ℕ) (s : SameBlocks) → GrowsBut from to s.number s.before s.old s.size s.after (resized s)
same_grows from to s =
    record {
      resizes = same_resizes s;
      zero = λ index past lt off. absurd (omega (arith, past, lt, s.same));
      lowest = λ block other free marked stays. absurd (free.1 (sym (bit_stays s block) ∙ marked));
    }

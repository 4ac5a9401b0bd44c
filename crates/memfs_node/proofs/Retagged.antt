-- A node of which the table has another kind and other links, and all else as before.
use Rattle.std.proofs.Common.{◌≡◌, ◌≢◌, ℕ, ◌<◌, inl, inr, List, length, refl, sym, ap, subst, ◌∙◌, arith}
use Rattle.kabi_types.specs.declared.inodes.Inode.{Inode}
use Rattle.posix_defs.specs.DiskFormat.{table_end, IsForFiles, IsOfKind, IsPointer, IsInode, inode_bytes, needs_pointer}
use Rattle.posix_defs.specs.SoundDisk.{block_bytes, table_block, table_bytes, HasInode, pointer_at, Place, Data, Pointers, HasPlace, named_at, bit_of, IsMarked, Sound, pointer_block}
use Rattle.posix_defs.specs.NodeChange.{Names, Replaces}
use Rattle.disk_laws.proofs.FreeBlocks.{named_is_for_files, names_stay, same_names}
use Rattle.disk_laws.proofs.OneNode.{named_is_marked, this_has, changes_node, free_after, same_bytes}
use Rattle.blk_map.proofs.Blocks.{in_table}
use Rattle.memfs_node.specs.NodeOnDisk.{Retags}

pub record Tagged : Type 0 where
  pub number : ℕ
  pub before : List (List ℕ)
  pub old : Inode
  pub kind : ℕ
  pub links : ℕ
  pub after : List (List ℕ)
  pub sound : Sound before
  pub had : HasInode before number old
  pub valid : IsOfKind (record old { kind = kind; nlink = links })
  pub count : length after ≡ length before
  pub slot : table_bytes after number ≡ inode_bytes (record old { kind = kind; nlink = links })
  pub slots : (node : ℕ) → 0 < node → node ≢ number → table_bytes after node ≡ table_bytes before node
  pub others : (block : ℕ) → block ≢ table_block number → block_bytes after block ≡ block_bytes before block

abbrev pub tagged : Tagged → Inode
tagged t = record t.old { kind = t.kind; nlink = t.links }

files : (t : Tagged) (place : Place) → HasPlace t.old.size place → IsForFiles (length t.before) (named_at t.before t.old place)
files t place within = named_is_for_files t.before t.sound t.number t.old place t.had within

-- blocks for files, and the map, are as they were
stays_there : (t : Tagged) (block : ℕ) → table_end (length t.before) < block → block_bytes t.after block ≡ block_bytes t.before block
stays_there t block above =
    let at = in_table (length t.before) t.number t.had.number.0 t.had.number.1 in
    t.others block (λ e. omega (arith, e, at.1, above))

map_stays : (t : Tagged) → block_bytes t.after 0 ≡ block_bytes t.before 0
map_stays t =
    let at = in_table (length t.before) t.number t.had.number.0 t.had.number.1 in
    t.others 0 (λ e. omega (arith, e, at.0))

bit_stays : (t : Tagged) (block : ℕ) → bit_of (block_bytes t.after 0) block ≡ bit_of (block_bytes t.before 0) block
bit_stays t block = ap (λ (map : List ℕ). bit_of map block) (map_stays t)

pointers_stay : (t : Tagged) (block : ℕ) → HasPlace t.old.size (Pointers block) → block_bytes t.after (pointer_block t.before t.old block) ≡ block_bytes t.before (pointer_block t.before t.old block)
pointers_stay t block large = stays_there t (pointer_block t.before t.old block) (files t (Pointers block) large).0

name : (t : Tagged) (place : Place) → HasPlace t.old.size place → named_at t.after (tagged t) place ≡ named_at t.before t.old place
name t place within = same_names t.after t.old (tagged t) refl refl refl place ∙ names_stay t.before t.after t.old (pointers_stay t) place within

is_inode : (t : Tagged) → IsInode (length t.before) (tagged t)
is_inode t =
    let was = t.had.valid in
    record {
      fits = record {
        kind = omega (arith, t.valid.kind);
        nlink = omega (arith, t.valid.links);
        size = was.fits.size;
        count = was.fits.count;
        direct = was.fits.direct;
        indirect = was.fits.indirect;
        double = was.fits.double;
      };
      kind = t.valid;
      pointers = record { direct = was.pointers.direct; indirect = was.pointers.indirect; double = was.pointers.double };
    }

still_names : (t : Tagged) (block : ℕ) → Names t.before t.old block → Names t.after (tagged t) block
still_names t block names = record { place = names.place; within = names.within; same = names.same ∙ sym (name t names.place names.within) }

replaces : (t : Tagged) → Replaces t.number t.before t.old t.after (tagged t)
replaces t =
    record {
      count = t.count;
      had = t.had;
      inode = is_inode t;
      slot = t.slot;
      slots = λ node pos within other. t.slots node pos other;
      pointers = λ block at large lt.
          subst (λ (bytes : List ℕ). IsPointer (length t.before) (needs_pointer t.old.size block at) (pointer_at bytes at)) (
          sym (ap (block_bytes t.after) (name t (Pointers block) large) ∙ pointers_stay t block large)
          ) (t.sound.pointers t.number t.old block at t.had large lt);
      once = λ i j at_i at_j same. (t.sound.once t.number t.number t.old t.old i j t.had t.had at_i at_j (sym (name t i at_i) ∙ same ∙ name t j at_j)).1;
      taken = λ place within. inl (record { place = place; within = within; same = name t place within });
      untouched = λ block above below marked none. stays_there t block above;
      marked = λ block lt marked. inr (sym (bit_stays t block) ∙ marked);
      freed = λ block lt marked names. still_names t block names;
      stays = λ block lt marked none. bit_stays t block ∙ marked;
      takes = λ place within.
          bit_stays t (named_at t.after (tagged t) place) ∙ subst (λ (n : ℕ). IsMarked t.before n) (sym (name t place within)) (named_is_marked t.before t.sound t.number t.old place t.had within);
      rest = λ block past lt marked. t.sound.rest block past lt (sym (bit_stays t block) ∙ marked);
    }

pub retags : (t : Tagged) → Retags t.number t.before t.old t.kind t.links t.after (tagged t)
retags t =
    let change = replaces t in
    record {
      changes = changes_node t.number t.before t.old t.after (tagged t) t.sound change;
      has = this_has t.number t.before t.old t.after (tagged t) change;
      fields = refl;
      bytes = same_bytes t.before t.after t.old (tagged t) refl (λ index lt. (name t (Data index) lt, stays_there t (named_at t.before t.old (Data index)) (files t (Data index) lt).0));
      map = map_stays t;
      free = omega (arith, free_after t.number t.before t.old t.after (tagged t) t.sound change);
    }

-- A block of a node's bytes that is written changes nothing else of the disk.
use Rattle.std.proofs.Common.{◌≡◌, ◌≢◌, ℕ, ◌<◌, ◌≤◌, inl, inr, List, length, set, sym, ap, subst, ◌∙◌, arith}
use Rattle.std.proofs.lemmas.List.{length-set, get_or-set_same, get_or-set_other}
use Rattle.kabi_types.specs.declared.inodes.Inode.{Inode}
use Rattle.posix_defs.specs.DiskFormat.{table_end, table_nodes, data_blocks, IsForFiles, needs_pointer, IsPointer}
use Rattle.posix_defs.specs.SoundDisk.{block_bytes, table_block, table_slot, slot_bytes, table_bytes, HasInode, pointer_at, pointer_block, Place, Data, Pointers, HasPlace, named_at, bit_of, IsMarked, Sound}
use Rattle.posix_defs.specs.DiskContents.{data_block}
use Rattle.posix_defs.specs.NodeChange.{Replaces, WritesBlock}
use Rattle.disk_laws.proofs.FreeBlocks.{named_is_for_files, names_stay}
use Rattle.disk_laws.proofs.OneNode.{named_is_marked, this_has, changes_node, free_after}

record Written : Type 0 where
  disk : List (List ℕ)
  number : ℕ
  inode : Inode
  index : ℕ
  bytes : List ℕ
  sound : Sound disk
  had : HasInode disk number inode
  within : index < data_blocks inode.size

abbrev place_of : Written → ℕ
place_of w = data_block w.disk w.inode w.index

abbrev after_of : Written → List (List ℕ)
after_of w = set w.disk (place_of w) w.bytes

for_files : (w : Written) → IsForFiles (length w.disk) (place_of w)
for_files w = named_is_for_files w.disk w.sound w.number w.inode (Data w.index) w.had w.within

other_block : (w : Written) (block : ℕ) → block ≢ place_of w → block_bytes (after_of w) block ≡ block_bytes w.disk block
other_block w block apart = get_or-set_other {A = List ℕ} w.disk (place_of w) block w.bytes _ apart

bit_stays : (w : Written) (block : ℕ) → bit_of (block_bytes (after_of w) 0) block ≡ bit_of (block_bytes w.disk 0) block
bit_stays w block = ap (λ (map : List ℕ). bit_of map block) (other_block w 0 (λ e. omega (arith, e, (for_files w).0)))

in_table : (blocks node : ℕ) → 0 < node → node ≤ table_nodes blocks → table_block node ≤ table_end blocks
in_table blocks node pos within = omega (arith, pos, within)

slot_stays : (w : Written) (node : ℕ) → 0 < node → node ≤ table_nodes (length w.disk) → table_bytes (after_of w) node ≡ table_bytes w.disk node
unfolding table_bytes
slot_stays w node pos within =
    ap (λ (bytes : List ℕ). slot_bytes bytes (table_slot node)) (other_block w (table_block node) (λ e. omega (arith, e, (for_files w).0, in_table (length w.disk) node pos within)))

-- what the node needs for something else is another block
named_apart : (w : Written) (place : Place) → HasPlace w.inode.size place → place ≢ Data w.index → named_at w.disk w.inode place ≢ place_of w
named_apart w place has other = λ same. other (w.sound.once w.number w.number w.inode w.inode place (Data w.index) w.had w.had has w.within same).1

pointers_stay : (w : Written) (block : ℕ) → HasPlace w.inode.size (Pointers block) → block_bytes (after_of w) (pointer_block w.disk w.inode block) ≡ block_bytes w.disk (pointer_block w.disk w.inode block)
pointers_stay w block has = other_block w (pointer_block w.disk w.inode block) (named_apart w (Pointers block) has (λ e. cc))

name : (w : Written) (place : Place) → HasPlace w.inode.size place → named_at (after_of w) w.inode place ≡ named_at w.disk w.inode place
name w place within = names_stay w.disk (after_of w) w.inode (pointers_stay w) place within

replaces : (w : Written) → Replaces w.number w.disk w.inode (after_of w) w.inode
replaces w =
    record {
      count = length-set w.disk (place_of w) w.bytes;
      had = w.had;
      inode = w.had.valid;
      slot = slot_stays w w.number w.had.number.0 w.had.number.1 ∙ w.had.bytes;
      slots = λ node pos within other. slot_stays w node pos within;
      pointers = λ block at large lt.
          subst (λ (bytes : List ℕ). IsPointer (length w.disk) (needs_pointer w.inode.size block at) (pointer_at bytes at)) (
          sym (ap (block_bytes (after_of w)) (name w (Pointers block) large) ∙ pointers_stay w block large)
          ) (w.sound.pointers w.number w.inode block at w.had large lt);
      once = λ i j at_i at_j same. (w.sound.once w.number w.number w.inode w.inode i j w.had w.had at_i at_j (sym (name w i at_i) ∙ same ∙ name w j at_j)).1;
      taken = λ place within. inl (record { place = place; within = within; same = name w place within });
      untouched = λ block above below marked none. other_block w block (λ e. none (record { place = Data w.index; within = w.within; same = e }));
      marked = λ block lt marked. inr (sym (bit_stays w block) ∙ marked);
      freed = λ block lt marked names. record { place = names.place; within = names.within; same = names.same ∙ sym (name w names.place names.within) };
      stays = λ block lt marked none. bit_stays w block ∙ marked;
      takes = λ place within.
          bit_stays w (named_at (after_of w) w.inode place)
          ∙ subst (λ (n : ℕ). IsMarked w.disk n) (sym (name w place within)) (named_is_marked w.disk w.sound w.number w.inode place w.had within);
      rest = λ block past lt marked. w.sound.rest block past lt (sym (bit_stays w block) ∙ marked);
    }

writes : (w : Written) → WritesBlock w.number w.disk w.inode w.index w.bytes (after_of w)
writes w =
    let change = replaces w in
    record {
      changes = changes_node w.number w.disk w.inode (after_of w) w.inode w.sound change;
      has = this_has w.number w.disk w.inode (after_of w) w.inode change;
      names = name w;
      this = get_or-set_same {A = List ℕ} w.disk (place_of w) w.bytes _ (for_files w).1;
      others = λ index lt other. other_block w (data_block w.disk w.inode index) (named_apart w (Data index) lt (λ e. other (ap (λ (place : Place). index_in place) e)));
      free = omega (arith, free_after w.number w.disk w.inode (after_of w) w.inode w.sound change);
    }
  where
    index_in : Place → ℕ
    index_in (Data index) = index
    index_in (Pointers block) = 0

pub block_written : (disk : List (List ℕ)) (number : ℕ) (inode : Inode) (index : ℕ) (bytes : List ℕ) → Sound disk → HasInode disk number inode → index < data_blocks inode.size
    → WritesBlock number disk inode index bytes (set disk (data_block disk inode index) bytes)
block_written disk number inode index bytes sound had within =
    writes (record { disk = disk; number = number; inode = inode; index = index; bytes = bytes; sound = sound; had = had; within = within })

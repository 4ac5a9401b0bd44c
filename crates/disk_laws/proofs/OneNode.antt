-- A disk on which one node was replaced is sound, and every other node is as it was.
use Rattle.std.proofs.Common.{◌≡◌, ◌≢◌, ℕ, zero, suc, ◌+◌, ◌-◌, ◌/◌, ◌%◌, ◌<◌, ◌≤◌, ◌⊎◌, inl, inr, List, ◌∷◌, map, length, get_or, set, refl, sym, ap, subst, ◌∙◌, arith}
use Rattle.std.specs.List.{range_with_len}
use Rattle.std.proofs.lemmas.Bool.{cases_eq}
use Rattle.std.proofs.lemmas.List.{length-set, get_or-set_same, get_or-set_other}
use Rattle.std.proofs.lemmas.List.Sums.{sum_by-set}
use Rattle.kabi_types.specs.declared.inodes.Inode.{Inode}
use Rattle.posix_defs.specs.DiskFormat.{block_size, table_end, table_nodes, data_blocks, pointer_blocks, blocks_of, needs_pointer, IsPointer, IsInode}
use Rattle.posix_defs.specs.SoundDisk.{block_bytes, HasInode, pointer_at, pointer_block, Place, Data, Pointers, HasPlace, named_at, IsNamed, IsMarked, Sound, IsTable, free_in_map}
use Rattle.posix_defs.specs.DiskContents.{data_block, byte_at, node_bytes}
use Rattle.posix_defs.specs.NodeChange.{Names, Replaces}
use Rattle.posix_defs.specs.DiskTree.{ChangesNode}
use Rattle.disk_laws.proofs.FormattedDisk.{one_inode}
use Rattle.disk_laws.proofs.FreeBlocks.{named_is_for_files, names_stay, has_table, used_and_free}

-- ---- what another node names

-- it is in use, and the node that was replaced doesn't name it
pub named_is_marked : (disk : List (List ℕ)) → Sound disk → (node : ℕ) (inode : Inode) (place : Place) → HasInode disk node inode → HasPlace inode.size place → IsMarked disk (named_at disk inode place)
named_is_marked disk sound node inode place has within =
    let files = named_is_for_files disk sound node inode place has within in
    (sound.map (named_at disk inode place) files.1).1 (inr (record { node = node; inode = inode; place = place; has = has; within = within; same = refl }))

not_named_by : (disk : List (List ℕ)) → Sound disk → (number : ℕ) (old : Inode) → HasInode disk number old → (node : ℕ) (inode : Inode) (place : Place) → node ≢ number → HasInode disk node inode
    → HasPlace inode.size place → ¬ (Names disk old (named_at disk inode place))
not_named_by disk sound number old had node inode place other has within = λ names.
    other (sound.once node number inode old place names.place has had within names.within names.same).0

untouched_of : (number : ℕ) (before : List (List ℕ)) (old : Inode) (after : List (List ℕ)) (new : Inode) → Sound before → Replaces number before old after new
    → (node : ℕ) (inode : Inode) (place : Place) → node ≢ number → HasInode before node inode → HasPlace inode.size place
    → block_bytes after (named_at before inode place) ≡ block_bytes before (named_at before inode place)
untouched_of number before old after new sound change node inode place other has within =
    let files = named_is_for_files before sound node inode place has within in
    change.untouched (named_at before inode place) files.0 files.1 (named_is_marked before sound node inode place has within) (not_named_by before sound number old change.had node inode place other has within)

-- it names the same blocks as before
same_named : (number : ℕ) (before : List (List ℕ)) (old : Inode) (after : List (List ℕ)) (new : Inode) → Sound before → Replaces number before old after new
    → (node : ℕ) (inode : Inode) (place : Place) → node ≢ number → HasInode before node inode → HasPlace inode.size place → named_at after inode place ≡ named_at before inode place
same_named number before old after new sound change node inode place other has within =
    names_stay before after inode (λ block has_block. untouched_of number before old after new sound change node inode (Pointers block) other has has_block) place within

-- ---- the table

others_have : (number : ℕ) (before : List (List ℕ)) (old : Inode) (after : List (List ℕ)) (new : Inode) → Replaces number before old after new
    → (node : ℕ) (inode : Inode) → node ≢ number → HasInode before node inode → HasInode after node inode
others_have number before old after new change node inode other has =
    record {
      number = (has.number.0, subst (λ (n : ℕ). node ≤ table_nodes n) (sym change.count) has.number.1);
      valid = subst (λ (n : ℕ). IsInode n inode) (sym change.count) has.valid;
      bytes = change.slots node has.number.0 has.number.1 other ∙ has.bytes;
    }

others_had : (number : ℕ) (before : List (List ℕ)) (old : Inode) (after : List (List ℕ)) (new : Inode) → Replaces number before old after new
    → (node : ℕ) (inode : Inode) → node ≢ number → HasInode after node inode → HasInode before node inode
others_had number before old after new change node inode other has =
    let within : node ≤ table_nodes (length before) = subst (λ (n : ℕ). node ≤ table_nodes n) change.count has.number.1 in
    record {
      number = (has.number.0, within);
      valid = subst (λ (n : ℕ). IsInode n inode) change.count has.valid;
      bytes = sym (change.slots node has.number.0 within other) ∙ has.bytes;
    }

pub this_has : (number : ℕ) (before : List (List ℕ)) (old : Inode) (after : List (List ℕ)) (new : Inode) → Replaces number before old after new → HasInode after number new
this_has number before old after new change =
    record {
      number = (change.had.number.0, subst (λ (n : ℕ). number ≤ table_nodes n) (sym change.count) change.had.number.1);
      valid = subst (λ (n : ℕ). IsInode n new) (sym change.count) change.inode;
      bytes = change.slot;
    }

-- who has an inode now is the node that was replaced, or had it before
who : (number : ℕ) (before : List (List ℕ)) (old : Inode) (after : List (List ℕ)) (new : Inode) → Replaces number before old after new
    → (node : ℕ) (inode : Inode) → HasInode after node inode → ((node ≡ number) × (inode ≡ new)) ⊎ ((node ≢ number) × HasInode before node inode)
who number before old after new change node inode has =
    elim (cases_eq node number) [
      | inl e ↦ inl (e, one_inode after number inode new (subst (λ (n : ℕ). HasInode after n inode) e has) (this_has number before old after new change))
      | inr other ↦ inr (other, others_had number before old after new change node inode other has)
    ]

-- what the replaced node names is named by no other
apart : (number : ℕ) (before : List (List ℕ)) (old : Inode) (after : List (List ℕ)) (new : Inode) → Sound before → Replaces number before old after new
    → (i : Place) → HasPlace new.size i → (node : ℕ) (inode : Inode) (j : Place) → node ≢ number → HasInode before node inode → HasPlace inode.size j → named_at after new i ≢ named_at before inode j
apart number before old after new sound change i at_i node inode j other has at_j = λ same.
    elim (change.taken i at_i) [
      | inl names ↦ not_named_by before sound number old change.had node inode j other has at_j (record { place = names.place; within = names.within; same = sym same ∙ names.same })
      | inr free ↦ free.1 (subst (λ (n : ℕ). IsMarked before n) (sym same) (named_is_marked before sound node inode j has at_j))
    ]

-- ---- the disk is sound

sound_table : (number : ℕ) (before : List (List ℕ)) (old : Inode) (after : List (List ℕ)) (new : Inode) → Sound before → Replaces number before old after new
    → (node : ℕ) → 0 < node → node ≤ table_nodes (length after) → (inode : Inode) × HasInode after node inode
sound_table number before old after new sound change node pos within =
    elim (cases_eq node number) [
      | inl e ↦ (new, subst (λ (n : ℕ). HasInode after n new) (sym e) (this_has number before old after new change))
      | inr other ↦
          let was = sound.table node pos (subst (λ (n : ℕ). node ≤ table_nodes n) change.count within) in
          (was.0, others_have number before old after new change node was.0 other was.1)
    ]

sound_pointers : (number : ℕ) (before : List (List ℕ)) (old : Inode) (after : List (List ℕ)) (new : Inode) → Sound before → Replaces number before old after new
    → (node : ℕ) (inode : Inode) (block at : ℕ) → HasInode after node inode → block < pointer_blocks inode.size → at < 256
    → IsPointer (length after) (needs_pointer inode.size block at) (pointer_at (block_bytes after (pointer_block after inode block)) at)
sound_pointers number before old after new sound change node inode block at has large lt =
    let Right : ℕ → Inode → Type 0 = λ n i. IsPointer n (needs_pointer i.size block at) (pointer_at (block_bytes after (pointer_block after i block)) at) in
    subst (λ (n : ℕ). Right n inode) (sym change.count) (
    elim (who number before old after new change node inode has) [
      | inl this ↦ subst (λ (i : Inode). Right (length before) i) (sym this.1) (change.pointers block at (subst (λ (i : Inode). block < pointer_blocks i.size) this.1 large) lt)
      | inr other ↦
          let same : pointer_block after inode block ≡ pointer_block before inode block = same_named number before old after new sound change node inode (Pointers block) other.0 other.1 large in
          let bytes_stay : block_bytes after (pointer_block after inode block) ≡ block_bytes before (pointer_block before inode block) =
          ap (block_bytes after) same ∙ untouched_of number before old after new sound change node inode (Pointers block) other.0 other.1 large in
          subst (λ (bytes : List ℕ). IsPointer (length before) (needs_pointer inode.size block at) (pointer_at bytes at)) (sym bytes_stay) (sound.pointers node inode block at other.1 large lt)
    ]
    )

sound_once : (number : ℕ) (before : List (List ℕ)) (old : Inode) (after : List (List ℕ)) (new : Inode) → Sound before → Replaces number before old after new
    → (first second : ℕ) (one other : Inode) (i j : Place) → HasInode after first one → HasInode after second other → HasPlace one.size i → HasPlace other.size j
    → named_at after one i ≡ named_at after other j → (first ≡ second) × (i ≡ j)
sound_once number before old after new sound change first second one other i j has also at_i at_j same =
    elim (who number before old after new change first one has) [
      | inl this ↦
          let here : HasPlace new.size i = subst (λ (x : Inode). HasPlace x.size i) this.1 at_i in
          let name : named_at after one i ≡ named_at after new i = ap (λ (x : Inode). named_at after x i) this.1 in
          elim (who number before old after new change second other also) [
            | inl that ↦
                let there : HasPlace new.size j = subst (λ (x : Inode). HasPlace x.size j) that.1 at_j in
                (this.0 ∙ sym that.0, change.once i j here there (sym name ∙ same ∙ ap (λ (x : Inode). named_at after x j) that.1))
            | inr that ↦
                let was = same_named number before old after new sound change second other j that.0 that.1 at_j in
                absurd (apart number before old after new sound change i here second other j that.0 that.1 at_j (sym name ∙ same ∙ was))
          ]
      | inr this ↦
          let name = same_named number before old after new sound change first one i this.0 this.1 at_i in
          elim (who number before old after new change second other also) [
            | inl that ↦
                let there : HasPlace new.size j = subst (λ (x : Inode). HasPlace x.size j) that.1 at_j in
                let now : named_at after new j ≡ named_at after other j = ap (λ (x : Inode). named_at after x j) (sym that.1) in
                absurd (apart number before old after new sound change j there first one i this.0 this.1 at_i (now ∙ sym same ∙ name))
            | inr that ↦
                let was = same_named number before old after new sound change second other j that.0 that.1 at_j in
                sound.once first second one other i j this.1 that.1 at_i at_j (sym name ∙ same ∙ was)
          ]
    ]

used_says : (number : ℕ) (before : List (List ℕ)) (old : Inode) (after : List (List ℕ)) (new : Inode) → Sound before → Replaces number before old after new
    → (block : ℕ) → block < length before → IsMarked after block → (block ≤ table_end (length before)) ⊎ IsNamed after block
used_says number before old after new sound change block lt marked =
    let own : Names after new block → IsNamed after block = λ names.
    record { node = number; inode = new; place = names.place; has = this_has number before old after new change; within = names.within; same = names.same }
    in
    elim (change.marked block lt marked) [
      | inl names ↦ inr (own names)
      | inr was ↦
          elim ((sound.map block lt).0 was) [
            | inl low ↦ inl low
            | inr named ↦
                elim (cases_eq named.node number) [
                  | inl e ↦
                      let same : named.inode ≡ old = one_inode before number named.inode old (subst (λ (n : ℕ). HasInode before n named.inode) e named.has) change.had in
                      let names : Names before old block = record { place = named.place; within = subst (λ (i : Inode). HasPlace i.size named.place) same named.within; same = named.same ∙ ap (λ (i : Inode). named_at before i named.place) same } in
                      inr (own (change.freed block lt marked names))
                  | inr other ↦
                      let place : named_at after named.inode named.place ≡ named_at before named.inode named.place =
                      same_named number before old after new sound change named.node named.inode named.place other named.has named.within in
                      inr (record { node = named.node; inode = named.inode; place = named.place; has = others_have number before old after new change named.node named.inode other named.has; within = named.within; same = named.same ∙ sym place })
                ]
          ]
    ]

is_used : (number : ℕ) (before : List (List ℕ)) (old : Inode) (after : List (List ℕ)) (new : Inode) → Sound before → Replaces number before old after new
    → (block : ℕ) → block < length before → (block ≤ table_end (length before)) ⊎ IsNamed after block → IsMarked after block
is_used number before old after new sound change block lt (inl low) =
    change.stays block lt ((sound.map block lt).1 (inl low)) (
    λ names.
    let files = named_is_for_files before sound number old names.place change.had names.within in
    omega (arith, files.0, names.same, low)
    )
is_used number before old after new sound change block lt (inr named) =
    elim (who number before old after new change named.node named.inode named.has) [
      | inl this ↦
          let within : HasPlace new.size named.place = subst (λ (i : Inode). HasPlace i.size named.place) this.1 named.within in
          let same : block ≡ named_at after new named.place = named.same ∙ ap (λ (i : Inode). named_at after i named.place) this.1 in
          subst (λ (n : ℕ). IsMarked after n) (sym same) (change.takes named.place within)
      | inr other ↦
          let was = same_named number before old after new sound change named.node named.inode named.place other.0 other.1 named.within in
          let same : block ≡ named_at before named.inode named.place = named.same ∙ was in
          let marked : IsMarked before block = subst (λ (n : ℕ). IsMarked before n) (sym same) (named_is_marked before sound named.node named.inode named.place other.1 named.within) in
          let apart_from : ¬ (Names before old block) = λ names.
          not_named_by before sound number old change.had named.node named.inode named.place other.0 other.1 named.within (record { place = names.place; within = names.within; same = sym same ∙ names.same })
          in
          change.stays block lt marked apart_from
    ]

pub stays_sound : (number : ℕ) (before : List (List ℕ)) (old : Inode) (after : List (List ℕ)) (new : Inode) → Sound before → Replaces number before old after new → Sound after
stays_sound number before old after new sound change =
    let here : (n : ℕ) → n < length after → n < length before = λ n lt. omega (arith, lt, change.count) in
    record {
      size = (omega (arith, change.count, sound.size.0), omega (arith, change.count, sound.size.1));
      table = sound_table number before old after new sound change;
      pointers = sound_pointers number before old after new sound change;
      once = sound_once number before old after new sound change;
      map = λ block lt.
          subst (λ (n : ℕ). (IsMarked after block → (block ≤ table_end n) ⊎ IsNamed after block) × ((block ≤ table_end n) ⊎ IsNamed after block → IsMarked after block)) (sym change.count) (
            used_says number before old after new sound change block (here block lt),
            is_used number before old after new sound change block (here block lt),
          );
      rest = λ block past lt. change.rest block (omega (arith, past, change.count)) lt;
    }

-- ---- every other node

values_alike : (f g : ℕ → ℕ) (from n : ℕ) → ((k : ℕ) → from ≤ k → k < from + n → f k ≡ g k) → map f (range_with_len from n) ≡ map g (range_with_len from n)
values_alike f g from zero same = refl
values_alike f g from (suc n) same =
    ap (λ (x : ℕ). x ∷ map f (range_with_len (from + 1) n)) (same from (omega arith) (omega arith))
    ∙ ap (λ (xs : List ℕ). g from ∷ xs) (values_alike f g (from + 1) n (λ k le lt. same k (omega (arith, le)) (omega (arith, lt))))

-- a node whose blocks are the same with the same bytes has the same bytes
pub same_bytes : (before after : List (List ℕ)) (old new : Inode) → new.size ≡ old.size
    → ((index : ℕ) → index < data_blocks old.size → (data_block after new index ≡ data_block before old index) × (block_bytes after (data_block before old index) ≡ block_bytes before (data_block before old index)))
    → node_bytes after new ≡ node_bytes before old
unfolding node_bytes
same_bytes before after old new size same =
    let each : (place : ℕ) → 0 ≤ place → place < 0 + old.size → byte_at after new place ≡ byte_at before old place = λ place le lt.
    let at = same (place / block_size) (omega (arith, lt)) in
    ap (λ (n : ℕ). get_or (block_bytes after n) (place % block_size) 0) at.0 ∙ ap (λ (bytes : List ℕ). get_or bytes (place % block_size) 0) at.1
    in
    ap (λ (n : ℕ). map (λ (place : ℕ). byte_at after new place) (range_with_len 0 n)) size ∙ values_alike (λ place. byte_at after new place) (λ place. byte_at before old place) 0 old.size each

pub changes_node : (number : ℕ) (before : List (List ℕ)) (old : Inode) (after : List (List ℕ)) (new : Inode) → Sound before → Replaces number before old after new → ChangesNode before after number
changes_node number before old after new sound change =
    record {
      sound = stays_sound number before old after new sound change;
      blocks = change.count;
      inodes = others_have number before old after new change;
      bytes = λ node inode other has.
          same_bytes before after inode inode refl (
          λ index lt. (same_named number before old after new sound change node inode (Data index) other has lt, untouched_of number before old after new sound change node inode (Data index) other has lt)
          );
      names = λ node inode place other has within. same_named number before old after new sound change node inode place other has within;
    }

-- ---- how many blocks are free

table_after : (number : ℕ) (before : List (List ℕ)) (old : Inode) (after : List (List ℕ)) (new : Inode) → Replaces number before old after new → (inodes : List Inode) → IsTable before inodes
    → IsTable after (set inodes (number - 1) new)
table_after number before old after new change inodes table =
    record {
      count = length-set inodes (number - 1) new ∙ table.count ∙ ap table_nodes (sym change.count);
      each = λ place none lt.
          let within : place < length inodes = omega (arith, lt, length-set inodes (number - 1) new) in
          elim (cases_eq place (number - 1)) [
            | inl e ↦
                let node : place + 1 ≡ number = omega (arith, e, change.had.number.0) in
                let at : get_or (set inodes (number - 1) new) place none ≡ new = ap (λ (k : ℕ). get_or (set inodes (number - 1) new) k none) e ∙ get_or-set_same inodes (number - 1) new none (omega (arith, within, e)) in
                subst (λ (n : ℕ). HasInode after n (get_or (set inodes (number - 1) new) place none)) (sym node) (subst (λ (i : Inode). HasInode after number i) (sym at) (this_has number before old after new change))
            | inr other ↦
                let at : get_or (set inodes (number - 1) new) place none ≡ get_or inodes place none = get_or-set_other inodes (number - 1) place new none other in
                let has = others_have number before old after new change (place + 1) (get_or inodes place none) (λ e. other (omega (arith, e))) (table.each place none within) in
                subst (λ (i : Inode). HasInode after (place + 1) i) (sym at) has
          ];
    }

pub free_after : (number : ℕ) (before : List (List ℕ)) (old : Inode) (after : List (List ℕ)) (new : Inode) → Sound before → Replaces number before old after new
    → free_in_map after + blocks_of new.size ≡ free_in_map before + blocks_of old.size
free_after number before old after new sound change =
    let table = has_table before sound in
    let inodes : List Inode = table.0 in
    let within : number - 1 < length inodes = omega (arith, change.had.number.0, change.had.number.1, table.1.count) in
    let this : number - 1 + 1 ≡ number = omega (arith, change.had.number.0) in
    let at : HasInode before number (get_or inodes (number - 1) old) = subst (λ (n : ℕ). HasInode before n (get_or inodes (number - 1) old)) this (table.1.each (number - 1) old within) in
    let same : blocks_of (get_or inodes (number - 1) old).size ≡ blocks_of old.size = ap (λ (i : Inode). blocks_of i.size) (one_inode before number (get_or inodes (number - 1) old) old at change.had) in
    let sums = sum_by-set (λ (i : Inode). blocks_of i.size) inodes (number - 1) new old within in
    let first = used_and_free before inodes sound table.1 in
    let then = used_and_free after (set inodes (number - 1) new) (stays_sound number before old after new sound change) (table_after number before old after new change inodes table.1) in
    omega (arith, sums, same, first, then, change.count)

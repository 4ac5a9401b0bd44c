-- A node that was given free blocks has grown.
use Rattle.std.proofs.Common.{◌≡◌, ◌≢◌, ℕ, ◌+◌, ◌-◌, ◌*◌, ◌<◌, ◌≤◌, ◌⊎◌, inl, inr, List, length, get_or, refl, sym, ap, subst, ◌∙◌, arith}
use Rattle.std.proofs.lemmas.Bool.{cases_lt}
use Rattle.kabi_types.specs.declared.inodes.Inode.{Inode}
use Rattle.posix_defs.specs.DiskFormat.{block_size, table_end, table_nodes, data_blocks, pointer_blocks, blocks_of, leads_to, IsForFiles, inode_bytes, most_blocks}
use Rattle.posix_defs.specs.SoundDisk.{block_bytes, table_bytes, HasInode, pointer_at, pointer_block, Place, Data, Pointers, HasPlace, named_at, IsMarked, Sound, IsFreeBlock, free_in_map}
use Rattle.posix_defs.specs.DiskContents.{data_block, zeros}
use Rattle.posix_defs.specs.NodeChange.{Names, Replaces, Resizes, Grows}
use Rattle.disk_laws.proofs.FreeBlocks.{named_is_for_files, direct_at}
use Rattle.disk_laws.proofs.Pointing.{pointers_are}
use Rattle.disk_laws.proofs.OneNode.{named_is_marked, this_has, changes_node, free_after}
use Rattle.blk_map.specs.Growing.{GrowsBut}
use Rattle.blk_map.specs.Named.{MayHaveSize}
use Rattle.blk_map.proofs.Blocks.{free_is_for_files}
use Rattle.blk_map.proofs.Inodes.{Points, is_inode}
use Rattle.blk_map.proofs.Counted.{given, pointers_more}

-- which of the blocks that a node is given it has for a place
abbrev pub key_of : ℕ → ℕ → Place → ℕ
key_of old size (Data index) = index - data_blocks old
key_of old size (Pointers block) = data_blocks size - data_blocks old + (block - pointer_blocks old)

-- what was done to a disk on which a node grew
pub record Growth : Type 0 where
  pub number : ℕ
  pub before : List (List ℕ)
  pub old : Inode
  pub size : ℕ
  pub after : List (List ℕ)
  pub new : Inode
  -- the blocks that it was given
  pub taken : List ℕ
  pub sound : Sound before
  pub had : HasInode before number old
  pub kind : MayHaveSize old.kind size
  pub more : old.size ≤ size
  pub most : data_blocks size ≤ most_blocks
  pub count : length after ≡ length before
  pub fields : (new.kind ≡ old.kind) × (new.nlink ≡ old.nlink) × (new.size ≡ size)
  pub ten : length new.direct ≡ 10
  pub many : length taken ≡ blocks_of size - blocks_of old.size
  pub free : (k : ℕ) → k < length taken → IsFreeBlock before (get_or taken k 0)
  pub apart : (j k : ℕ) → j < length taken → k < length taken → get_or taken j 0 ≡ get_or taken k 0 → j ≡ k
  pub lowest : (block : ℕ) → IsFreeBlock before block → ((k : ℕ) × (k < length taken) × (get_or taken k 0 ≡ block)) ⊎ ((k : ℕ) → k < length taken → get_or taken k 0 < block)
  pub slot : table_bytes after number ≡ inode_bytes new
  pub slots : (node : ℕ) → 0 < node → node ≤ table_nodes (length before) → node ≢ number → table_bytes after node ≡ table_bytes before node
  -- it names what it named, and behind that what it was given: for its bytes first, then for pointers
  pub kept_names : (place : Place) → HasPlace old.size place → named_at after new place ≡ named_at before old place
  pub new_names : (place : Place) → HasPlace size place → ¬ (HasPlace old.size place) → named_at after new place ≡ get_or taken (key_of old.size size place) 0
  pub direct_rest : (k : ℕ) → data_blocks size ≤ k → k < 10 → get_or new.direct k 0 ≡ 0
  pub none : (data_blocks size ≤ 10 → new.indirect ≡ 0) × (data_blocks size ≤ 266 → new.double ≡ 0)
  pub behind_rest : (block at : ℕ) → block < pointer_blocks size → at < 256 → data_blocks size ≤ leads_to block at → pointer_at (block_bytes after (pointer_block after new block)) at ≡ 0
  pub untouched : (block : ℕ) → table_end (length before) < block → block < length before → ((k : ℕ) → k < length taken → get_or taken k 0 ≢ block)
      → ((p : ℕ) → p < pointer_blocks size → pointer_block after new p ≢ block) → block_bytes after block ≡ block_bytes before block
  -- the new blocks from one up to another have any bytes
  pub from : ℕ
  pub to : ℕ
  pub zero : (k : ℕ) → k < data_blocks size - data_blocks old.size → (k < from - data_blocks old.size) ⊎ (to - data_blocks old.size ≤ k) → block_bytes after (get_or taken k 0) ≡ zeros block_size
  pub marks : (k : ℕ) → k < length taken → IsMarked after (get_or taken k 0)
  pub stays : (block : ℕ) → IsMarked before block → IsMarked after block
  pub only : (block : ℕ) → IsMarked after block → IsMarked before block ⊎ ((k : ℕ) × (k < length taken) × (get_or taken k 0 ≡ block))

-- ---- how many blocks were given

abbrev more_data : Growth → ℕ
more_data g = data_blocks g.size - data_blocks g.old.size

abbrev more_pointers : Growth → ℕ
more_pointers g = pointer_blocks g.size - pointer_blocks g.old.size

many_given : (g : Growth) → length g.taken ≡ more_data g + more_pointers g
many_given g = g.many ∙ given g.old.size g.size g.more

pointers_grow : (g : Growth) → pointer_blocks g.old.size ≤ pointer_blocks g.size
pointers_grow g = pointers_more g.old.size g.size g.more

-- numbers among those that were given
pub front_within : (all held pointers k : ℕ) → all ≡ held + pointers → k < held → k < all
front_within all held pointers k is lt = omega arith

pub back_within : (all held pointers p old size : ℕ) → all ≡ held + pointers → pointers ≡ size - old → old ≤ p → p < size → held + (p - old) < all
back_within all held pointers p old size is many le lt = omega arith

back_from : (all held pointers k old size : ℕ) → all ≡ held + pointers → pointers ≡ size - old → old ≤ size → held ≤ k → k < all → (old ≤ old + (k - held)) × (old + (k - held) < size) × (held + (old + (k - held) - old) ≡ k)
back_from all held pointers k old size is many le past lt = (omega arith, omega arith, omega arith)

-- ---- where a block comes from that the node names now

abbrev key : Growth → Place → ℕ
key g place = key_of g.old.size g.size place

record IsOld (g : Growth) (place : Place) : Type 0 where
  within : HasPlace g.old.size place
  same : named_at g.after g.new place ≡ named_at g.before g.old place

record IsGiven (g : Growth) (place : Place) : Type 0 where
  within : key g place < length g.taken
  same : named_at g.after g.new place ≡ get_or g.taken (key g place) 0
  none : ¬ (HasPlace g.old.size place)

where_from : (g : Growth) (place : Place) → HasPlace g.size place → IsOld g place ⊎ IsGiven g place
where_from g (Data index) lt = elim (cases_lt index (data_blocks g.old.size)) [
  | inl old ↦ inl (record { within = old; same = g.kept_names (Data index) old })
  | inr past ↦
      let none : ¬ (HasPlace g.old.size (Data index)) = λ is. omega (arith, is, past) in
      inr (
      record { within = front_within (length g.taken) (more_data g) (more_pointers g) (index - data_blocks g.old.size) (many_given g) (omega (arith, past, lt)); same = g.new_names (Data index) lt none; none = none }
      )
]
where_from g (Pointers block) lt = elim (cases_lt block (pointer_blocks g.old.size)) [
  | inl old ↦ inl (record { within = old; same = g.kept_names (Pointers block) old })
  | inr past ↦
      let none : ¬ (HasPlace g.old.size (Pointers block)) = λ is. never block (pointer_blocks g.old.size) past is in
      inr (
      record {
        within = back_within (length g.taken) (more_data g) (more_pointers g) block (pointer_blocks g.old.size) (pointer_blocks g.size) (many_given g) refl past lt;
        same = g.new_names (Pointers block) lt none;
        none = none;
      }
      )
]
  where
    never : (n m : ℕ) → m ≤ n → n < m → ⊥
    never n m le lt = omega (arith, le, lt)

still : (g : Growth) (place : Place) → HasPlace g.old.size place → HasPlace g.size place
still g (Data index) lt = omega (arith, lt, g.more)
still g (Pointers block) lt = let grows = pointers_grow g in below block (pointer_blocks g.old.size) (pointer_blocks g.size) lt grows
  where
    below : (n m p : ℕ) → n < m → m ≤ p → n < p
    below n m p lt le = omega arith

was_marked : (g : Growth) (place : Place) → HasPlace g.old.size place → IsMarked g.before (named_at g.before g.old place)
was_marked g place within = named_is_marked g.before g.sound g.number g.old place g.had within

-- what isn't there is past the end
no_data : (g : Growth) (index : ℕ) → ¬ (HasPlace g.old.size (Data index)) → data_blocks g.old.size ≤ index
no_data g index none = elim (cases_lt index (data_blocks g.old.size)) [ inl lt ↦ absurd (none lt) | inr le ↦ le ]

no_pointer : (g : Growth) (block : ℕ) → ¬ (HasPlace g.old.size (Pointers block)) → pointer_blocks g.old.size ≤ block
no_pointer g block none = elim (cases_lt block (pointer_blocks g.old.size)) [ inl lt ↦ absurd (none lt) | inr le ↦ le ]

-- of two numbers one for bytes and one for pointers aren't the same
keys_apart : (x old size p : ℕ) → old ≤ x → x < size → x - old ≡ size - old + p → ⊥
keys_apart x old size p low lt e = omega (arith, low, lt, e)

pub keys_same : (x y old more : ℕ) → old ≤ x → old ≤ y → more + (x - old) ≡ more + (y - old) → x ≡ y
keys_same x y old more low also e = omega (arith, low, also, e)

same_key : (g : Growth) (i j : Place) → HasPlace g.size i → HasPlace g.size j → ¬ (HasPlace g.old.size i) → ¬ (HasPlace g.old.size j) → key g i ≡ key g j → i ≡ j
same_key g (Data x) (Data y) at_i at_j not_i not_j e = let same : x ≡ y = omega (arith, e, no_data g x not_i, no_data g y not_j) in ap Data same
same_key g (Data x) (Pointers block) at_i at_j not_i not_j e = absurd (keys_apart x (data_blocks g.old.size) (data_blocks g.size) (block - pointer_blocks g.old.size) (no_data g x not_i) at_i e)
same_key g (Pointers block) (Data y) at_i at_j not_i not_j e =
    absurd (keys_apart y (data_blocks g.old.size) (data_blocks g.size) (block - pointer_blocks g.old.size) (no_data g y not_j) at_j (sym e))
same_key g (Pointers x) (Pointers y) at_i at_j not_i not_j e = ap Pointers (keys_same x y (pointer_blocks g.old.size) (more_data g) (no_pointer g x not_i) (no_pointer g y not_j) e)

-- ---- the node's own facts

now_within : (g : Growth) (place : Place) → HasPlace g.new.size place → HasPlace g.size place
now_within g place within = subst (λ (n : ℕ). HasPlace n place) g.fields.2 within

within_now : (g : Growth) (place : Place) → HasPlace g.size place → HasPlace g.new.size place
within_now g place within = subst (λ (n : ℕ). HasPlace n place) (sym g.fields.2) within

apart_from_old : (g : Growth) (i j : Place) → HasPlace g.old.size i → IsGiven g j → named_at g.before g.old i ≢ named_at g.after g.new j
apart_from_old g i j at_i given = λ same. (g.free (key g j) given.within).1 (subst (λ (n : ℕ). IsMarked g.before n) (same ∙ given.same) (was_marked g i at_i))

named_once : (g : Growth) (i j : Place) → HasPlace g.size i → HasPlace g.size j → named_at g.after g.new i ≡ named_at g.after g.new j → i ≡ j
named_once g i j at_i at_j same = elim (where_from g i at_i) [
  | inl a ↦ elim (where_from g j at_j) [
    | inl b ↦ (g.sound.once g.number g.number g.old g.old i j g.had g.had a.within b.within (sym a.same ∙ same ∙ b.same)).1
    | inr b ↦ absurd (apart_from_old g i j a.within b (sym a.same ∙ same))
  ]
  | inr a ↦ elim (where_from g j at_j) [
    | inl b ↦ absurd (apart_from_old g j i b.within a (sym b.same ∙ sym same))
    | inr b ↦ same_key g i j at_i at_j a.none b.none (g.apart (key g i) (key g j) a.within b.within (sym a.same ∙ same ∙ b.same))
  ]
]

is_for_files : (g : Growth) (place : Place) → HasPlace g.size place → IsForFiles (length g.before) (named_at g.after g.new place)
is_for_files g place within = elim (where_from g place within) [
  | inl a ↦ subst (IsForFiles (length g.before)) (sym a.same) (named_is_for_files g.before g.sound g.number g.old place g.had a.within)
  | inr a ↦ subst (IsForFiles (length g.before)) (sym a.same) (free_is_for_files g.before g.sound (get_or g.taken (key g place) 0) (g.free (key g place) a.within))
]

points : (g : Growth) → Points (length g.before) g.size g.new
points g =
    record {
      ten = g.ten;
      direct = λ k lt within. subst (IsForFiles (length g.before)) (direct_at g.after g.new k lt) (is_for_files g (Data k) within);
      none = λ k lt past. g.direct_rest k past lt;
      pointers = λ large. is_for_files g (Pointers 0) (omega (arith, large));
      no_pointers = g.none.0;
      double = λ large. is_for_files g (Pointers 1) (omega (arith, large));
      no_double = g.none.1;
    }

-- ---- the disk

-- what was given is named
names_given : (g : Growth) (k : ℕ) → k < length g.taken → Names g.after g.new (get_or g.taken k 0)
names_given g k lt = elim (cases_lt k (more_data g)) [
  | inl data_one ↦
      let index : ℕ = data_blocks g.old.size + k in
      let back : index - data_blocks g.old.size ≡ k = omega arith in
      let within : index < data_blocks g.size = omega (arith, data_one) in
      let none : ¬ (HasPlace g.old.size (Data index)) = λ is. omega (arith, is) in
      record { place = Data index; within = within_now g (Data index) within; same = ap (λ (n : ℕ). get_or g.taken n 0) (sym back) ∙ sym (g.new_names (Data index) within none) }
  | inr past ↦
      let block : ℕ = pointer_blocks g.old.size + (k - more_data g) in
      let at = back_from (length g.taken) (more_data g) (more_pointers g) k (pointer_blocks g.old.size) (pointer_blocks g.size) (many_given g) refl (pointers_grow g) past lt in
      let none : ¬ (HasPlace g.old.size (Pointers block)) = λ is. never (pointer_blocks g.old.size) block at.0 is in
      record { place = Pointers block; within = within_now g (Pointers block) at.1; same = ap (λ (n : ℕ). get_or g.taken n 0) (sym at.2) ∙ sym (g.new_names (Pointers block) at.1 none) }
]
  where
    never : (n m : ℕ) → n ≤ m → m < n → ⊥
    never n m le lt = omega (arith, le, lt)

names_still : (g : Growth) (block : ℕ) → Names g.before g.old block → Names g.after g.new block
names_still g block names = elim (where_from g names.place (still g names.place names.within)) [
  | inl a ↦ record { place = names.place; within = within_now g names.place (still g names.place names.within); same = names.same ∙ sym a.same }
  | inr a ↦ absurd (a.none names.within)
]

-- a block in use wasn't given
not_given : (g : Growth) (block : ℕ) → IsMarked g.before block → (k : ℕ) → k < length g.taken → get_or g.taken k 0 ≢ block
not_given g block marked k lt = λ e. (g.free k lt).1 (subst (λ (n : ℕ). IsMarked g.before n) (sym e) marked)

pub replaces : (g : Growth) → Replaces g.number g.before g.old g.after g.new
replaces g =
    record {
      count = g.count;
      had = g.had;
      inode = is_inode (length g.before) g.size g.old g.new g.sound.size.1 g.had.valid g.kind g.most g.fields (points g);
      slot = g.slot;
      slots = g.slots;
      pointers = pointers_are (length g.before) g.after g.new (λ place within. is_for_files g place (now_within g place within)) (
          λ block at has lt past. g.behind_rest block at (now_within g (Pointers block) has) lt (subst (λ (n : ℕ). data_blocks n ≤ leads_to block at) g.fields.2 past)
          );
      once = λ i j at_i at_j same. named_once g i j (now_within g i at_i) (now_within g j at_j) same;
      taken = λ place within. elim (where_from g place (now_within g place within)) [
        | inl a ↦ inl (record { place = place; within = a.within; same = a.same })
        | inr a ↦ inr (subst (λ (n : ℕ). IsFreeBlock g.before n) (sym a.same) (g.free (key g place) a.within))
      ];
      untouched = λ block above below marked others.
          g.untouched block above below (not_given g block marked) (
          λ p has e.
          elim (where_from g (Pointers p) has) [
            | inl a ↦ others (record { place = Pointers p; within = a.within; same = sym e ∙ a.same })
            | inr a ↦ not_given g block marked (key g (Pointers p)) a.within (sym a.same ∙ e)
          ]
          );
      marked = λ block lt marked. elim (g.only block marked) [
        | inl was ↦ inr was
        | inr given ↦ inl (subst (λ (n : ℕ). Names g.after g.new n) given.2 (names_given g given.0 given.1))
      ];
      freed = λ block lt marked names. names_still g block names;
      stays = λ block lt marked others. g.stays block marked;
      takes = λ place within. elim (where_from g place (now_within g place within)) [
        | inl a ↦ subst (λ (n : ℕ). IsMarked g.after n) (sym a.same) (g.stays (named_at g.before g.old place) (was_marked g place a.within))
        | inr a ↦ subst (λ (n : ℕ). IsMarked g.after n) (sym a.same) (g.marks (key g place) a.within)
      ];
      rest = λ block past lt marked. elim (g.only block marked) [
        | inl was ↦ g.sound.rest block past lt was
        | inr given ↦ omega (arith, past, given.2, (g.free given.0 given.1).0)
      ];
    }

apart_places : (index block : ℕ) → Data index ≢ Pointers block
apart_places index block = λ e. cc

-- a block of its bytes stays as it is
bytes_kept : (g : Growth) (index : ℕ) → index < data_blocks g.old.size → block_bytes g.after (data_block g.before g.old index) ≡ block_bytes g.before (data_block g.before g.old index)
bytes_kept g index lt =
    let marked = was_marked g (Data index) lt in
    let files = named_is_for_files g.before g.sound g.number g.old (Data index) g.had lt in
    g.untouched (data_block g.before g.old index) files.0 files.1 (not_given g (data_block g.before g.old index) marked) (
    λ p has e.
    elim (where_from g (Pointers p) has) [
      | inl a ↦ absurd (apart_places index p (g.sound.once g.number g.number g.old g.old (Data index) (Pointers p) g.had g.had lt a.within (sym e ∙ a.same)).1)
      | inr a ↦ not_given g (data_block g.before g.old index) marked (key g (Pointers p)) a.within (sym a.same ∙ e)
    ]
    )

pub resizes : (g : Growth) → Resizes g.number g.before g.old g.size g.after g.new
resizes g =
    let change = replaces g in
    let left = free_after g.number g.before g.old g.after g.new g.sound change in
    record {
      has = this_has g.number g.before g.old g.after g.new change;
      fields = g.fields;
      changes = changes_node g.number g.before g.old g.after g.new g.sound change;
      kept = λ index lt also. (g.kept_names (Data index) lt, bytes_kept g index lt);
      free = ap (λ (n : ℕ). free_in_map g.after + blocks_of n) (sym g.fields.2) ∙ left;
    }

pub grows : (g : Growth) → GrowsBut g.from g.to g.number g.before g.old g.size g.after g.new
grows g =
    record {
      resizes = resizes g;
      zero = λ index past lt off.
          let k : ℕ = index - data_blocks g.old.size in
          let outside : (k < g.from - data_blocks g.old.size) ⊎ (g.to - data_blocks g.old.size ≤ k) = elim off [
            | inl below ↦ inl (omega (arith, past, below))
            | inr behind ↦ inr (omega (arith, past, behind))
          ] in
          ap (block_bytes g.after) (g.new_names (Data index) lt (λ is. omega (arith, is, past))) ∙ g.zero k (omega (arith, past, lt)) outside;
      lowest = λ block other free marked stays_free. elim (g.only block marked) [
        | inl was ↦ absurd (free.1 was)
        | inr given ↦
            let was_free : IsFreeBlock g.before other = (omega (arith, stays_free.0, g.count), λ is. stays_free.1 (g.stays other is)) in
            elim (g.lowest other was_free) [
              | inl also ↦ absurd (stays_free.1 (subst (λ (n : ℕ). IsMarked g.after n) also.2 (g.marks also.0 also.1)))
              | inr below ↦ omega (arith, below given.0 given.1, given.2)
            ]
      ];
    }

-- where none has any bytes all are zeros
pub all_zeros : {number : ℕ} {before : List (List ℕ)} {old : Inode} {size : ℕ} {after : List (List ℕ)} {new : Inode} → GrowsBut 0 0 number before old size after new → Grows number before old size after new
all_zeros g = record { resizes = g.resizes; zero = λ index past lt. g.zero index past lt (inr (omega arith)); lowest = g.lowest }

-- and the other way round
pub but_none : {number : ℕ} {before : List (List ℕ)} {old : Inode} {size : ℕ} {after : List (List ℕ)} {new : Inode} → Grows number before old size after new → GrowsBut 0 0 number before old size after new
but_none g = record { resizes = g.resizes; zero = λ index past lt off. g.zero index past lt; lowest = g.lowest }

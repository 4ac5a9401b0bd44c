-- The steps by which a node is given blocks within a run: its blocks of pointers, the map, the names, zeros, the run of pointers and the inode.
use Rattle.std.proofs.Common.{◌≡◌, ◌≢◌, ℕ, zero, suc, ◌+◌, ◌-◌, ◌*◌, ◌%◌, ◌<◌, ◌≤◌, ◌⊎◌, inl, inr, List, [], length, get_or, set, drop, refl, sym, ap, subst, ◌∙◌, arith}
use Rattle.std.proofs.lemmas.Bool.{cases_lt, cases_eq}
use Rattle.std.proofs.lemmas.List.{length-set, get_or-set_same, get_or-set_other, get_or-drop}
use Rattle.kabi_types.specs.declared.inodes.Inode.{Inode}
use Rattle.posix_defs.specs.DiskFormat.{block_size, table_end, table_nodes, data_blocks, pointer_blocks, blocks_of, leads_to, IsForFiles, inode_bytes, most_blocks}
use Rattle.posix_defs.specs.SoundDisk.{block_bytes, table_block, table_bytes, HasInode, pointer_at, pointer_block, block_of_run, run_of, Place, Data, Pointers, HasPlace, named_at, bit_of, IsMarked, Sound, IsFreeBlock}
use Rattle.posix_defs.specs.DiskContents.{zeros}
use Rattle.disk_laws.proofs.FreeBlocks.{named_is_for_files, direct_at, behind_at, leads_behind, has_run, has_way, run_needed, same_run}
use Rattle.disk_laws.proofs.OneNode.{named_is_marked}
use Rattle.disk_laws.proofs.Pointing.{unneeded}
use Rattle.blk_map.specs.Growing.{GrowsBut}
use Rattle.blk_map.specs.Named.{FreesNone, IsInHand, MayHaveSize, pointer_to}
use Rattle.blk_map.specs.Pointing.{Repoints, SameBeside, WritesDouble}
use Rattle.blk_map.proofs.Inodes.{pointer_direct, pointer_behind, HasPointersOf, names_in_hand, none_needed}
use Rattle.blk_map.proofs.Counted.{given, pointers_more}
use Rattle.blk_map.proofs.Blocks.{in_table, same_table, free_is_for_files}
use Rattle.blk_map.proofs.Growth.{Growth, grows, front_within, back_within, key_of, keys_same}
use Rattle.blk_map.proofs.Coming.{double_has_none, come_with_run}

pub record Taking : Type 0 where
  pub number : ℕ
  pub before : List (List ℕ)
  pub old : Inode
  pub size : ℕ
  pub taken : List ℕ
  pub run : ℕ
  -- the disk and the inode once the blocks of pointers are named, and the block that has the run
  pub pointed : List (List ℕ)
  pub half : Inode
  pub pointers : ℕ
  -- the map then, and the disk once it was written
  pub map : List ℕ
  pub marked : List (List ℕ)
  -- the pointers in hand, before and after
  pub behind : List ℕ
  pub direct_now : List ℕ
  pub behind_now : List ℕ
  -- the disk once the new blocks are zeros, and at the end
  pub cleared : List (List ℕ)
  pub after : List (List ℕ)
  -- the new blocks from one up to another have any bytes
  pub from : ℕ
  pub to : ℕ
  pub sound : Sound before
  pub had : HasInode before number old
  pub kind : MayHaveSize old.kind size
  pub more : old.size ≤ size
  pub most : data_blocks size ≤ most_blocks
  pub run_is : run ≡ run_of (data_blocks old.size)
  pub in_run : data_blocks size ≤ 10 + 256 * (run + 1)
  pub many : length taken ≡ blocks_of size - blocks_of old.size
  pub free : (k : ℕ) → k < length taken → IsFreeBlock before (get_or taken k 0)
  pub apart : (j k : ℕ) → j < length taken → k < length taken → get_or taken j 0 ≡ get_or taken k 0 → j ≡ k
  pub lowest : (block : ℕ) → IsFreeBlock before block → ((k : ℕ) × (k < length taken) × (get_or taken k 0 ≡ block)) ⊎ ((k : ℕ) → k < length taken → get_or taken k 0 < block)
  pub has : 10 + 256 * run < data_blocks size → pointers ≡ pointer_block pointed half (block_of_run run)
  pub names : Repoints before old size (drop (data_blocks size - data_blocks old.size) taken) pointed half
  pub same : SameBeside old half
  pub pointed_count : length pointed ≡ length before
  pub pointed_others : WritesDouble before size pointed half
  pub map_these : (k : ℕ) → k < length taken → bit_of map (get_or taken k 0) ≡ 1
  pub map_stays : (block : ℕ) → IsMarked before block → bit_of map block ≡ 1
  pub map_only : (block : ℕ) → bit_of map block ≡ 1 → IsMarked before block ⊎ ((k : ℕ) × (k < length taken) × (get_or taken k 0 ≡ block))
  pub map_set : marked ≡ set pointed 0 map
  pub behind_large : HasPointersOf marked pointers (data_blocks old.size) run behind
  pub behind_small : data_blocks old.size ≤ 10 + 256 * run → (k : ℕ) → k < 256 → get_or behind k 0 ≡ 0
  pub names_these : (k : ℕ) → k < data_blocks size - data_blocks old.size → pointer_to direct_now behind_now (data_blocks old.size + k) ≡ get_or taken k 0
  pub names_others : (index : ℕ) → IsInHand run index → (index < data_blocks old.size) ⊎ (data_blocks old.size + (data_blocks size - data_blocks old.size) ≤ index)
      → pointer_to direct_now behind_now index ≡ pointer_to half.direct behind index
  pub ten : length direct_now ≡ 10
  pub cleared_count : length cleared ≡ length marked
  pub cleared_these : (k : ℕ) → k < data_blocks size - data_blocks old.size → (k < from - data_blocks old.size) ⊎ (to - data_blocks old.size ≤ k) → block_bytes cleared (get_or taken k 0) ≡ zeros block_size
  pub cleared_others : (block : ℕ) → ((k : ℕ) → k < data_blocks size - data_blocks old.size → get_or taken k 0 ≢ block) → block_bytes cleared block ≡ block_bytes marked block
  pub after_count : length after ≡ length cleared
  pub after_slot : table_bytes after number ≡ inode_bytes (record { kind = half.kind; nlink = half.nlink; size = size; direct = direct_now; indirect = half.indirect; double = half.double })
  pub after_slots : (node : ℕ) → 0 < node → node ≤ table_nodes (length cleared) → node ≢ number → table_bytes after node ≡ table_bytes cleared node
  pub after_named : 10 + 256 * run < data_blocks size → (k : ℕ) → k < 256 → pointer_at (block_bytes after pointers) k ≡ get_or behind_now k 0
  pub after_others : (block : ℕ) → block ≢ table_block number → (10 + 256 * run < data_blocks size → block ≢ pointers) → block_bytes after block ≡ block_bytes cleared block

abbrev pub now : Taking → Inode
now t = record { kind = t.half.kind; nlink = t.half.nlink; size = t.size; direct = t.direct_now; indirect = t.half.indirect; double = t.half.double }

abbrev had_blocks : Taking → ℕ
had_blocks t = data_blocks t.old.size

abbrev wants_blocks : Taking → ℕ
wants_blocks t = data_blocks t.size

abbrev more_blocks : Taking → ℕ
more_blocks t = wants_blocks t - had_blocks t

-- the node has the block of the run
abbrev HasRun : Taking → Type 0
HasRun t = 10 + 256 * t.run < wants_blocks t

-- the blocks of pointers as they are named at first
abbrev pointer_then : Taking → ℕ → ℕ
pointer_then t p = pointer_block t.pointed t.half p

-- ---- what is for files

taken_files : (t : Taking) (k : ℕ) → k < length t.taken → IsForFiles (length t.before) (get_or t.taken k 0)
taken_files t k lt = free_is_for_files t.before t.sound (get_or t.taken k 0) (t.free k lt)

many_given : (t : Taking) → length t.taken ≡ more_blocks t + (pointer_blocks t.size - pointer_blocks t.old.size)
many_given t = t.many ∙ given t.old.size t.size t.more

data_within : (t : Taking) (k : ℕ) → k < more_blocks t → k < length t.taken
data_within t k lt = front_within (length t.taken) (more_blocks t) (pointer_blocks t.size - pointer_blocks t.old.size) k (many_given t) lt

-- ---- the blocks of pointers

abbrev place_given : Taking → ℕ → ℕ
place_given t p = more_blocks t + (p - pointer_blocks t.old.size)

record IsOld (t : Taking) (p : ℕ) : Type 0 where
  within : HasPlace t.old.size (Pointers p)
  same : pointer_then t p ≡ pointer_block t.before t.old p

record IsGiven (t : Taking) (p : ℕ) : Type 0 where
  past : pointer_blocks t.old.size ≤ p
  within : place_given t p < length t.taken
  same : pointer_then t p ≡ get_or t.taken (place_given t p) 0

where_from : (t : Taking) (p : ℕ) → HasPlace t.size (Pointers p) → IsOld t p ⊎ IsGiven t p
where_from t p lt = elim (cases_lt p (pointer_blocks t.old.size)) [
  | inl old ↦ inl (record { within = old; same = t.names.kept p old lt })
  | inr past ↦
      inr (
      record {
        past = past;
        within = back_within (length t.taken) (more_blocks t) (pointer_blocks t.size - pointer_blocks t.old.size) p (pointer_blocks t.old.size) (pointer_blocks t.size) (many_given t) refl past lt;
        same = t.names.added p past lt ∙ get_or-drop (more_blocks t) t.taken (p - pointer_blocks t.old.size) 0;
      }
      )
]

old_marked : (t : Taking) (p : ℕ) → HasPlace t.old.size (Pointers p) → IsMarked t.before (pointer_block t.before t.old p)
old_marked t p within = named_is_marked t.before t.sound t.number t.old (Pointers p) t.had within

pointers_files : (t : Taking) (p : ℕ) → HasPlace t.size (Pointers p) → IsForFiles (length t.before) (pointer_then t p)
pointers_files t p has = elim (where_from t p has) [
  | inl a ↦ subst (IsForFiles (length t.before)) (sym a.same) (named_is_for_files t.before t.sound t.number t.old (Pointers p) t.had a.within)
  | inr a ↦ subst (IsForFiles (length t.before)) (sym a.same) (taken_files t (place_given t p) a.within)
]

-- what was free isn't what was in use
free_apart : (t : Taking) (k p : ℕ) → k < length t.taken → HasPlace t.old.size (Pointers p) → get_or t.taken k 0 ≢ pointer_block t.before t.old p
free_apart t k p lt has = λ e. (t.free k lt).1 (subst (λ (n : ℕ). IsMarked t.before n) (sym e) (old_marked t p has))

number_in : Place → ℕ
number_in (Data index) = index
number_in (Pointers block) = block

same_number : (p q : ℕ) → Pointers p ≡ Pointers q → p ≡ q
unfolding number_in
same_number p q e = ap (λ (place : Place). number_in place) e

pointers_apart : (t : Taking) (p q : ℕ) → HasPlace t.size (Pointers p) → HasPlace t.size (Pointers q) → pointer_then t p ≡ pointer_then t q → p ≡ q
pointers_apart t p q at_p at_q same = elim (where_from t p at_p) [
  | inl a ↦ elim (where_from t q at_q) [
    | inl b ↦ same_number p q (t.sound.once t.number t.number t.old t.old (Pointers p) (Pointers q) t.had t.had a.within b.within (sym a.same ∙ same ∙ b.same)).1
    | inr b ↦ absurd (free_apart t (place_given t q) p b.within a.within (sym b.same ∙ sym same ∙ a.same))
  ]
  | inr a ↦ elim (where_from t q at_q) [
    | inl b ↦ absurd (free_apart t (place_given t p) q a.within b.within (sym a.same ∙ same ∙ b.same))
    | inr b ↦ keys_same p q (pointer_blocks t.old.size) (more_blocks t) a.past b.past (t.apart (place_given t p) (place_given t q) a.within b.within (sym a.same ∙ same ∙ b.same))
  ]
]

-- a new block of bytes is no block of pointers
data_apart : (t : Taking) (k p : ℕ) → k < more_blocks t → HasPlace t.size (Pointers p) → get_or t.taken k 0 ≢ pointer_then t p
data_apart t k p lt at_p = λ e.
    elim (where_from t p at_p) [
      | inl a ↦ free_apart t k p (data_within t k lt) a.within (e ∙ a.same)
      | inr a ↦ beyond k (more_blocks t) (p - pointer_blocks t.old.size) lt (t.apart k (place_given t p) (data_within t k lt) a.within (e ∙ a.same))
    ]
  where
    beyond : (k n m : ℕ) → k < n → k ≡ n + m → ⊥
    beyond k n m lt e = omega (arith, lt, e)

-- where the run's pointers are
run_block : (t : Taking) → HasRun t → HasPlace t.size (Pointers (block_of_run t.run))
run_block t large = has_run t.size t.run large

-- a node of some more blocks has a block of pointers that it had not only for the run, or as the double block
was_there : (t : Taking) (p : ℕ) → HasPlace t.size (Pointers p) → p ≢ block_of_run t.run → p ≢ 1 → HasPlace t.old.size (Pointers p)
was_there t p has off double = elim (cases_lt p (pointer_blocks t.old.size)) [
  | inl old ↦ old
  | inr past ↦ elim (come_with_run t.run (had_blocks t) (wants_blocks t) p t.run_is (omega (arith, t.more)) t.in_run past has) [ inl is ↦ absurd (off is) | inr is ↦ absurd (double is) ]
]

-- ---- the blocks of the disk

count_marked : (t : Taking) → length t.marked ≡ length t.before
count_marked t = ap length t.map_set ∙ length-set t.pointed 0 t.map ∙ t.pointed_count

count_cleared : (t : Taking) → length t.cleared ≡ length t.before
count_cleared t = t.cleared_count ∙ count_marked t

this_table : (t : Taking) → (0 < table_block t.number) × (table_block t.number ≤ table_end (length t.before))
this_table t = in_table (length t.before) t.number t.had.number.0 t.had.number.1

marked_others : (t : Taking) (block : ℕ) → block ≢ 0 → block_bytes t.marked block ≡ block_bytes t.pointed block
marked_others t block other = ap (λ (disk : List (List ℕ)). block_bytes disk block) t.map_set ∙ get_or-set_other t.pointed 0 block t.map [] other

-- what is no block for files is written as the map and the table alone
pointed_low : (t : Taking) (block : ℕ) → block ≤ table_end (length t.before) → block_bytes t.pointed block ≡ block_bytes t.before block
pointed_low t block low = t.pointed_others block (λ far e. omega (arith, e, low, (pointers_files t 1 (omega (arith, far))).0))

cleared_low : (t : Taking) (block : ℕ) → block ≤ table_end (length t.before) → block_bytes t.cleared block ≡ block_bytes t.marked block
cleared_low t block low = t.cleared_others block (λ k lt e. omega (arith, e, low, (taken_files t k (data_within t k lt)).0))

map_now : (t : Taking) → block_bytes t.after 0 ≡ t.map
map_now t =
    t.after_others 0 (λ e. omega (arith, e, (this_table t).0)) (λ large e. omega (arith, e, t.has large, (pointers_files t (block_of_run t.run) (run_block t large)).0))
    ∙ cleared_low t 0 (omega arith) ∙ ap (λ (disk : List (List ℕ)). block_bytes disk 0) t.map_set ∙ get_or-set_same t.pointed 0 t.map [] (omega (arith, t.sound.size.0, t.pointed_count))

bit_now : (t : Taking) (block : ℕ) → bit_of (block_bytes t.after 0) block ≡ bit_of t.map block
bit_now t block = ap (λ (map : List ℕ). bit_of map block) (map_now t)

stays_there : (t : Taking) (block : ℕ) → table_end (length t.before) < block → ((k : ℕ) → k < more_blocks t → get_or t.taken k 0 ≢ block) → (HasRun t → block ≢ t.pointers) → block_bytes t.after block ≡ block_bytes t.pointed block
stays_there t block above none other =
    t.after_others block (λ e. omega (arith, e, above, (this_table t).1)) other ∙ t.cleared_others block none ∙ marked_others t block (λ e. omega (arith, e, above))

-- a block of pointers that isn't that of the run
pointers_stay : (t : Taking) (p : ℕ) → HasPlace t.size (Pointers p) → p ≢ block_of_run t.run → block_bytes t.after (pointer_then t p) ≡ block_bytes t.pointed (pointer_then t p)
pointers_stay t p has off =
    stays_there t (pointer_then t p) (pointers_files t p has).0 (λ k lt. data_apart t k p lt has) (λ large e. off (pointers_apart t p (block_of_run t.run) has (run_block t large) (e ∙ t.has large)))

pointer_now : (t : Taking) (p : ℕ) → HasPlace t.size (Pointers p) → pointer_block t.after (now t) p ≡ pointer_then t p
pointer_now t zero has = refl
pointer_now t (suc zero) has = refl
pointer_now t (suc (suc block)) has = ap (λ (bytes : List ℕ). pointer_at bytes block) (pointers_stay t 1 (omega (arith, has)) (λ e. double_has_none t.run (sym e)))

-- one that it had, and that isn't the double block
bytes_then : (t : Taking) (p : ℕ) → HasPlace t.size (Pointers p) → HasPlace t.old.size (Pointers p) → p ≢ 1 → block_bytes t.pointed (pointer_then t p) ≡ block_bytes t.before (pointer_block t.before t.old p)
bytes_then t p has was off =
    t.pointed_others (pointer_then t p) (λ far e. off (pointers_apart t p 1 has (omega (arith, far)) e)) ∙ ap (block_bytes t.before) (t.names.kept p was has)

-- ---- the names in hand

hand_now : (t : Taking) → HasPointersOf t.after (pointer_block t.after (now t) (block_of_run t.run)) (wants_blocks t) t.run t.behind_now
hand_now t = λ large k lt.
    sym (t.after_named large k lt) ∙ ap (λ (n : ℕ). pointer_at (block_bytes t.after n) k) (t.has large ∙ sym (pointer_now t (block_of_run t.run) (run_block t large)))

name_now : (t : Taking) (index : ℕ) → index < wants_blocks t → IsInHand t.run index → named_at t.after (now t) (Data index) ≡ pointer_to t.direct_now t.behind_now index
name_now t index lt in_hand = sym (names_in_hand t.after (now t) t.behind_now t.run (wants_blocks t) (hand_now t) index lt in_hand)

-- where the node had the block of the run it has it still
still_large : (t : Taking) → 10 + 256 * t.run < had_blocks t → HasRun t
still_large t was = omega (arith, was, t.more)

run_then : (t : Taking) → 10 + 256 * t.run < had_blocks t → block_bytes t.marked t.pointers ≡ block_bytes t.before (pointer_block t.before t.old (block_of_run t.run))
run_then t was =
    let large : HasRun t = still_large t was in
    let files = pointers_files t (block_of_run t.run) (run_block t large) in
    ap (block_bytes t.marked) (t.has large) ∙ marked_others t (pointer_then t (block_of_run t.run)) (λ e. omega (arith, e, files.0))
    ∙ bytes_then t (block_of_run t.run) (run_block t large) (has_run t.old.size t.run was) (double_has_none t.run)

hand_then : (t : Taking) → HasPointersOf t.before (pointer_block t.before t.old (block_of_run t.run)) (had_blocks t) t.run t.behind
hand_then t = λ was k lt. t.behind_large was k lt ∙ ap (λ (bytes : List ℕ). pointer_at bytes k) (run_then t was)

name_then : (t : Taking) (index : ℕ) → index < had_blocks t → IsInHand t.run index → pointer_to t.half.direct t.behind index ≡ named_at t.before t.old (Data index)
name_then t index lt in_hand =
    ap (λ (direct : List ℕ). pointer_to direct t.behind index) t.same.direct ∙ names_in_hand t.before t.old t.behind t.run (had_blocks t) (hand_then t) index lt in_hand

-- ---- the names

-- one that isn't in hand
name_elsewhere : (t : Taking) (index : ℕ) → index < had_blocks t → 10 ≤ index → run_of index ≢ t.run → named_at t.after (now t) (Data index) ≡ named_at t.before t.old (Data index)
name_elsewhere t index lt past off =
    let p : ℕ = block_of_run (run_of index) in
    let at : ℕ = (index - 10) % 256 in
    let was : HasPlace t.old.size (Pointers p) = has_way t.old.size index past lt in
    let has : HasPlace t.size (Pointers p) = has_way t.size index past (omega (arith, lt, t.more)) in
    let elsewhere : p ≢ block_of_run t.run = λ e. off (same_run (run_of index) t.run e) in
    behind_at t.after (now t) index past ∙ ap (λ (n : ℕ). pointer_at (block_bytes t.after n) at) (pointer_now t p has)
    ∙ ap (λ (bytes : List ℕ). pointer_at bytes at) (pointers_stay t p has elsewhere ∙ bytes_then t p has was (double_has_none (run_of index))) ∙ sym (behind_at t.before t.old index past)

name_in_hand : (t : Taking) (index : ℕ) → index < had_blocks t → IsInHand t.run index → named_at t.after (now t) (Data index) ≡ named_at t.before t.old (Data index)
name_in_hand t index lt in_hand = name_now t index (omega (arith, lt, t.more)) in_hand ∙ t.names_others index in_hand (inl lt) ∙ name_then t index lt in_hand

kept_name : (t : Taking) (place : Place) → HasPlace t.old.size place → named_at t.after (now t) place ≡ named_at t.before t.old place
kept_name t (Data index) lt = elim (cases_lt index 10) [
  | inl first ↦ name_in_hand t index lt (inl first)
  | inr past ↦ elim (cases_eq (run_of index) t.run) [
    | inl here ↦ name_in_hand t index lt (inr here)
    | inr off ↦ name_elsewhere t index lt past off
  ]
]
kept_name t (Pointers p) was =
    let has : HasPlace t.size (Pointers p) = still p (pointer_blocks t.old.size) (pointer_blocks t.size) was (pointers_more t.old.size t.size t.more) in
    pointer_now t p has ∙ t.names.kept p was has
  where
    still : (n m p : ℕ) → n < m → m ≤ p → n < p
    still n m p lt le = omega arith

-- a new block of bytes is in hand
new_in_hand : (t : Taking) (index : ℕ) → had_blocks t ≤ index → index < wants_blocks t → IsInHand t.run index
new_in_hand t index past lt = elim (cases_lt index 10) [
  | inl first ↦ inl first
  | inr behind ↦ inr (here (had_blocks t) (wants_blocks t) index t.run t.run_is t.in_run past lt behind)
]
  where
    here : (n m index run : ℕ) → run ≡ run_of n → m ≤ 10 + 256 * (run + 1) → n ≤ index → index < m → 10 ≤ index → run_of index ≡ run
    here n m index run is within past lt behind = omega (arith, is, within, past, lt, behind)

new_name : (t : Taking) (place : Place) → HasPlace t.size place → ¬ (HasPlace t.old.size place)
    → named_at t.after (now t) place ≡ get_or t.taken (key_of t.old.size t.size place) 0
new_name t (Data index) lt none =
    let past : had_blocks t ≤ index = elim (cases_lt index (had_blocks t)) [ inl is ↦ absurd (none is) | inr le ↦ le ] in
    let at : index ≡ had_blocks t + (index - had_blocks t) = omega (arith, past) in
    name_now t index lt (new_in_hand t index past lt) ∙ ap (pointer_to t.direct_now t.behind_now) at ∙ t.names_these (index - had_blocks t) (omega (arith, past, lt))
new_name t (Pointers p) has none = elim (where_from t p has) [
  | inl a ↦ absurd (none a.within)
  | inr a ↦ pointer_now t p has ∙ a.same
]

-- ---- what isn't needed

old_direct : (t : Taking) (k : ℕ) → wants_blocks t ≤ k → k < 10 → get_or t.old.direct k 0 ≡ 0
old_direct t k past lt = none_needed (length t.before) (get_or t.old.direct k 0) (k * block_size) t.old.size (omega (arith, past, t.more)) (t.had.valid.pointers.direct k lt)

direct_none : (t : Taking) (k : ℕ) → wants_blocks t ≤ k → k < 10 → get_or t.direct_now k 0 ≡ 0
direct_none t k past lt =
    sym (pointer_direct t.direct_now t.behind_now k lt) ∙ t.names_others k (inl lt) (inr (omega (arith, past, t.more))) ∙ pointer_direct t.half.direct t.behind k lt
    ∙ ap (λ (direct : List ℕ). get_or direct k 0) t.same.direct ∙ old_direct t k past lt

-- of the run in hand
hand_none : (t : Taking) (at : ℕ) → at < 256 → wants_blocks t ≤ 10 + 256 * t.run + at → get_or t.behind at 0 ≡ 0
hand_none t at lt past = elim (cases_lt (10 + 256 * t.run) (had_blocks t)) [
  | inl was ↦
      hand_then t was at lt
      ∙ unneeded t.before t.sound t.number t.old (block_of_run t.run) at t.had (has_run t.old.size t.run was) lt (subst (λ (n : ℕ). had_blocks t ≤ n) (sym (leads_behind t.run at)) (omega (arith, past, t.more)))
  | inr few ↦ t.behind_small few at lt
]

run_none : (t : Taking) (at : ℕ) → at < 256 → wants_blocks t ≤ 10 + 256 * t.run + at → get_or t.behind_now at 0 ≡ 0
run_none t at lt past =
    let index : ℕ = 10 + 256 * t.run + at in
    let low : 10 ≤ index = omega arith in
    let here : run_of index ≡ t.run = omega (arith, lt) in
    let there : (index - 10) % 256 ≡ at = omega (arith, lt) in
    ap (λ (n : ℕ). get_or t.behind_now n 0) (sym there) ∙ sym (pointer_behind t.direct_now t.behind_now index low) ∙ t.names_others index (inr here) (inr (omega (arith, past, t.more)))
    ∙ pointer_behind t.half.direct t.behind index low ∙ ap (λ (n : ℕ). get_or t.behind n 0) there ∙ hand_none t at lt past

behind_rest : (t : Taking) (block at : ℕ) → block < pointer_blocks t.size → at < 256 → wants_blocks t ≤ leads_to block at → pointer_at (block_bytes t.after (pointer_block t.after (now t) block)) at ≡ 0
behind_rest t block at has lt past = elim (cases_eq block (block_of_run t.run)) [
  | inl is ↦
      let here : HasPlace t.size (Pointers (block_of_run t.run)) = subst (λ (n : ℕ). HasPlace t.size (Pointers n)) is has in
      let large : HasRun t = run_needed t.size t.run here in
      let far : wants_blocks t ≤ 10 + 256 * t.run + at = subst (λ (n : ℕ). wants_blocks t ≤ n) (leads_behind t.run at) (subst (λ (n : ℕ). wants_blocks t ≤ leads_to n at) is past) in
      ap (λ (n : ℕ). pointer_at (block_bytes t.after (pointer_block t.after (now t) n)) at) is ∙ sym (hand_now t large at lt) ∙ run_none t at lt far
  | inr off ↦
      ap (λ (n : ℕ). pointer_at (block_bytes t.after n) at) (pointer_now t block has) ∙ ap (λ (bytes : List ℕ). pointer_at bytes at) (pointers_stay t block has off)
      ∙ elim (cases_eq block 1) [
        | inl double ↦
            let far : 266 < wants_blocks t = omega (arith, has, double) in
            ap (λ (n : ℕ). pointer_at (block_bytes t.pointed (pointer_then t n)) at) double ∙ t.names.rest at far lt (subst (λ (n : ℕ). wants_blocks t ≤ leads_to n at) double past)
        | inr other ↦
            let was : HasPlace t.old.size (Pointers block) = was_there t block has off other in
            ap (λ (bytes : List ℕ). pointer_at bytes at) (bytes_then t block has was other) ∙ unneeded t.before t.sound t.number t.old block at t.had was lt (omega (arith, past, t.more))
      ]
]

pub growth : Taking → Growth
growth t =
    record {
      number = t.number;
      before = t.before;
      old = t.old;
      size = t.size;
      after = t.after;
      new = now t;
      taken = t.taken;
      sound = t.sound;
      had = t.had;
      kind = t.kind;
      more = t.more;
      most = t.most;
      count = t.after_count ∙ count_cleared t;
      fields = (t.same.kind, t.same.nlink, refl);
      ten = t.ten;
      many = t.many;
      free = t.free;
      apart = t.apart;
      lowest = t.lowest;
      slot = t.after_slot;
      slots = λ node pos within other.
          let at = in_table (length t.before) node pos within in
          t.after_slots node pos (subst (λ (n : ℕ). node ≤ table_nodes n) (sym (count_cleared t)) within) other
          ∙ same_table t.before t.cleared node (cleared_low t (table_block node) at.1 ∙ marked_others t (table_block node) (λ e. omega (arith, e, at.0)) ∙ pointed_low t (table_block node) at.1);
      kept_names = kept_name t;
      new_names = new_name t;
      direct_rest = direct_none t;
      none = t.names.none;
      behind_rest = behind_rest t;
      untouched = λ block above below none other.
          stays_there t block above (λ k lt. none k (data_within t k lt)) (
          λ large e. other (block_of_run t.run) (run_block t large) (pointer_now t (block_of_run t.run) (run_block t large) ∙ sym (t.has large) ∙ sym e)
          )
          ∙ t.pointed_others block (λ far e. other 1 (omega (arith, far)) (sym e));
      from = t.from;
      to = t.to;
      zero = λ k lt off.
          let files = taken_files t k (data_within t k lt) in
          t.after_others (get_or t.taken k 0) (λ e. omega (arith, e, files.0, (this_table t).1)) (λ large e. data_apart t k (block_of_run t.run) lt (run_block t large) (e ∙ t.has large)) ∙ t.cleared_these k lt off;
      marks = λ k lt. bit_now t (get_or t.taken k 0) ∙ t.map_these k lt;
      stays = λ block is. bit_now t block ∙ t.map_stays block is;
      only = λ block is. t.map_only block (sym (bit_now t block) ∙ is);
    }

pub taken_grows : (t : Taking) → GrowsBut t.from t.to t.number t.before t.old t.size t.after (now t)
unfolding growth
taken_grows t = grows (growth t)

-- what was in use is marked in the map that was written
pub taken_frees_none : (t : Taking) → FreesNone t.before t.after
taken_frees_none t block is = bit_now t block ∙ t.map_stays block is

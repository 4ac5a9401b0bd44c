-- The steps by which a node gives blocks up within a run: its blocks of pointers, the names, the map, the run of pointers and the inode.
use Rattle.std.proofs.Common.{◌≡◌, ◌≢◌, ℕ, zero, suc, ◌+◌, ◌-◌, ◌*◌, ◌%◌, ◌<◌, ◌≤◌, ◌⊎◌, inl, inr, List, [], length, get_or, set, refl, sym, ap, subst, ◌∙◌, arith}
use Rattle.std.proofs.lemmas.Bool.{cases_lt, cases_eq}
use Rattle.std.proofs.lemmas.List.{length-set, get_or-set_same, get_or-set_other}
use Rattle.kabi_types.specs.declared.inodes.Inode.{Inode}
use Rattle.posix_defs.specs.DiskFormat.{block_size, table_end, table_nodes, data_blocks, pointer_blocks, leads_to, IsForFiles, inode_bytes, most_blocks}
use Rattle.posix_defs.specs.SoundDisk.{block_bytes, table_block, table_bytes, HasInode, pointer_at, pointer_block, block_of_run, run_of, Place, Data, Pointers, HasPlace, named_at, bit_of, IsMarked, Sound}
use Rattle.posix_defs.specs.NodeChange.{Names, Replaces, Resizes}
use Rattle.disk_laws.proofs.FreeBlocks.{named_is_for_files, direct_at, behind_at, leads_behind, has_run, has_way, run_needed, same_run}
use Rattle.disk_laws.proofs.OneNode.{named_is_marked, this_has, changes_node, free_after}
use Rattle.disk_laws.proofs.Pointing.{pointers_are, unneeded}
use Rattle.blk_map.specs.Named.{IsInHand, MayHaveSize, TakesNone, pointer_to}
use Rattle.blk_map.specs.Pointing.{Repoints, SameBeside, WritesDouble}
use Rattle.blk_map.proofs.Blocks.{in_table, same_table}
use Rattle.blk_map.proofs.Counted.{pointers_more}
use Rattle.blk_map.proofs.Inodes.{pointer_direct, pointer_behind, HasPointersOf, names_in_hand, none_needed, Points, is_inode}
use Rattle.blk_map.proofs.Coming.{double_has_none}

pub record Giving : Type 0 where
  pub number : ℕ
  pub before : List (List ℕ)
  pub old : Inode
  pub size : ℕ
  pub run : ℕ
  -- the block that has the run, and the disk and the inode once the blocks of pointers that go are named no more
  pub pointers : ℕ
  pub pointed : List (List ℕ)
  pub half : Inode
  -- the blocks that are given up
  pub dropped : List ℕ
  pub count : ℕ
  -- the map then, and the disk once it was written
  pub map : List ℕ
  pub cleared : List (List ℕ)
  -- the pointers in hand, before and after
  pub behind : List ℕ
  pub direct_now : List ℕ
  pub behind_now : List ℕ
  pub after : List (List ℕ)
  pub sound : Sound before
  pub had : HasInode before number old
  pub kind : MayHaveSize old.kind size
  pub less : size ≤ old.size
  pub in_run : (index : ℕ) → data_blocks size ≤ index → index < data_blocks old.size → IsInHand run index
  pub has : pointers ≡ pointer_block before old (block_of_run run)
  pub behind_large : HasPointersOf before pointers (data_blocks old.size) run behind
  pub behind_small : data_blocks old.size ≤ 10 + 256 * run → (k : ℕ) → k < 256 → get_or behind k 0 ≡ 0
  pub names : Repoints before old size [] pointed half
  pub same : SameBeside old half
  pub pointed_count : length pointed ≡ length before
  pub pointed_others : WritesDouble before size pointed half
  pub each : (k : ℕ) → k < count → (place : Place) × HasPlace old.size place × ¬ (HasPlace size place) × (get_or dropped k 0 ≡ named_at before old place)
  pub all : (place : Place) → HasPlace old.size place → ¬ (HasPlace size place) → (k : ℕ) × (k < count) × (get_or dropped k 0 ≡ named_at before old place)
  pub map_these : (k : ℕ) → k < count → bit_of map (get_or dropped k 0) ≡ 0
  pub map_others : (block : ℕ) → ((k : ℕ) → k < count → get_or dropped k 0 ≢ block) → bit_of map block ≡ bit_of (block_bytes before 0) block
  pub map_only : (block : ℕ) → bit_of map block ≡ 1 → IsMarked before block
  pub map_set : cleared ≡ set pointed 0 map
  pub names_these : (index : ℕ) → data_blocks size ≤ index → index < data_blocks old.size → pointer_to direct_now behind_now index ≡ 0
  pub names_others : (index : ℕ) → IsInHand run index → (index < data_blocks size) ⊎ (data_blocks old.size ≤ index) → pointer_to direct_now behind_now index ≡ pointer_to half.direct behind index
  pub ten : length direct_now ≡ 10
  pub after_count : length after ≡ length cleared
  pub after_slot : table_bytes after number ≡ inode_bytes (record { kind = half.kind; nlink = half.nlink; size = size; direct = direct_now; indirect = half.indirect; double = half.double })
  pub after_slots : (node : ℕ) → 0 < node → node ≤ table_nodes (length cleared) → node ≢ number → table_bytes after node ≡ table_bytes cleared node
  pub after_named : 10 + 256 * run < data_blocks size → (k : ℕ) → k < 256 → pointer_at (block_bytes after pointers) k ≡ get_or behind_now k 0
  pub after_others : (block : ℕ) → block ≢ table_block number → (10 + 256 * run < data_blocks size → block ≢ pointers) → block_bytes after block ≡ block_bytes cleared block

abbrev pub left : Giving → Inode
left v = record { kind = v.half.kind; nlink = v.half.nlink; size = v.size; direct = v.direct_now; indirect = v.half.indirect; double = v.half.double }

abbrev had_blocks : Giving → ℕ
had_blocks v = data_blocks v.old.size

abbrev left_blocks : Giving → ℕ
left_blocks v = data_blocks v.size

-- the node keeps the block of the run
abbrev HasRun : Giving → Type 0
HasRun v = 10 + 256 * v.run < left_blocks v

most : (v : Giving) → had_blocks v ≤ most_blocks
most v = omega (arith, v.had.valid.kind.size)

was : (v : Giving) (place : Place) → HasPlace v.size place → HasPlace v.old.size place
was v (Data index) lt = omega (arith, lt, v.less)
was v (Pointers block) lt = above block (pointer_blocks v.size) (pointer_blocks v.old.size) lt (pointers_more v.size v.old.size v.less)
  where
    above : (n m p : ℕ) → n < m → m ≤ p → n < p
    above n m p lt le = omega arith

is_or_not : (v : Giving) (place : Place) → HasPlace v.size place ⊎ ¬ (HasPlace v.size place)
is_or_not v (Data index) = elim (cases_lt index (left_blocks v)) [ inl lt ↦ inl lt | inr le ↦ inr (λ lt. omega (arith, lt, le)) ]
is_or_not v (Pointers block) = elim (cases_lt block (pointer_blocks v.size)) [ inl lt ↦ inl lt | inr le ↦ inr (λ lt. never block (pointer_blocks v.size) lt le) ]
  where
    never : (n m : ℕ) → n < m → m ≤ n → ⊥
    never n m lt le = omega (arith, lt, le)

files : (v : Giving) (place : Place) → HasPlace v.old.size place → IsForFiles (length v.before) (named_at v.before v.old place)
files v place within = named_is_for_files v.before v.sound v.number v.old place v.had within

-- what the node names at two places are two blocks
apart : (v : Giving) (i j : Place) → HasPlace v.old.size i → HasPlace v.old.size j → i ≢ j → named_at v.before v.old i ≢ named_at v.before v.old j
apart v i j at_i at_j other = λ same. other (v.sound.once v.number v.number v.old v.old i j v.had v.had at_i at_j same).1

pointers_apart : (p q : ℕ) → p ≢ q → Pointers p ≢ Pointers q
pointers_apart p q other = λ same. other (ap number_in same)
  where
    number_in : Place → ℕ
    number_in (Data index) = index
    number_in (Pointers block) = block

data_apart : (index block : ℕ) → Data index ≢ Pointers block
data_apart index block = λ e. cc

run_block : (v : Giving) → HasRun v → HasPlace v.size (Pointers (block_of_run v.run))
run_block v large = has_run v.size v.run large

-- ---- the blocks of the disk

count_cleared : (v : Giving) → length v.cleared ≡ length v.before
count_cleared v = ap length v.map_set ∙ length-set v.pointed 0 v.map ∙ v.pointed_count

this_table : (v : Giving) → (0 < table_block v.number) × (table_block v.number ≤ table_end (length v.before))
this_table v = in_table (length v.before) v.number v.had.number.0 v.had.number.1

-- the double block that the node keeps is the one that it had
double_is : (v : Giving) → 266 < left_blocks v → v.half.double ≡ v.old.double
double_is v far = let has : HasPlace v.size (Pointers 1) = omega (arith, far) in v.names.kept 1 (was v (Pointers 1) has) has

double_files : (v : Giving) → 266 < left_blocks v → IsForFiles (length v.before) v.half.double
double_files v far = subst (IsForFiles (length v.before)) (sym (double_is v far)) (files v (Pointers 1) (was v (Pointers 1) (omega (arith, far))))

cleared_others : (v : Giving) (block : ℕ) → block ≢ 0 → block_bytes v.cleared block ≡ block_bytes v.pointed block
cleared_others v block other = ap (λ (disk : List (List ℕ)). block_bytes disk block) v.map_set ∙ get_or-set_other v.pointed 0 block v.map [] other

pointed_low : (v : Giving) (block : ℕ) → block ≤ table_end (length v.before) → block_bytes v.pointed block ≡ block_bytes v.before block
pointed_low v block low = v.pointed_others block (λ far e. omega (arith, e, low, (double_files v far).0))

bit_now : (v : Giving) (block : ℕ) → bit_of (block_bytes v.after 0) block ≡ bit_of v.map block
bit_now v block =
    let map : block_bytes v.after 0 ≡ v.map =
    v.after_others 0 (λ e. omega (arith, e, (this_table v).0)) (λ large e. omega (arith, e, v.has, (files v (Pointers (block_of_run v.run)) (was v (Pointers (block_of_run v.run)) (run_block v large))).0))
    ∙ ap (λ (disk : List (List ℕ)). block_bytes disk 0) v.map_set ∙ get_or-set_same v.pointed 0 v.map [] (omega (arith, v.sound.size.0, v.pointed_count)) in
    ap (λ (bytes : List ℕ). bit_of bytes block) map

stays_there : (v : Giving) (block : ℕ) → table_end (length v.before) < block → (HasRun v → block ≢ v.pointers) → block_bytes v.after block ≡ block_bytes v.pointed block
stays_there v block above other = v.after_others block (λ e. omega (arith, e, above, (this_table v).1)) other ∙ cleared_others v block (λ e. omega (arith, e, above))

-- a block of the node that isn't that of the run
stays_named : (v : Giving) (place : Place) → HasPlace v.old.size place → place ≢ Pointers (block_of_run v.run) → block_bytes v.after (named_at v.before v.old place) ≡ block_bytes v.pointed (named_at v.before v.old place)
stays_named v place within off =
    stays_there v (named_at v.before v.old place) (files v place within).0 (
    λ large e. apart v place (Pointers (block_of_run v.run)) within (was v (Pointers (block_of_run v.run)) (run_block v large)) off (e ∙ v.has)
    )

-- one that isn't the double block
bytes_then : (v : Giving) (place : Place) → HasPlace v.old.size place → place ≢ Pointers 1 → block_bytes v.pointed (named_at v.before v.old place) ≡ block_bytes v.before (named_at v.before v.old place)
bytes_then v place within off =
    v.pointed_others (named_at v.before v.old place) (λ far e. apart v place (Pointers 1) within (was v (Pointers 1) (omega (arith, far))) off (e ∙ double_is v far))

-- ---- the names in hand

double_stays : (v : Giving) → 266 < left_blocks v → block_bytes v.after v.half.double ≡ block_bytes v.pointed v.half.double
double_stays v far =
    let here = was v (Pointers 1) (omega (arith, far)) in
    ap (block_bytes v.after) (double_is v far) ∙ stays_named v (Pointers 1) here (pointers_apart 1 (block_of_run v.run) (λ e. double_has_none v.run (sym e))) ∙ ap (block_bytes v.pointed) (sym (double_is v far))

pointer_now : (v : Giving) (p : ℕ) → HasPlace v.size (Pointers p) → pointer_block v.after (left v) p ≡ pointer_block v.before v.old p
pointer_now v zero has = v.names.kept 0 (was v (Pointers 0) has) has
pointer_now v (suc zero) has = v.names.kept 1 (was v (Pointers 1) has) has
pointer_now v (suc (suc block)) has =
    ap (λ (bytes : List ℕ). pointer_at bytes block) (double_stays v (omega (arith, has))) ∙ v.names.kept (suc (suc block)) (was v (Pointers (suc (suc block))) has) has

hand_now : (v : Giving) → HasPointersOf v.after (pointer_block v.after (left v) (block_of_run v.run)) (left_blocks v) v.run v.behind_now
hand_now v = λ large k lt. sym (v.after_named large k lt) ∙ ap (λ (n : ℕ). pointer_at (block_bytes v.after n) k) (v.has ∙ sym (pointer_now v (block_of_run v.run) (run_block v large)))

name_now : (v : Giving) (index : ℕ) → index < left_blocks v → IsInHand v.run index → named_at v.after (left v) (Data index) ≡ pointer_to v.direct_now v.behind_now index
name_now v index lt in_hand = sym (names_in_hand v.after (left v) v.behind_now v.run (left_blocks v) (hand_now v) index lt in_hand)

hand_then : (v : Giving) → HasPointersOf v.before (pointer_block v.before v.old (block_of_run v.run)) (had_blocks v) v.run v.behind
hand_then v = λ large k lt. v.behind_large large k lt ∙ ap (λ (n : ℕ). pointer_at (block_bytes v.before n) k) v.has

name_then : (v : Giving) (index : ℕ) → index < had_blocks v → IsInHand v.run index → pointer_to v.half.direct v.behind index ≡ named_at v.before v.old (Data index)
name_then v index lt in_hand =
    ap (λ (direct : List ℕ). pointer_to direct v.behind index) v.same.direct ∙ names_in_hand v.before v.old v.behind v.run (had_blocks v) (hand_then v) index lt in_hand

-- ---- the names

name_in_hand : (v : Giving) (index : ℕ) → index < left_blocks v → IsInHand v.run index → named_at v.after (left v) (Data index) ≡ named_at v.before v.old (Data index)
name_in_hand v index lt in_hand = name_now v index lt in_hand ∙ v.names_others index in_hand (inl lt) ∙ name_then v index (omega (arith, lt, v.less)) in_hand

name_elsewhere : (v : Giving) (index : ℕ) → index < left_blocks v → 10 ≤ index → run_of index ≢ v.run → named_at v.after (left v) (Data index) ≡ named_at v.before v.old (Data index)
name_elsewhere v index lt past off =
    let p : ℕ = block_of_run (run_of index) in
    let at : ℕ = (index - 10) % 256 in
    let has : HasPlace v.size (Pointers p) = has_way v.size index past lt in
    let had : HasPlace v.old.size (Pointers p) = was v (Pointers p) has in
    behind_at v.after (left v) index past ∙ ap (λ (n : ℕ). pointer_at (block_bytes v.after n) at) (pointer_now v p has)
    ∙ ap (λ (bytes : List ℕ). pointer_at bytes at) (
    stays_named v (Pointers p) had (pointers_apart p (block_of_run v.run) (λ e. off (same_run (run_of index) v.run e))) ∙ bytes_then v (Pointers p) had (pointers_apart p 1 (double_has_none (run_of index)))
    )
    ∙ sym (behind_at v.before v.old index past)

name : (v : Giving) (place : Place) → HasPlace v.size place → named_at v.after (left v) place ≡ named_at v.before v.old place
name v (Data index) lt = elim (cases_lt index 10) [
  | inl first ↦ name_in_hand v index lt (inl first)
  | inr past ↦ elim (cases_eq (run_of index) v.run) [
    | inl here ↦ name_in_hand v index lt (inr here)
    | inr off ↦ name_elsewhere v index lt past off
  ]
]
name v (Pointers block) lt = pointer_now v block lt

-- ---- what isn't needed is 0

none_at : (v : Giving) (index : ℕ) → IsInHand v.run index → left_blocks v ≤ index → (had_blocks v ≤ index → pointer_to v.half.direct v.behind index ≡ 0) → pointer_to v.direct_now v.behind_now index ≡ 0
none_at v index in_hand past old = elim (cases_lt index (had_blocks v)) [
  | inl lt ↦ v.names_these index past lt
  | inr le ↦ v.names_others index in_hand (inr le) ∙ old le
]

direct_none : (v : Giving) (k : ℕ) → k < 10 → left_blocks v ≤ k → get_or v.direct_now k 0 ≡ 0
direct_none v k lt past =
    sym (pointer_direct v.direct_now v.behind_now k lt)
    ∙ none_at v k (inl lt) past (
    λ le.
    pointer_direct v.half.direct v.behind k lt ∙ ap (λ (direct : List ℕ). get_or direct k 0) v.same.direct
    ∙ none_needed (length v.before) (get_or v.old.direct k 0) (k * block_size) v.old.size (omega (arith, le)) (v.had.valid.pointers.direct k lt)
    )

hand_none : (v : Giving) (at : ℕ) → at < 256 → had_blocks v ≤ 10 + 256 * v.run + at → get_or v.behind at 0 ≡ 0
hand_none v at lt past = elim (cases_lt (10 + 256 * v.run) (had_blocks v)) [
  | inl large ↦
      hand_then v large at lt
      ∙ unneeded v.before v.sound v.number v.old (block_of_run v.run) at v.had (has_run v.old.size v.run large) lt (subst (λ (n : ℕ). had_blocks v ≤ n) (sym (leads_behind v.run at)) past)
  | inr few ↦ v.behind_small few at lt
]

run_none : (v : Giving) (at : ℕ) → at < 256 → left_blocks v ≤ 10 + 256 * v.run + at → get_or v.behind_now at 0 ≡ 0
run_none v at lt past =
    let index : ℕ = 10 + 256 * v.run + at in
    let low : 10 ≤ index = omega arith in
    let here : run_of index ≡ v.run = omega (arith, lt) in
    let there : (index - 10) % 256 ≡ at = omega (arith, lt) in
    ap (λ (n : ℕ). get_or v.behind_now n 0) (sym there) ∙ sym (pointer_behind v.direct_now v.behind_now index low)
    ∙ none_at v index (inr here) past (λ le. pointer_behind v.half.direct v.behind index low ∙ ap (λ (n : ℕ). get_or v.behind n 0) there ∙ hand_none v at lt le)

first_run : (at run : ℕ) → at < 256 → run_of (10 + at) ≡ run → 0 ≡ run
first_run at run lt here = omega (arith, lt, here)

further_run : (block at run : ℕ) → at < 256 → run_of (10 + 256 * (block + 1) + at) ≡ run → suc block ≡ run
further_run block at run lt here = omega (arith, lt, here)

behind_none : (v : Giving) (block at : ℕ) → block < pointer_blocks v.size → at < 256 → left_blocks v ≤ leads_to block at → pointer_at (block_bytes v.after (pointer_block v.after (left v) block)) at ≡ 0
behind_none v block at has lt past = elim (cases_eq block (block_of_run v.run)) [
  | inl is ↦
      let here : HasPlace v.size (Pointers (block_of_run v.run)) = subst (λ (n : ℕ). HasPlace v.size (Pointers n)) is has in
      let large : HasRun v = run_needed v.size v.run here in
      let far : left_blocks v ≤ 10 + 256 * v.run + at = subst (λ (n : ℕ). left_blocks v ≤ n) (leads_behind v.run at) (subst (λ (n : ℕ). left_blocks v ≤ leads_to n at) is past) in
      ap (λ (n : ℕ). pointer_at (block_bytes v.after (pointer_block v.after (left v) n)) at) is ∙ sym (hand_now v large at lt) ∙ run_none v at lt far
  | inr off ↦ elim (cases_eq block 1) [
    | inl double ↦
        let far : 266 < left_blocks v = omega (arith, has, double) in
        ap (λ (n : ℕ). pointer_at (block_bytes v.after (pointer_block v.after (left v) n)) at) double ∙ ap (λ (bytes : List ℕ). pointer_at bytes at) (double_stays v far)
        ∙ v.names.rest at far lt (subst (λ (n : ℕ). left_blocks v ≤ leads_to n at) double past)
    | inr other ↦
        let had : HasPlace v.old.size (Pointers block) = was v (Pointers block) has in
        let kept : had_blocks v ≤ leads_to block at = elsewhere v block at had lt off other past in
        ap (λ (n : ℕ). pointer_at (block_bytes v.after n) at) (pointer_now v block has)
        ∙ ap (λ (bytes : List ℕ). pointer_at bytes at) (stays_named v (Pointers block) had (pointers_apart block (block_of_run v.run) off) ∙ bytes_then v (Pointers block) had (pointers_apart block 1 other))
        ∙ unneeded v.before v.sound v.number v.old block at v.had had lt kept
  ]
]
  where
    -- a block of bytes that went was in hand, so a pointer of another run leads to none that went
    elsewhere : (v : Giving) (block at : ℕ) → HasPlace v.old.size (Pointers block) → at < 256 → block ≢ block_of_run v.run → block ≢ 1 → left_blocks v ≤ leads_to block at → had_blocks v ≤ leads_to block at
    elsewhere v zero at had lt off other past = elim (cases_lt (10 + at) (had_blocks v)) [
      | inl gone ↦ elim (v.in_run (10 + at) past gone) [
        | inl first ↦ absurd (omega (arith, first))
        | inr here ↦ absurd (off (ap block_of_run (first_run at v.run lt here)))
      ]
      | inr le ↦ le
    ]
    elsewhere v (suc zero) at had lt off other past = absurd (other refl)
    elsewhere v (suc (suc block)) at had lt off other past = elim (cases_lt (10 + 256 * (block + 1) + at) (had_blocks v)) [
      | inl gone ↦ elim (v.in_run (10 + 256 * (block + 1) + at) past gone) [
        | inl first ↦ absurd (omega (arith, first))
        | inr here ↦ absurd (off (ap block_of_run (further_run block at v.run lt here)))
      ]
      | inr le ↦ le
    ]

points : (v : Giving) → Points (length v.before) v.size (left v)
points v =
    record {
      ten = v.ten;
      direct = λ k lt within.
          subst (IsForFiles (length v.before)) (sym (name v (Data k) within) ∙ direct_at v.after (left v) k lt) (files v (Data k) (omega (arith, within, v.less)));
      none = direct_none v;
      pointers = λ large. subst (IsForFiles (length v.before)) (sym (pointer_now v 0 (omega (arith, large)))) (files v (Pointers 0) (was v (Pointers 0) (omega (arith, large))));
      no_pointers = v.names.none.0;
      double = double_files v;
      no_double = v.names.none.1;
    }

files_now : (v : Giving) (place : Place) → HasPlace v.size place → IsForFiles (length v.before) (named_at v.after (left v) place)
files_now v place within = subst (IsForFiles (length v.before)) (sym (name v place within)) (files v place (was v place within))

-- ---- the map

marked_then : (v : Giving) (place : Place) → HasPlace v.old.size place → IsMarked v.before (named_at v.before v.old place)
marked_then v place within = named_is_marked v.before v.sound v.number v.old place v.had within

still_marked : (v : Giving) (place : Place) → HasPlace v.size place → IsMarked v.after (named_at v.before v.old place)
still_marked v place within =
    let not_dropped : (k : ℕ) → k < v.count → get_or v.dropped k 0 ≢ named_at v.before v.old place = λ k lt e.
    let at = v.each k lt in
    let same : at.0 ≡ place = (v.sound.once v.number v.number v.old v.old at.0 place v.had v.had at.1 (was v place within) (sym at.3 ∙ e)).1 in
    at.2 (subst (λ (p : Place). HasPlace v.size p) (sym same) within)
    in
    bit_now v (named_at v.before v.old place) ∙ v.map_others (named_at v.before v.old place) not_dropped ∙ marked_then v place (was v place within)

-- a block in use that the node named is one that it names still
names_still : (v : Giving) (block : ℕ) → IsMarked v.after block → Names v.before v.old block → Names v.after (left v) block
names_still v block marked names = elim (is_or_not v names.place) [
  | inl within ↦ record { place = names.place; within = within; same = names.same ∙ sym (name v names.place within) }
  | inr gone ↦
      let at = v.all names.place names.within gone in
      let none : bit_of v.map block ≡ 0 = ap (bit_of v.map) (names.same ∙ sym at.2) ∙ v.map_these at.0 at.1 in
      absurd (omega (arith, none, bit_now v block, marked))
]

replaces : (v : Giving) → Replaces v.number v.before v.old v.after (left v)
replaces v =
    record {
      count = v.after_count ∙ count_cleared v;
      had = v.had;
      inode = is_inode (length v.before) v.size v.old (left v) v.sound.size.1 v.had.valid v.kind (omega (arith, v.less, most v)) (v.same.kind, v.same.nlink, refl) (points v);
      slot = v.after_slot;
      slots = λ node pos within other.
          let at = in_table (length v.before) node pos within in
          v.after_slots node pos (subst (λ (n : ℕ). node ≤ table_nodes n) (sym (count_cleared v)) within) other
          ∙ same_table v.before v.cleared node (cleared_others v (table_block node) (λ e. omega (arith, e, at.0)) ∙ pointed_low v (table_block node) at.1);
      pointers = pointers_are (length v.before) v.after (left v) (files_now v) (behind_none v);
      once = λ i j at_i at_j same.
          (v.sound.once v.number v.number v.old v.old i j v.had v.had (was v i at_i) (was v j at_j) (sym (name v i at_i) ∙ same ∙ name v j at_j)).1;
      taken = λ place within. inl (record { place = place; within = was v place within; same = name v place within });
      untouched = λ block above below marked none.
          stays_there v block above (λ large e. none (record { place = Pointers (block_of_run v.run); within = was v (Pointers (block_of_run v.run)) (run_block v large); same = e ∙ v.has }))
          ∙ v.pointed_others block (λ far e. none (record { place = Pointers 1; within = was v (Pointers 1) (omega (arith, far)); same = e ∙ double_is v far }));
      marked = λ block lt marked. inr (v.map_only block (sym (bit_now v block) ∙ marked));
      freed = λ block lt marked names. names_still v block marked names;
      stays = λ block lt marked none.
          bit_now v block
          ∙ v.map_others block (λ k lt e. let at = v.each k lt in none (record { place = at.0; within = at.1; same = sym e ∙ at.3 }))
          ∙ marked;
      takes = λ place within. subst (λ (n : ℕ). IsMarked v.after n) (sym (name v place within)) (still_marked v place within);
      rest = λ block past lt marked. v.sound.rest block past lt (v.map_only block (sym (bit_now v block) ∙ marked));
    }

pub gives : (v : Giving) → Resizes v.number v.before v.old v.size v.after (left v)
gives v =
    let change = replaces v in
    record {
      has = this_has v.number v.before v.old v.after (left v) change;
      fields = (v.same.kind, v.same.nlink, refl);
      changes = changes_node v.number v.before v.old v.after (left v) v.sound change;
      kept = λ index lt also. (
        name v (Data index) also,
        stays_named v (Data index) lt (data_apart index (block_of_run v.run)) ∙ bytes_then v (Data index) lt (data_apart index 1),
      );
      free = free_after v.number v.before v.old v.after (left v) v.sound change;
    }

-- what is marked in the map that was written was in use
pub gives_take_none : (v : Giving) → TakesNone v.before v.after
gives_take_none v block is = v.map_only block (sym (bit_now v block) ∙ is)

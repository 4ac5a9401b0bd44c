-- A formatted disk is sound, and its root is an empty directory.
use Rattle.std.proofs.Common.{◌≡◌, ◌≢◌, ℕ, zero, suc, ◌+◌, ◌-◌, ◌*◌, ◌/◌, ◌%◌, ◌^◌, ◌<◌, ◌≤◌, min, Bool, ltb, ◌⊎◌, inl, inr, List, [], ◌∷◌, ◌++◌, length, get_or, take, drop, replicate, refl, sym, ap, subst, ◌∙◌, arith}
use Rattle.std.specs.Int.{bit_at}
use Rattle.std.specs.List.{flat_map}
use Rattle.std.proofs.lemmas.Bool.{cases_lt, cases_eq, le-ltb}
use Rattle.std.proofs.lemmas.List.{take_at, drop_at, drop-drop, take-replicate, drop-replicate, get_or-replicate, get_or_past, get_or_append_left, append-nil, length-replicate}
use Rattle.std.proofs.lemmas.List.FromFn.{fill_by_all}
use Rattle.std.proofs.lemmas.Nat.Bits.{bit_at_ones, bit_at_ones_above}
use Rattle.kabi_types.specs.declared.inodes.Inode.{Inode}
use Rattle.posix_defs.specs.DiskFormat.{block_size, table_end, table_nodes, IsPointer, IsInode, IsEntry, inode_bytes, entry_bytes}
use Rattle.posix_defs.specs.SoundDisk.{block_bytes, table_bytes, HasInode, Place, Data, Pointers, HasPlace, named_at, IsNamed, map_bit, IsMarked, Sound}
use Rattle.posix_defs.specs.DiskContents.{blank_inode, data_block, byte_at, node_bytes, IsDirectoryOf, entry_for, own_name, parent_name, zeros, first_marked, new_root, new_entries, IsFormatted}
use Rattle.disk_laws.proofs.DiskSpelling.{same_inode, length-inode_bytes}

-- ---- the map

marked : (used place bit number : ℕ) → bit < 8 → number ≡ 8 * place + bit → number < used → bit_at (first_marked used place) bit ≡ 1
marked used place bit number small is lt = bit_at_ones (min 8 (used - 8 * place)) bit (omega arith)

unmarked : (used place bit number : ℕ) → bit < 8 → number ≡ 8 * place + bit → used ≤ number → bit_at (first_marked used place) bit ≡ 0
unmarked used place bit number small is le = bit_at_ones_above (min 8 (used - 8 * place)) bit (omega arith)

-- a formatted disk has marked the first blocks
bit_of : (disk : List (List ℕ)) → IsFormatted (length disk) disk → (number : ℕ) → number < 8 * block_size
    → map_bit disk number ≡ bit_at (first_marked (table_end (length disk) + 2) (number / 8)) (number % 8)
bit_of disk formatted number lt = ap (λ (byte : ℕ). bit_at byte (number % 8)) (formatted.map (number / 8) (omega arith))

is_marked : (disk : List (List ℕ)) → IsFormatted (length disk) disk → (number : ℕ) → number < 8 * block_size → number < table_end (length disk) + 2 → IsMarked disk number
is_marked disk formatted number lt used = bit_of disk formatted number lt ∙ marked (table_end (length disk) + 2) (number / 8) (number % 8) number (omega arith) (omega arith) used

is_unmarked : (disk : List (List ℕ)) → IsFormatted (length disk) disk → (number : ℕ) → number < 8 * block_size → table_end (length disk) + 2 ≤ number → ¬ (IsMarked disk number)
is_unmarked disk formatted number lt past = λ (is : IsMarked disk number).
    let none : map_bit disk number ≡ 0 = bit_of disk formatted number lt ∙ unmarked (table_end (length disk) + 2) (number / 8) (number % 8) number (omega arith) (omega arith) past in
    omega (arith, is, none)

-- ---- the table

-- an inode that is free
pub no_inode : Inode
no_inode = blank_inode

free_bytes : inode_bytes no_inode ≡ replicate 64 0
unfolding inode_bytes no_inode
free_bytes = refl

zero_at : (n k : ℕ) → ◌≡◌ {A = ℕ} (get_or (replicate n 0) k 0) 0
zero_at n k = elim (cases_lt k n) [
  | inl lt ↦ get_or-replicate n k 0 0 lt
  | inr past ↦ get_or_past (replicate n 0) k 0 (omega (arith, past, length-replicate {A = ℕ} n 0))
]

no_inode_is : (blocks : ℕ) → IsInode blocks no_inode
unfolding no_inode
no_inode_is blocks =
    record {
      fits = record {
        kind = omega arith;
        nlink = omega arith;
        size = omega arith;
        count = refl;
        direct = λ k. omega (arith, zero_at 10 k);
        indirect = omega arith;
        double = omega arith;
      };
      kind = record { kind = omega arith; links = omega arith; size = omega arith; free = λ _. (refl, refl); entries = λ _. refl; name = λ _. refl; fifo = λ _. refl };
      pointers = record {
        direct = λ k lt. subst (λ (needed : Bool). IsPointer blocks needed (get_or (replicate 10 0) k 0)) (sym (le-ltb (k * block_size) 0 (omega arith))) (zero_at 10 k);
        indirect = refl;
        double = refl;
      };
    }

root_pointer : (blocks k : ℕ) → 16 ≤ blocks → IsPointer blocks (ltb (k * block_size) 64) (get_or (new_root blocks).direct k 0)
root_pointer blocks zero enough = (omega arith, omega arith)
root_pointer blocks (suc k) enough = subst (λ (needed : Bool). IsPointer blocks needed (get_or (replicate 9 0) k 0)) (sym (le-ltb (suc k * block_size) 64 (omega arith))) (zero_at 9 k)

root_fits : (blocks k : ℕ) → blocks ≤ 4096 → get_or (new_root blocks).direct k 0 < 2 ^ 32
root_fits blocks zero most = omega arith
root_fits blocks (suc k) most = omega (arith, zero_at 9 k)

new_root_is : (blocks : ℕ) → 16 ≤ blocks → blocks ≤ 4096 → IsInode blocks (new_root blocks)
new_root_is blocks enough most =
    record {
      fits = record {
        kind = omega arith;
        nlink = omega arith;
        size = omega arith;
        count = refl;
        direct = λ k. root_fits blocks k most;
        indirect = omega arith;
        double = omega arith;
      };
      kind = record { kind = omega arith; links = omega arith; size = omega arith; free = λ e. absurd (omega (arith, e)); entries = λ _. refl; name = λ e. absurd (omega (arith, e)); fifo = λ e. absurd (omega (arith, e)) };
      pointers = record { direct = λ k lt. root_pointer blocks k enough; indirect = refl; double = refl };
    }

-- zeros are cut from zeros
cut_zeros : (from n : ℕ) → from + 64 ≤ n → take 64 (drop from (zeros n)) ≡ replicate 64 0
unfolding zeros
cut_zeros from n le = ap (take 64) (drop-replicate from n 0) ∙ take-replicate 64 (n - from) 0 (omega arith)

-- the table has the root
root_bytes : (disk : List (List ℕ)) → IsFormatted (length disk) disk → IsInode (length disk) (new_root (length disk)) → table_bytes disk 1 ≡ inode_bytes (new_root (length disk))
unfolding table_bytes
root_bytes disk formatted is =
    let root : List ℕ = inode_bytes (new_root (length disk)) in
    ap (take 64) formatted.table ∙ take_at root (zeros (1024 - 64)) 64 (length-inode_bytes (new_root (length disk)) is.fits)

-- behind the root, the block of the root has zeros
first_zeros : (disk : List (List ℕ)) → IsFormatted (length disk) disk → IsInode (length disk) (new_root (length disk)) → (place : ℕ) → 0 < place → place < 16
    → take 64 (drop (64 * place) (block_bytes disk 1)) ≡ replicate 64 0
first_zeros disk formatted is place pos lt =
    let root : List ℕ = inode_bytes (new_root (length disk)) in
    let from : ℕ = 64 * place - 64 in
    let at : 64 * place ≡ 64 + from = omega arith in
    let behind : drop 64 (block_bytes disk 1) ≡ zeros 960 = ap (drop 64) formatted.table ∙ drop_at root (zeros 960) 64 (length-inode_bytes (new_root (length disk)) is.fits) in
    ap (λ (n : ℕ). take 64 (drop n (block_bytes disk 1))) at ∙ ap (take 64) (sym (drop-drop from 64 (block_bytes disk 1)) ∙ ap (drop from) behind) ∙ cut_zeros from 960 (omega arith)

-- the other blocks of the table have zeros
other_zeros : (disk : List (List ℕ)) → IsFormatted (length disk) disk → (block place : ℕ) → 1 < block → block ≤ table_end (length disk) → place < 16
    → take 64 (drop (64 * place) (block_bytes disk block)) ≡ replicate 64 0
other_zeros disk formatted block place above within lt =
    ap (λ (bytes : List ℕ). take 64 (drop (64 * place) bytes)) (formatted.others block above (λ e. omega (arith, e, within)) (omega arith)) ∙ cut_zeros (64 * place) 1024 (omega arith)

free_in_table : (disk : List (List ℕ)) → IsFormatted (length disk) disk → IsInode (length disk) (new_root (length disk)) → (node : ℕ) → 1 < node → node ≤ table_nodes (length disk)
    → table_bytes disk node ≡ replicate 64 0
unfolding table_bytes
free_in_table disk formatted is node above within =
    let block : ℕ = (node - 1) / 16 in
    let place : ℕ = (node - 1) % 16 in
    elim (cases_eq block 0) [
      | inl first ↦ ap (λ (n : ℕ). take 64 (drop (64 * place) (block_bytes disk (1 + n)))) first ∙ first_zeros disk formatted is place (omega arith) (omega arith)
      | inr other ↦ other_zeros disk formatted (1 + block) place (omega (arith, other)) (omega (arith, within)) (omega arith)
    ]

-- a node of the new disk is the root, or free
pub new_node : (disk : List (List ℕ)) → IsFormatted (length disk) disk → 16 ≤ length disk → length disk ≤ 4096 → (node : ℕ) → 0 < node → node ≤ table_nodes (length disk)
    → ((node ≡ 1) × HasInode disk node (new_root (length disk))) ⊎ HasInode disk node no_inode
new_node disk formatted enough most node pos within =
    let is = new_root_is (length disk) enough most in
    elim (cases_eq node 1) [
      | inl e ↦ inl (e, record { number = (pos, within); valid = is; bytes = ap (table_bytes disk) e ∙ root_bytes disk formatted is })
      | inr other ↦ inr (record { number = (pos, within); valid = no_inode_is (length disk); bytes = free_in_table disk formatted is node (omega (arith, other)) within ∙ sym free_bytes })
    ]

pub one_inode : (disk : List (List ℕ)) (node : ℕ) (i j : Inode) → HasInode disk node i → HasInode disk node j → i ≡ j
one_inode disk node i j has also = same_inode i j has.valid.fits also.valid.fits (sym has.bytes ∙ also.bytes)

which : (disk : List (List ℕ)) → IsFormatted (length disk) disk → 16 ≤ length disk → length disk ≤ 4096 → (node : ℕ) (inode : Inode) → HasInode disk node inode
    → ((node ≡ 1) × (inode ≡ new_root (length disk))) ⊎ (inode ≡ no_inode)
which disk formatted enough most node inode has =
    elim (new_node disk formatted enough most node has.number.0 has.number.1) [
      | inl root ↦ inl (root.0, one_inode disk node inode (new_root (length disk)) has root.1)
      | inr free ↦ inr (one_inode disk node inode no_inode has free)
    ]

-- a node of 64 bytes takes one block, and an empty one takes none
only_first : (place : Place) → HasPlace 64 place → place ≡ Data 0
only_first (Data index) lt = let first : index ≡ 0 = omega (arith, lt) in ap Data first
only_first (Pointers block) lt = absurd (omega (arith, lt))

takes_none : (place : Place) → ¬ (HasPlace 0 place)
takes_none (Data index) lt = omega (arith, lt)
takes_none (Pointers block) lt = omega (arith, lt)

-- who names a block is the root, and names one
names_one : (disk : List (List ℕ)) → IsFormatted (length disk) disk → 16 ≤ length disk → length disk ≤ 4096 → (node : ℕ) (inode : Inode) (place : Place) → HasInode disk node inode → HasPlace inode.size place
    → (node ≡ 1) × (place ≡ Data 0) × (named_at disk inode place ≡ table_end (length disk) + 1)
unfolding no_inode
names_one disk formatted enough most node inode place has lt =
    elim (which disk formatted enough most node inode has) [
      | inl root ↦
          let first : place ≡ Data 0 = only_first place (subst (λ (i : Inode). HasPlace i.size place) root.1 lt) in
          let named : named_at disk inode place ≡ table_end (length disk) + 1 = ap (λ (i : Inode). named_at disk i place) root.1 ∙ ap (named_at disk (new_root (length disk))) first in
          (root.0, first, named)
      | inr free ↦ absurd (takes_none place (subst (λ (i : Inode). HasPlace i.size place) free lt))
    ]

small : (disk : List (List ℕ)) → IsFormatted (length disk) disk → 16 ≤ length disk → length disk ≤ 4096 → (node : ℕ) (inode : Inode) → HasInode disk node inode → inode.size ≤ 64
unfolding no_inode
small disk formatted enough most node inode has =
    elim (which disk formatted enough most node inode has) [
      | inl root ↦ subst (λ (i : Inode). i.size ≤ 64) (sym root.1) (omega arith)
      | inr free ↦ subst (λ (i : Inode). i.size ≤ 64) (sym free) (omega arith)
    ]

root_has : (disk : List (List ℕ)) → IsFormatted (length disk) disk → 16 ≤ length disk → length disk ≤ 4096 → HasInode disk 1 (new_root (length disk))
root_has disk formatted enough most =
    let is = new_root_is (length disk) enough most in
    record { number = (omega arith, omega arith); valid = is; bytes = root_bytes disk formatted is }

in_use : (disk : List (List ℕ)) → IsFormatted (length disk) disk → 16 ≤ length disk → length disk ≤ 4096 → (number : ℕ) → number < table_end (length disk) + 2 → (number ≤ table_end (length disk)) ⊎ IsNamed disk number
in_use disk formatted enough most number lt =
    elim (cases_eq number (table_end (length disk) + 1)) [
      | inl last ↦ inr (record { node = 1; inode = new_root (length disk); place = Data 0; has = root_has disk formatted enough most; within = omega arith; same = last })
      | inr other ↦ inl (omega (arith, other))
    ]

formatted_is_sound : (disk : List (List ℕ)) → IsFormatted (length disk) disk → 16 ≤ length disk → length disk ≤ 4096 → Sound disk
formatted_is_sound disk formatted enough most =
    record {
      size = (enough, most);
      table = λ node pos within.
          elim (new_node disk formatted enough most node pos within) [
            | inl root ↦ (new_root (length disk), root.1)
            | inr free ↦ (no_inode, free)
          ];
      pointers = λ node inode block at has large lt. absurd (omega (arith, large, small disk formatted enough most node inode has));
      once = λ first second one other i j has also at_i at_j same.
          let a = names_one disk formatted enough most first one i has at_i in
          let b = names_one disk formatted enough most second other j also at_j in
          (a.0 ∙ sym b.0, a.1 ∙ sym b.1);
      map = λ number lt. (
        λ (is : IsMarked disk number).
            elim (cases_lt number (table_end (length disk) + 2)) [
              | inl used ↦ in_use disk formatted enough most number used
              | inr past ↦ absurd (is_unmarked disk formatted number (omega (arith, lt, most)) past is)
            ],
        λ (used : (number ≤ table_end (length disk)) ⊎ IsNamed disk number).
            elim used [
              | inl first ↦ is_marked disk formatted number (omega (arith, lt, most)) (omega (arith, first))
              | inr named ↦
                  let at = names_one disk formatted enough most named.node named.inode named.place named.has named.within in
                  is_marked disk formatted number (omega (arith, lt, most)) (omega (arith, named.same ∙ at.2))
            ],
      );
      rest = λ number past lt. is_unmarked disk formatted number lt (omega (arith, past, enough));
    }

-- ---- the root

length-new_entries : length new_entries ≡ 64
unfolding entry_bytes
length-new_entries = refl

dots_are : (n k : ℕ) → k < n → ◌≢◌ {A = ℕ} (get_or (replicate n 46) k 0) 0 × ◌≢◌ {A = ℕ} (get_or (replicate n 46) k 0) 47
dots_are n k lt =
    let dot : ◌≡◌ {A = ℕ} (get_or (replicate n 46) k 0) 46 = get_or-replicate n k 46 0 lt in
    (λ e. omega (arith, dot, e), λ e. omega (arith, dot, e))

dots_fit : (n k : ℕ) → get_or (replicate n 46) k 0 < 2 ^ 8
dots_fit n k = elim (cases_lt k n) [
  | inl lt ↦ let dot : ◌≡◌ {A = ℕ} (get_or (replicate n 46) k 0) 46 = get_or-replicate n k 46 0 lt in omega (arith, dot)
  | inr past ↦ let none : ◌≡◌ {A = ℕ} (get_or (replicate n 46) k 0) 0 = get_or_past (replicate n 46) k 0 (omega (arith, past, length-replicate {A = ℕ} n 46)) in omega (arith, none)
]

own_is : IsEntry (entry_for 1 own_name)
own_is = record { node = (omega arith, omega arith); name = record { len = (omega arith, omega arith); fits = λ k. dots_fit 1 k; chars = λ k lt. dots_are 1 k lt } }

parent_is : IsEntry (entry_for 1 parent_name)
parent_is = record { node = (omega arith, omega arith); name = record { len = (omega arith, omega arith); fits = λ k. dots_fit 2 k; chars = λ k lt. dots_are 2 k lt } }

root_byte : (disk : List (List ℕ)) → IsFormatted (length disk) disk → (place : ℕ) → place < 64 → get_or new_entries place 0 ≡ byte_at disk (new_root (length disk)) place
root_byte disk formatted place lt =
    let root : Inode = new_root (length disk) in
    let block : place / 1024 ≡ 0 = omega arith in
    let at : place % 1024 ≡ place = omega arith in
    let first : data_block disk root (place / 1024) ≡ table_end (length disk) + 1 = ap (data_block disk root) block in
    let front : get_or (new_entries ++ zeros (1024 - 64)) place 0 ≡ get_or new_entries place 0 = get_or_append_left new_entries (zeros (1024 - 64)) 0 place (omega (arith, length-new_entries)) in
    let byte : byte_at disk root place ≡ get_or new_entries place 0 =
    ap (λ (n : ℕ). get_or (block_bytes disk n) (place % 1024) 0) first ∙ ap (λ (bytes : List ℕ). get_or bytes (place % 1024) 0) formatted.entries ∙ ap (λ (n : ℕ). get_or (new_entries ++ zeros (1024 - 64)) n 0) at ∙ front in
    sym byte

root_holds : (disk : List (List ℕ)) → IsFormatted (length disk) disk → node_bytes disk (new_root (length disk)) ≡ flat_map entry_bytes (entry_for 1 own_name ∷ entry_for 1 parent_name ∷ [])
unfolding node_bytes
root_holds disk formatted =
    let all = fill_by_all (λ (place : ℕ). byte_at disk (new_root (length disk)) place) new_entries 64 0 length-new_entries (λ place lt. root_byte disk formatted place lt) in
    sym all ∙ ap (λ (bytes : List ℕ). entry_bytes (entry_for 1 own_name) ++ bytes) (sym (append-nil (entry_bytes (entry_for 1 parent_name))))

formatted_root_is_empty : (disk : List (List ℕ)) → IsFormatted (length disk) disk → 16 ≤ length disk → length disk ≤ 4096 → IsDirectoryOf disk 1 1 []
formatted_root_is_empty disk formatted enough most =
    record {
      inode = new_root (length disk);
      has = root_has disk formatted enough most;
      list = record { kind = refl; each = (own_is, (parent_is, tt)); bytes = root_holds disk formatted };
    }

-- the same of a disk of so many blocks
pub new_is_sound : (blocks : ℕ) (disk : List (List ℕ)) → 16 ≤ blocks → blocks ≤ 4096 → IsFormatted blocks disk → Sound disk
new_is_sound blocks disk enough most formatted =
    let same : blocks ≡ length disk = sym formatted.count in
    formatted_is_sound disk (subst (λ (n : ℕ). IsFormatted n disk) same formatted) (subst (λ (n : ℕ). 16 ≤ n) same enough) (subst (λ (n : ℕ). n ≤ 4096) same most)

pub new_root_is_empty : (blocks : ℕ) (disk : List (List ℕ)) → 16 ≤ blocks → blocks ≤ 4096 → IsFormatted blocks disk → IsDirectoryOf disk 1 1 []
new_root_is_empty blocks disk enough most formatted =
    let same : blocks ≡ length disk = sym formatted.count in
    formatted_root_is_empty disk (subst (λ (n : ℕ). IsFormatted n disk) same formatted) (subst (λ (n : ℕ). 16 ≤ n) same enough) (subst (λ (n : ℕ). n ≤ 4096) same most)

-- an inode that is free is of no kind
pub no_kind : no_inode.kind ≡ 0
unfolding no_inode
no_kind = refl

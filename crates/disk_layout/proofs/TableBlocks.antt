-- Blocks of the table that have no free node.
use Rattle.std.proofs.Common.{◌≡◌, ◌≢◌, ℕ, ◌+◌, ◌-◌, ◌*◌, ◌/◌, ◌%◌, ◌<◌, List, [], length, get_or, set, take, drop, ◌++◌, replicate, refl, sym, ap, subst, ◌∙◌, inl, inr, arith}
use Rattle.std.specs.Int.{bit_at}
use Rattle.std.proofs.lemmas.Bool.{cases_eq, cases_lt}
use Rattle.std.proofs.lemmas.Nat.Bits.{bit_at-zero}
use Rattle.std.proofs.lemmas.List.{get_or-take, get_or-drop, get_or-replicate, get_or-set_same, get_or-set_other, get_or_append_left, get_or_past, length-set, length-replicate}
use Rattle.kabi_types.specs.declared.inodes.Inode.{Inode}
use Rattle.posix_defs.specs.DiskFormat.{inode_bytes, table_end}
use Rattle.posix_defs.specs.SoundDisk.{bit_of, block_bytes, table_block, table_slot, table_bytes, HasInode}
use Rattle.disk_layout.specs.Vacant.{kind_in, HasNoneFree, NoneFreeIn, IsNoted}

first_byte : (inode : Inode) → get_or (inode_bytes inode) 0 0 ≡ inode.kind
unfolding inode_bytes
first_byte inode = refl

-- the first byte of a node's slot is the kind of its inode
pub kind_there : (disk : List (List ℕ)) (number : ℕ) (inode : Inode) → HasInode disk number inode → kind_in (block_bytes disk (table_block number)) (table_slot number) ≡ inode.kind
unfolding table_bytes
kind_there disk number inode has =
    let block : List ℕ = block_bytes disk (table_block number) in
    let at : ℕ = 64 * table_slot number in
    let place : at + 0 ≡ at = omega arith in
    let one : get_or (take 64 (drop at block)) 0 0 ≡ get_or block at 0 = get_or-take 64 (drop at block) 0 0 (omega arith) ∙ get_or-drop at block 0 0 ∙ ap (λ (n : ℕ). get_or block n 0) place in
    sym one ∙ ap (λ (bytes : List ℕ). get_or bytes 0 0) has.bytes ∙ first_byte inode

no_bit : (n index : ℕ) → bit_of (replicate n 0) index ≡ 0
no_bit n index =
    let byte : get_or (replicate n 0) (index / 8) 0 ≡ 0 = elim (cases_lt (index / 8) n) [
      | inl within ↦ get_or-replicate n (index / 8) 0 0 within
      | inr past ↦ get_or_past (replicate n 0) (index / 8) 0 (omega (arith, past, length-replicate {A = ℕ} n 0))
    ] in
    ap (λ (b : ℕ). bit_at b (index % 8)) byte ∙ bit_at-zero (index % 8)

-- nothing is noted of a new disk
pub noted_none : (n : ℕ) (front behind : List (List ℕ)) → length front ≡ table_end (length front + length behind) + 1 → IsNoted (replicate n 0) front behind
noted_none n front behind count = record {
  count = count;
  none = λ index is. absurd (omega (arith, is, no_bit n index));
}

-- a block is written, and what is noted of it
pub noted_front : (full new : List ℕ) (front behind : List (List ℕ)) (number : ℕ) (bytes : List ℕ) → number < length front → IsNoted full front behind
    → ((index : ℕ) → index + 1 ≡ number → bit_of new index ≡ 1 → HasNoneFree bytes) → ((index : ℕ) → index + 1 ≢ number → bit_of new index ≡ bit_of full index)
    → IsNoted new (set front number bytes) behind
noted_front full new front behind number bytes lt was this others = record {
  count = rw (length-set front number bytes) was.count;
  none = λ index is. elim (cases_eq (index + 1) number) [
    | inl e ↦
        let at : 1 + index ≡ number = omega (arith, e) in
        let here : block_bytes (set front number bytes) (1 + index) ≡ bytes = ap (λ (n : ℕ). block_bytes (set front number bytes) n) at ∙ get_or-set_same front number bytes [] lt in
        subst HasNoneFree (sym here) (this index e is)
    | inr other ↦
        let there : block_bytes (set front number bytes) (1 + index) ≡ block_bytes front (1 + index) = get_or-set_other front number (1 + index) bytes [] (λ e. other (omega (arith, e))) in
        subst HasNoneFree (sym there) (was.none index (sym (others index other) ∙ is))
  ];
}

pub noted_behind : (full : List ℕ) (front behind : List (List ℕ)) (number : ℕ) (bytes : List ℕ) → IsNoted full front behind → IsNoted full front (set behind number bytes)
noted_behind full front behind number bytes was = record { count = rw (length-set behind number bytes) was.count; none = was.none }

-- what is noted of the first blocks is so of their nodes
pub none_free : (full : List ℕ) (front behind : List (List ℕ)) (blocks : ℕ) → IsNoted full front behind → blocks < length front → ((index : ℕ) → index < blocks → bit_of full index ≡ 1) → NoneFreeIn (front ++ behind) blocks
none_free full front behind blocks noted within marked number le free =
    let index : ℕ = (number - 1) / 16 in
    let above : 0 < number = free.1.number.0 in
    let lt : index < blocks = omega (arith, le, above) in
    let there : block_bytes (front ++ behind) (1 + index) ≡ block_bytes front (1 + index) = get_or_append_left front behind [] (1 + index) (omega (arith, lt, within)) in
    let kind : kind_in (block_bytes (front ++ behind) (table_block number)) (table_slot number) ≡ 0 = kind_there (front ++ behind) number free.0 free.1 ∙ free.2 in
    noted.none index (marked index lt) (table_slot number) (omega arith) (ap (λ (block : List ℕ). kind_in block (table_slot number)) (sym there) ∙ kind)

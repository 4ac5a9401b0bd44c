-- The bytes of a slot, one by one and as a piece of the block.
use Rattle.std.proofs.Common.{◌≡◌, ℕ, suc, ◌+◌, ◌-◌, ◌*◌, ◌<◌, ◌≤◌, ◌⊎◌, inl, inr, List, ◌∷◌, ◌++◌, length, get_or, take, drop, replicate, refl, sym, ap, ◌∙◌, subst, arith}
use Rattle.std.proofs.lemmas.List.{ext_get_or, get_or-take, get_or-drop, length-take-le, get_or_append_left, get_or-append_right}
use Rattle.std.proofs.Common.{length-drop}
use Rattle.std.specs.Int.{w32, to_be_bytes, from_be_bytes}
use Rattle.std.proofs.lemmas.Nat.{from_be_bytes-to_be_bytes_4}
use borrow.Rule.Slice.PartMut.{put_mid}
use Rattle.kabi_types.specs.declared.inodes.DirEntry.{DirEntry}
use Rattle.posix_defs.specs.DiskFormat.{IsEntry, entry_bytes}
use Rattle.posix_defs.specs.SoundDisk.{pointer_at}
use Rattle.disk_laws.proofs.DiskSpelling.{length-entry_bytes, same_entry_bytes}
use Rattle.memfs_dir.specs.Slots.{IsCalled, Spells}

abbrev pub piece : List ℕ → ℕ → List ℕ
piece block slot = take 32 (drop (32 * slot) block)

length-piece : (block : List ℕ) (slot : ℕ) → length block ≡ 1024 → slot < 32 → length (piece block slot) ≡ 32
length-piece block slot len lt = length-take-le 32 (drop (32 * slot) block) (omega (arith, length-drop (32 * slot) block, len, lt))

get_or-piece : (block : List ℕ) (slot j : ℕ) → j < 32 → get_or (piece block slot) j 0 ≡ get_or block (32 * slot + j) 0
get_or-piece block slot j lt = get_or-take 32 (drop (32 * slot) block) j 0 lt ∙ get_or-drop (32 * slot) block j 0

pub piece_of : (block : List ℕ) (slot : ℕ) (entry : DirEntry) → length block ≡ 1024 → slot < 32 → Spells block slot entry → piece block slot ≡ entry_bytes entry
piece_of block slot entry len lt spells =
    ext_get_or 0 (piece block slot) (entry_bytes entry) (length-piece block slot len lt ∙ sym (length-entry_bytes entry spells.valid))
    (λ j within. let at : j < 32 = omega (arith, within, length-piece block slot len lt) in get_or-piece block slot j at ∙ spells.bytes j at)

pub spells_piece : (block : List ℕ) (slot : ℕ) (entry : DirEntry) → IsEntry entry → piece block slot ≡ entry_bytes entry → Spells block slot entry
spells_piece block slot entry valid e = record {
  valid = valid;
  bytes = λ j lt. sym (get_or-piece block slot j lt) ∙ ap (λ (bytes : List ℕ). get_or bytes j 0) e;
}

-- a slot has one entry
pub one_entry : (block : List ℕ) (slot : ℕ) (one other : DirEntry) → Spells block slot one → Spells block slot other → one ≡ other
one_entry block slot one other first second =
    same_entry_bytes one other first.valid second.valid (ext_get_or 0 (entry_bytes one) (entry_bytes other) (length-entry_bytes one first.valid ∙ sym (length-entry_bytes other second.valid))
    (λ j within. let at : j < 32 = omega (arith, within, length-entry_bytes one first.valid) in sym (first.bytes j at) ∙ second.bytes j at))

-- ---- what the name of a slot shows

-- behind the node's number stands how long the name is, and then the name
length_spelled : (entry : DirEntry) → get_or (entry_bytes entry) 4 0 ≡ length entry.name
unfolding entry_bytes
length_spelled entry = refl

name_spelled : (entry : DirEntry) (k : ℕ) → k < length entry.name → get_or (entry_bytes entry) (suc (suc (suc (suc (suc k))))) 0 ≡ get_or entry.name k 0
unfolding entry_bytes
name_spelled entry k lt = get_or_append_left entry.name (replicate (27 - length entry.name) 0) 0 k lt

-- What a slot shows of the entry's name.
pub record Shows (block : List ℕ) (at : ℕ) (name : List ℕ) : Type 0 where
  pub some : 0 < length name
  pub few : length name ≤ 27
  pub long : get_or block at 0 ≡ length name
  pub last : get_or block (at + length name) 0 ≡ get_or name (length name - 1) 0

pub shows : (block : List ℕ) (slot : ℕ) (name : List ℕ) → IsCalled block slot name → Shows block (32 * slot + 4) name
shows block slot name called = subst (Shows block (32 * slot + 4)) called.called (record {
  some = valid.name.len.0;
  few = valid.name.len.1;
  long = called.spells.bytes 4 (omega arith) ∙ length_spelled entry;
  last =
      let at : 32 * slot + 4 + length entry.name ≡ 32 * slot + suc (suc (suc (suc (suc (length entry.name - 1))))) = omega (arith, valid.name.len.0) in
      ap (λ (k : ℕ). get_or block k 0) at
      ∙ called.spells.bytes (suc (suc (suc (suc (suc (length entry.name - 1)))))) (omega (arith, valid.name.len.0, valid.name.len.1))
      ∙ name_spelled entry (length entry.name - 1) (omega (arith, valid.name.len.0));
})
  where
    entry : DirEntry
    entry = called.entry

    valid : IsEntry entry
    valid = called.spells.valid

-- the bytes behind the length, as many as it says, are the entry's name
pub name_shown : (block : List ℕ) (slot n : ℕ) (entry : DirEntry) → length block ≡ 1024 → slot < 32 → Spells block slot entry → get_or block (32 * slot + 4) 0 ≡ n
    → take n (drop (32 * slot + 5) block) ≡ entry.name
name_shown block slot n entry len lt spells is =
    let long : length entry.name ≡ n = sym (length_spelled entry) ∙ sym (spells.bytes 4 (omega arith)) ∙ is in
    let few : length entry.name ≤ 27 = spells.valid.name.len.1 in
    let many : length (take n (drop (32 * slot + 5) block)) ≡ n = length-take-le n (drop (32 * slot + 5) block) (omega (arith, length-drop (32 * slot + 5) block, len, lt, long, few)) in
    ext_get_or 0 (take n (drop (32 * slot + 5) block)) entry.name (many ∙ sym long) (λ j within.
    let below : j < n = omega (arith, within, many) in
    let at : 32 * slot + 5 + j ≡ 32 * slot + suc (suc (suc (suc (suc j)))) = omega arith in
    get_or-take n (drop (32 * slot + 5) block) j 0 below
    ∙ get_or-drop (32 * slot + 5) block j 0
    ∙ ap (λ (k : ℕ). get_or block k 0) at
    ∙ spells.bytes (suc (suc (suc (suc (suc j))))) (omega (arith, below, long, few))
    ∙ name_spelled entry j (omega (arith, below, long)))

-- its first four bytes are the number of the node
node_first : (entry : DirEntry) (j : ℕ) → j < 4 → get_or (entry_bytes entry) j 0 ≡ get_or (to_be_bytes w32 entry.node) j 0
unfolding entry_bytes
node_first entry j lt = get_or_append_left (to_be_bytes w32 entry.node) (length entry.name ∷ (entry.name ++ replicate (27 - length entry.name) 0)) 0 j lt

pub node_shown : (block : List ℕ) (slot : ℕ) (entry : DirEntry) → length block ≡ 1024 → slot < 32 → Spells block slot entry → pointer_at block (8 * slot) ≡ entry.node
node_shown block slot entry len lt spells =
    let front : ℕ = 4 * (8 * slot) in
    let many : length (take 4 (drop front block)) ≡ 4 = length-take-le 4 (drop front block) (omega (arith, length-drop front block, len, lt)) in
    ap (from_be_bytes w32) (ext_get_or 0 (take 4 (drop front block)) (to_be_bytes w32 entry.node) many (λ j within.
    let below : j < 4 = omega (arith, within, many) in
    let at : front + j ≡ 32 * slot + j = omega arith in
    get_or-take 4 (drop front block) j 0 below
    ∙ get_or-drop front block j 0
    ∙ ap (λ (k : ℕ). get_or block k 0) at
    ∙ spells.bytes j (omega (arith, below))
    ∙ node_first entry j below))
    ∙ from_be_bytes-to_be_bytes_4 entry.node spells.valid.node.1

-- ---- bytes put into a row

pub put_here : (old bytes : List ℕ) (at n j : ℕ) → length bytes ≡ n → at ≤ length old → j < n → get_or (put_mid at n old bytes) (at + j) 0 ≡ get_or bytes j 0
put_here old bytes at n j len within lt =
    let front : length (take at old) ≡ at = length-take-le at old within in
    let back : at + j - at ≡ j = omega arith in
    get_or-append_right (take at old) (bytes ++ drop n (drop at old)) at (at + j) 0 front (omega arith)
    ∙ ap (λ (k : ℕ). get_or (bytes ++ drop n (drop at old)) k 0) back
    ∙ get_or_append_left bytes (drop n (drop at old)) 0 j (omega (arith, len, lt))

pub put_elsewhere : (old bytes : List ℕ) (at n k : ℕ) → length bytes ≡ n → at ≤ length old → (k < at) ⊎ (at + n ≤ k) → get_or (put_mid at n old bytes) k 0 ≡ get_or old k 0
put_elsewhere old bytes at n k len within (inl before) =
    get_or_append_left (take at old) (bytes ++ drop n (drop at old)) 0 k (omega (arith, length-take-le at old within, before)) ∙ get_or-take at old k 0 before
put_elsewhere old bytes at n k len within (inr behind) =
    let front : length (take at old) ≡ at = length-take-le at old within in
    let where_ : at + (n + (k - at - n)) ≡ k = omega (arith, behind) in
    get_or-append_right (take at old) (bytes ++ drop n (drop at old)) at k 0 front (omega (arith, behind))
    ∙ get_or-append_right bytes (drop n (drop at old)) n (k - at) 0 len (omega (arith, behind))
    ∙ get_or-drop n (drop at old) (k - at - n) 0
    ∙ get_or-drop at old (n + (k - at - n)) 0
    ∙ ap (λ (i : ℕ). get_or old i 0) where_

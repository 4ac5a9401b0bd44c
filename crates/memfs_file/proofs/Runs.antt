-- Blocks of bytes run by run.
use Rattle.std.proofs.Common.{◌≡◌, ℕ, zero, suc, ◌+◌, ◌-◌, ◌*◌, ◌/◌, ◌<◌, ◌≤◌, ◌⊎◌, max, min, inl, inr, List, [], ◌∷◌, ◌++◌, cond, eqb, ltb, get_or, sym, ap, ◌∙◌, append_assoc, arith}
use Rattle.std.specs.List.{flat_map, range_with_len}
use Rattle.std.proofs.lemmas.Bool.{cases_lt, cond-false, le-ltb, ne_eqb}
use Rattle.std.proofs.lemmas.List.{append-nil}
use Rattle.std.proofs.lemmas.List.Concat.{flat_map-cons}
use Rattle.kabi_types.specs.declared.inodes.Inode.{Inode}
use Rattle.posix_defs.specs.DiskFormat.{block_size, data_blocks}
use Rattle.posix_defs.specs.SoundDisk.{block_bytes, block_of_run, pointer_at, pointer_block, run_of}
use Rattle.blk_map.specs.Runs.{run_first, run_end}
use Rattle.memfs_file.specs.Ranges.{asked_between, asked_in_run, asked_to_read, blocks_between, pointers_for, runs_between}

-- one number more
pub flat_more : (f : ℕ → List ℕ) (from n to : ℕ) → to ≡ from + n → flat_map f (range_with_len from (n + 1)) ≡ flat_map f (range_with_len from n) ++ f to
flat_more f from n to is = more n from ∙ ap (λ (k : ℕ). flat_map f (range_with_len from n) ++ f k) (sym is)
  where
    more : (n from : ℕ) → flat_map f (range_with_len from (n + 1)) ≡ flat_map f (range_with_len from n) ++ f (from + n)
    more zero from = flat_map-cons f from [] ∙ append-nil (f from) ∙ (let here : from ≡ from + 0 = omega arith in ap f here)
    more (suc n) from =
        let step : suc n + 1 ≡ suc (n + 1) = omega arith in
        let at : from + 1 + n ≡ from + suc n = omega arith in
        let rest : List ℕ = range_with_len (from + 1) n in
        ap (λ (k : ℕ). flat_map f (range_with_len from k)) step ∙ flat_map-cons f from (range_with_len (from + 1) (n + 1)) ∙ ap (λ (xs : List ℕ). f from ++ xs) (more n (from + 1)) ∙ sym (append_assoc (f from) (flat_map f rest) (f (from + 1 + n)))
        ∙ ap (λ (xs : List ℕ). xs ++ f (from + 1 + n)) (sym (flat_map-cons f from rest)) ∙ ap (λ (k : ℕ). flat_map f (range_with_len from (suc n)) ++ f k) at

-- the blocks of a run, of those from one up to another
pub record Piece (from to run first end : ℕ) : Type 0 where
  pub some : first < end
  pub low : from ≤ first
  pub high : end ≤ to
  pub in_run : run_of first ≡ run
  pub ends : end ≤ 10 + 256 * (run + 1)

pub piece : (from to run first end : ℕ) → from < to → run_of from ≤ run → run ≤ run_of (to - 1) → first ≡ max from (run_first run) → end ≡ min to (run_end run) → Piece from to run first end
piece from to zero first end some low high is ends =
    record { some = omega (arith, some, low, is, ends); low = omega (arith, is); high = omega (arith, ends); in_run = omega (arith, some, low, is, ends); ends = omega (arith, ends) }
piece from to (suc run) first end some low high is ends =
    record { some = omega (arith, some, low, high, is, ends); low = omega (arith, is); high = omega (arith, ends); in_run = omega (arith, some, low, high, is, ends); ends = omega (arith, ends) }

-- a block of the first runs is one of those before, or of the last run
pub in_runs : (from to run first end index : ℕ) → from ≤ index → index < to → first ≡ max from (run_first run) → end ≡ min to (run_end run) → run_of index < run + 1
    → ((run_of index < run) × (index < first)) ⊎ ((first ≤ index) × (index < end))
in_runs from to run first end index low high is ends within = elim (cases_lt (run_of index) run) [
  | inl early ↦ inl (early, before run is early)
  | inr late ↦ inr (begins run is late, omega (arith, ends, high, within))
]
  where
    before : (run : ℕ) → first ≡ max from (run_first run) → run_of index < run → index < first
    before zero is early = absurd (omega (arith, early))
    before (suc run) is early = omega (arith, is, early)

    begins : (run : ℕ) → first ≡ max from (run_first run) → run ≤ run_of index → first ≤ index
    begins zero is late = omega (arith, is, low)
    begins (suc run) is late = omega (arith, is, low, late)

-- up to where blocks are done before a run, of those from one up to another
abbrev pub done_before : ℕ → ℕ → ℕ → ℕ
done_before from to run = min to (max from (run_first run))

pub done_at_first : (from to run : ℕ) → from < to → run ≡ run_of from → done_before from to run ≡ from
done_at_first from to zero some is = omega (arith, some, is)
done_at_first from to (suc run) some is = omega (arith, some, is)

pub done_there : (from to run first : ℕ) → from < to → run ≤ run_of (to - 1) → first ≡ max from (run_first run) → done_before from to run ≡ first
done_there from to zero first some high is = omega (arith, some, is)
done_there from to (suc run) first some high is = omega (arith, some, high, is)

pub done_then : (from to run end : ℕ) → from < to → run_of from ≤ run → end ≡ min to (run_end run) → done_before from to (run + 1) ≡ end
done_then from to run end some low is = let next : run_first (run + 1) ≡ run_end run = omega arith in omega (arith, some, low, is, next)

pub done_at_last : (from to run : ℕ) → run ≡ run_of (to - 1) + 1 → done_before from to run ≡ to
done_at_last from to run is = omega (arith, is)

-- a node has the block of a run that one of them is in
pub run_is_had : (run to size : ℕ) → 266 < to → run ≤ run_of (to - 1) → to ≤ size → 10 + 256 * run < size
run_is_had zero to size far high within = omega (arith, far, within)
run_is_had (suc run) to size far high within = omega (arith, far, high, within)

-- the near ones are all in the first run
pub near_runs : (disk : List (List ℕ)) (inode : Inode) (from to : ℕ) → from < to → to ≤ 266 → asked_between disk inode from to ≡ pointers_for inode.indirect to ++ blocks_between disk inode from to
near_runs disk inode from to some near =
    let f : ℕ → List ℕ = asked_in_run disk inode from to in
    let first : run_of from ≡ 0 = omega (arith, some, near) in
    let count : run_of (to - 1) + 1 - run_of from ≡ 1 = omega (arith, some, near) in
    let end : min to (run_end 0) ≡ to = omega (arith, near) in
    let begin : max from (run_first 0) ≡ from = omega arith in
    ap (λ (xs : List ℕ). xs ++ flat_map f (runs_between from to)) (cond-false (ltb 266 to) (inode.double ∷ []) [] (le-ltb 266 to near))
    ∙ ap (λ (n : ℕ). flat_map f (range_with_len n (run_of (to - 1) + 1 - run_of from))) first ∙ ap (λ (n : ℕ). flat_map f (range_with_len 0 n)) count
    ∙ flat_map-cons f 0 [] ∙ append-nil (f 0)
    ∙ ap (λ (n : ℕ). pointers_for inode.indirect n ++ blocks_between disk inode (max from (run_first 0)) n) end
    ∙ ap (λ (n : ℕ). pointers_for inode.indirect to ++ blocks_between disk inode n to) begin

-- some bytes are asked for
pub asked_some : (disk : List (List ℕ)) (inode : Inode) (at count : ℕ) → 0 < count → asked_to_read disk inode at count ≡ asked_between disk inode (at / block_size) (data_blocks (at + count))
asked_some disk inode at count some =
    cond-false (eqb count 0) [] (asked_between disk inode (at / block_size) (data_blocks (at + count))) (ne_eqb count 0 (λ e. omega (arith, e, some)))

-- the block of a run, by the pointers of the double block
pub run_pointers : (disk : List (List ℕ)) (inode : Inode) (double : List ℕ) (run pointers : ℕ) → run ≤ 256 → ((k : ℕ) → k < 256 → get_or double k 0 ≡ pointer_at (block_bytes disk inode.double) k)
    → pointers ≡ cond (eqb run 0) inode.indirect (get_or double (run - 1) 0) → pointers ≡ pointer_block disk inode (block_of_run run)
run_pointers disk inode double zero pointers few names is = is
run_pointers disk inode double (suc run) pointers few names is =
    let back : suc run - 1 ≡ run = omega arith in
    is ∙ cond-false (eqb (suc run) 0) inode.indirect (get_or double (suc run - 1) 0) (ne_eqb (suc run) 0 (λ e. omega (arith, e))) ∙ ap (λ (n : ℕ). get_or double n 0) back ∙ names run (omega (arith, few))

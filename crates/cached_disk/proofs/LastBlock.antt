-- The last block that a read asks for is that of its last byte.
use Rattle.std.proofs.Common.{◌≡◌, ◌≢◌, ℕ, ◌+◌, ◌-◌, ◌/◌, ◌<◌, ◌≤◌, ◌==◌, if◌then◌else◌, max, min, List, [], ◌∷◌, ◌++◌, map, refl, sym, ap, ◌∙◌, subst, append_assoc, ne_eqb, arith}
use Rattle.std.specs.List.{flat_map, range_with_len}
use Rattle.std.proofs.lemmas.List.FromFn.{map-range_with_len_more}
use Rattle.kabi_types.specs.declared.inodes.Inode.{Inode}
use Rattle.posix_defs.specs.DiskFormat.{block_size, data_blocks}
use Rattle.posix_defs.specs.SoundDisk.{block_of_run, pointer_block, run_of}
use Rattle.posix_defs.specs.DiskContents.{data_block}
use Rattle.blk_map.specs.Runs.{run_end, run_first}
use Rattle.memfs_file.proofs.Runs.{flat_more}
use Rattle.memfs_file.specs.Ranges.{asked_between, asked_in_run, asked_to_read, blocks_between, double_for, pointers_for, runs_between}

-- up to a place, and that one
one_more_block : (disk : List (List ℕ)) (inode : Inode) (from to last : ℕ) → from ≤ last → to ≡ last + 1 → blocks_between disk inode from to ≡ blocks_between disk inode from last ++ data_block disk inode last ∷ []
one_more_block disk inode from to last le is =
    let name : ℕ → ℕ = λ index. data_block disk inode index in
    let count : to - from ≡ last - from + 1 = omega arith in
    ap (λ (n : ℕ). map name (range_with_len from n)) count ∙ map-range_with_len_more name from (last - from) last (omega arith)

pub read_ends : (disk : List (List ℕ)) (inode : Inode) (at count : ℕ) → count ≢ 0 → (before : List ℕ) × (asked_to_read disk inode at count ≡ before ++ data_block disk inode ((at + count - 1) / block_size) ∷ [])
read_ends disk inode at count some =
    let first : ℕ = at / block_size in
    let last : ℕ = (at + count - 1) / block_size in
    let to : ℕ = data_blocks (at + count) in
    let le : first ≤ last = omega arith in
    let end : to ≡ last + 1 = omega arith in
    let run : ℕ = run_of (to - 1) in
    let begin : ℕ = max first (run_first run) in
    let each : ℕ → List ℕ = asked_in_run disk inode first to in
    let runs : run_of first ≤ run = omega (arith, le, end) in
    let many : run + 1 - run_of first ≡ run - run_of first + 1 = omega (arith, runs) in
    let here : run ≡ run_of first + (run - run_of first) = omega (arith, runs) in
    let stop : min to (run_end run) ≡ to = omega (arith, end) in
    let low : begin ≤ last = omega (arith, le, end) in
    let double : List ℕ = double_for inode to in
    let earlier : List ℕ = flat_map each (range_with_len (run_of first) (run - run_of first)) in
    let pointers : List ℕ = pointers_for (pointer_block disk inode (block_of_run run)) (min to (run_end run)) in
    let blocks : List ℕ = blocks_between disk inode begin last in
    let this : List ℕ = data_block disk inode last ∷ [] in
    let all : flat_map each (runs_between first to) ≡ earlier ++ each run = ap (λ (n : ℕ). flat_map each (range_with_len (run_of first) n)) many ∙ flat_more each (run_of first) (run - run_of first) run here in
    let one : each run ≡ (pointers ++ blocks) ++ this =
    ap (λ (n : ℕ). pointers ++ blocks_between disk inode begin n) stop ∙ ap (λ (l : List ℕ). pointers ++ l) (one_more_block disk inode begin to last low end) ∙ sym (append_assoc pointers blocks this)
    in
    let whole : flat_map each (runs_between first to) ≡ (earlier ++ (pointers ++ blocks)) ++ this = all ∙ ap (λ (l : List ℕ). earlier ++ l) one ∙ sym (append_assoc earlier (pointers ++ blocks) this) in (
      double ++ (earlier ++ (pointers ++ blocks)),
      ap (λ b. if b then [] else asked_between disk inode first to) (ne_eqb count 0 some) ∙ ap (λ (l : List ℕ). double ++ l) whole ∙ sym (append_assoc double (earlier ++ (pointers ++ blocks)) this),
    )

-- How many blocks a node is given that grows.
use Rattle.std.proofs.Common.{◌≡◌, ℕ, zero, suc, ◌+◌, ◌-◌, ◌*◌, ◌/◌, ◌<◌, ◌≤◌, ◌≢◌, Bool, true, false, eqb, ◌⊎◌, inl, inr, refl, sym, ap, ◌∙◌, arith}
use Rattle.std.proofs.lemmas.Bool.{cases_eq, cases_lt, eq-eqb, eqb-true, false≢true}
use Rattle.posix_defs.specs.DiskFormat.{data_blocks, pointers_beside, pointer_blocks, blocks_of}
use Rattle.posix_defs.specs.SoundDisk.{block_of_run, run_of}
use Rattle.blk_map.specs.Runs.{run_first}

-- more blocks of bytes have no fewer of pointers beside them
pub beside_more : (n m : ℕ) → n ≤ m → pointers_beside n ≤ pointers_beside m
beside_more n m le = omega (arith, le)

pub pointers_more : (old size : ℕ) → old ≤ size → pointer_blocks old ≤ pointer_blocks size
pointers_more old size le = beside_more (data_blocks old) (data_blocks size) (omega (arith, le))

pub blocks_more : (old size : ℕ) → old ≤ size → blocks_of old ≤ blocks_of size
blocks_more old size le = both (data_blocks old) (data_blocks size) (pointer_blocks old) (pointer_blocks size) (omega (arith, le)) (pointers_more old size le)
  where
    both : (n m p q : ℕ) → n ≤ m → p ≤ q → n + p ≤ m + q
    both n m p q le less = omega (arith, le, less)

-- as many as it has more of bytes, and of pointers
pub given : (old size : ℕ) → old ≤ size → blocks_of size - blocks_of old ≡ data_blocks size - data_blocks old + (pointer_blocks size - pointer_blocks old)
given old size le = sums (data_blocks old) (data_blocks size) (pointer_blocks old) (pointer_blocks size) (omega (arith, le)) (pointers_more old size le)
  where
    sums : (n m p q : ℕ) → n ≤ m → p ≤ q → m + q - (n + p) ≡ m - n + (q - p)
    sums n m p q less few = omega arith

pub given_least : (old size : ℕ) → old ≤ size → data_blocks size - data_blocks old ≤ blocks_of size - blocks_of old
given_least old size le = least (blocks_of size - blocks_of old) (data_blocks size - data_blocks old) (pointer_blocks size - pointer_blocks old) (given old size le)
  where
    least : (all held pointers : ℕ) → all ≡ held + pointers → held ≤ all
    least all held pointers is = omega arith

-- who is given none has as many blocks of bytes
pub given_none : (old size : ℕ) → old ≤ size → blocks_of size - blocks_of old ≡ 0 → data_blocks size ≡ data_blocks old
given_none old size le none = omega (arith, le, none, given_least old size le)

-- in a run all have the same blocks of pointers beside them
pub beside_in_run : (run n : ℕ) → 10 + 256 * run < n → n ≤ 10 + 256 * (run + 1) → pointers_beside n ≡ suc (block_of_run run)
beside_in_run zero n past within = omega (arith, past, within)
beside_in_run (suc run) n past within = omega (arith, past, within)

-- no more than 267 in a run
pub few_in_run : (run n m : ℕ) → run ≡ (n - 10) / 256 → n ≤ m → m ≤ 10 + 256 * (run + 1) → m - n + (pointers_beside m - pointers_beside n) ≤ 267
few_in_run zero n m is le within = omega (arith, is, le, within)
few_in_run (suc run) n m is le within = omega (arith, is, le, within)

-- who is given some has more blocks of bytes
pub some_given : (old size : ℕ) → old ≤ size → 0 < blocks_of size - blocks_of old → data_blocks old < data_blocks size
some_given old size le some = elim (cases_lt (data_blocks old) (data_blocks size)) [
  | inl more ↦ more
  | inr none ↦
      let same : data_blocks size ≡ data_blocks old = omega (arith, le, none) in
      let all : blocks_of size ≡ blocks_of old = ap (λ (n : ℕ). n + pointers_beside n) same in
      absurd (omega (arith, some, all))
]

-- the run of the next block of bytes is one of those that there are
pub run_few : (run n m : ℕ) → run ≡ (n - 10) / 256 → n < m → m ≤ 65802 → run ≤ 256
run_few run n m is lt most = omega (arith, is, lt, most)

-- a node that grows within the second run of all, and within a further one, and gets blocks of pointers, had none of the run
pub named_two : (n m many : ℕ) → 1 ≡ (n - 10) / 256 → n ≤ m → m ≤ 522 → many ≡ pointers_beside m - pointers_beside n → 0 < many → (n ≡ 266) × (266 < m) × (many ≡ 2)
named_two n m many is le within count some = (omega arith, omega arith, omega arith)

pub named_one : (run n m many : ℕ) → 1 < run → run ≡ (n - 10) / 256 → n ≤ m → m ≤ 10 + 256 * (run + 1) → many ≡ pointers_beside m - pointers_beside n → 0 < many → (n ≡ 10 + 256 * run) × (n < m) × (many ≡ 1)
named_one run n m many far is le within count some = (omega arith, omega arith, omega arith)

-- what was told of a list that is empty, and of one that isn't
pub none_there : (many : ℕ) (empty : Bool) → empty ≡ eqb many 0 → empty ≡ true → many ≡ 0
none_there many empty is e = eqb-true many 0 (sym is ∙ e)

pub some_there : (many : ℕ) (empty : Bool) → empty ≡ eqb many 0 → empty ≡ false → 0 < many
some_there many empty is e = elim (cases_eq many 0) [
  | inl none ↦ absurd (false≢true (sym e ∙ is ∙ eq-eqb many 0 none))
  | inr other ↦ omega (arith, other)
]

-- ---- blocks of pointers that go with the last run

-- none where the node keeps the run's block, or hadn't one
pub none_gone : (run n m : ℕ) → run ≡ run_of (n - 1) → m ≤ n → (10 + 256 * run < m) ⊎ (n ≤ 10 + 256 * run) → pointers_beside n ≡ pointers_beside m
none_gone run n m is le (inl kept) = beside_in_run run n (omega (arith, kept, le)) (omega (arith, is)) ∙ sym (beside_in_run run m kept (omega (arith, is, le)))
none_gone run n m is le (inr few) = omega (arith, is, le, few)

-- else the run's block, and with the second run the double block before it
pub two_gone : (n m : ℕ) → 1 ≡ run_of (n - 1) → m ≡ 266 → 266 < n → (pointers_beside n - pointers_beside m ≡ 2) × (pointers_beside m ≡ 1)
two_gone n m is left past = (omega (arith, is, left, past), omega (arith, left))

pub one_gone : (run n m : ℕ) → run ≡ run_of (n - 1) → run ≢ 1 → m ≤ 10 + 256 * run → run_first run ≤ m → 10 + 256 * run < n → (pointers_beside n - pointers_beside m ≡ 1) × (pointers_beside m ≡ block_of_run run)
one_gone zero n m is other few least past = (omega (arith, is, few, past), omega (arith, few))
one_gone (suc zero) n m is other few least past = absurd (other refl)
one_gone (suc (suc run)) n m is other few least past = (omega (arith, is, few, least, past), omega (arith, few, least))

-- a node without a block of its last run has none of pointers
pub last_run_few : (run n : ℕ) → run ≡ run_of (n - 1) → n ≤ 10 + 256 * run → (run ≡ 0) × (n ≤ 10)
last_run_few run n is few = (omega (arith, is, few), omega (arith, is, few))

-- the last run is one of those that there are
pub last_run_within : (run n : ℕ) → run ≡ run_of (n - 1) → n ≤ 65802 → run ≤ 256
last_run_within run n is most = omega (arith, is, most)

-- no more than 267 go with blocks of bytes of one run
pub few_go : (run n m : ℕ) → run ≡ run_of (n - 1) → run_first run ≤ m → m ≤ n → pointers_beside n - pointers_beside m + (n - m) ≤ 267
few_go zero n m is least le = omega (arith, is, le)
few_go (suc run) n m is least le = omega (arith, is, least, le)

-- Which blocks of pointers come and go with blocks of bytes of one run.
use Rattle.std.proofs.Common.{◌≡◌, ◌≢◌, ℕ, zero, suc, ◌+◌, ◌-◌, ◌*◌, ◌/◌, ◌<◌, ◌≤◌, ◌⊎◌, inl, inr, refl, arith}
use Rattle.std.proofs.lemmas.Bool.{cases_eq}
use Rattle.posix_defs.specs.DiskFormat.{pointers_beside}
use Rattle.posix_defs.specs.SoundDisk.{block_of_run}

-- no run has its pointers in the double block
pub double_has_none : (run : ℕ) → block_of_run run ≢ 1
double_has_none zero = λ e. omega (arith, e)
double_has_none (suc run) = λ e. omega (arith, e)

-- a node that grows within a run gets the run's block, and the double block with the second run
pub come_with_run : (run n m block : ℕ) → run ≡ (n - 10) / 256 → n ≤ m → m ≤ 10 + 256 * (run + 1) → pointers_beside n ≤ block → block < pointers_beside m → (block ≡ block_of_run run) ⊎ (block ≡ 1)
come_with_run zero n m block is le within past lt = inl (omega (arith, is, le, within, past, lt))
come_with_run (suc zero) n m block is le within past lt = elim (cases_eq block 1) [
  | inl double ↦ inr double
  | inr other ↦ inl (omega (arith, is, le, within, past, lt, other))
]
come_with_run (suc (suc run)) n m block is le within past lt = inl (omega (arith, is, le, within, past, lt))

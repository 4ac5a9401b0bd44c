-- How many bytes there is room for, against the blocks that they take.
use Rattle.std.proofs.Common.{◌≡◌, ℕ, ◌+◌, ◌<◌, ◌≤◌, inl, inr, arith}
use Rattle.std.proofs.lemmas.Bool.{cases_lt}
use Rattle.posix_defs.specs.DiskFormat.{greatest_size, blocks_of}
use Rattle.posix_defs.specs.FileBytes.{fitting}
use Rattle.tree_laws.proofs.FileRoom.{capacity_fits, fits_capacity}

pub so_many_fit : (blocks at wanted count : ℕ) → count ≡ fitting blocks at wanted → 0 < count → (count ≤ wanted) × (at + count ≤ greatest_size) × (blocks_of (at + count) ≤ blocks)
so_many_fit blocks at wanted count is some = (omega (arith, is), omega (arith, is, some), capacity_fits blocks (at + count) (omega (arith, is, some)))

pub no_more_fit : (blocks at wanted count more : ℕ) → count ≡ fitting blocks at wanted → count < more → more ≤ wanted → at + more ≤ greatest_size → blocks < blocks_of (at + more)
no_more_fit blocks at wanted count more is further within most =
    elim (cases_lt blocks (blocks_of (at + more))) [
      | inl full ↦ full
      | inr fits ↦ absurd (omega (arith, is, further, within, fits_capacity blocks (at + more) most fits))
    ]

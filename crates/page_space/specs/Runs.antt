-- Runs of pages, by a test that says which are mapped.
use Rattle.std.specs.Prelude.{◌≡◌, ℕ, ◌+◌, ◌<◌, ◌≤◌, Bool, true, false}

-- the pages of the run lie in the address space behind page 0, and none is mapped
pub record IsFreeFrom (mapped : ℕ → Bool) (count first : ℕ) : Type 0 where
  pub behind_zero : 0 < first
  pub within : first + count ≤ 256
  pub free : (page : ℕ) → first ≤ page → page < first + count → mapped page ≡ false

-- the pages from one up to below another are mapped
abbrev pub IsMappedRun : (ℕ → Bool) → ℕ → ℕ → Type 0
IsMappedRun mapped first end = (page : ℕ) → first ≤ page → page < end → mapped page ≡ true

-- one of these pages isn't mapped
abbrev pub HasUnmapped : (ℕ → Bool) → ℕ → ℕ → Type 0
HasUnmapped mapped first end = (page : ℕ) × (first ≤ page) × (page < end) × (mapped page ≡ false)

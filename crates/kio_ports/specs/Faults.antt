-- Counts of faults.
use Rattle.std.specs.Prelude.{◌≢◌, ℕ, ◌-◌, ◌^◌, ◌<◌}

-- a count rose, or it stands at the last value of a u64, from where it can't rise
abbrev pub HasRisen : ℕ → ℕ → Type 0
HasRisen old new = new ≢ 2 ^ 64 - 1 → old < new

-- What a change of one entry doesn't touch.
use Rattle.std.specs.Prelude.{ℕ, ◌≢◌, ◌⊎◌, List}

-- another directory, or another name
abbrev pub IsElsewhere : ℕ → List ℕ → ℕ → List ℕ → Type 0
IsElsewhere dir name other called = (other ≢ dir) ⊎ (called ≢ name)

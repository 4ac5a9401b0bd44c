-- What a store keeps in mind of processes whose next calls would block.
use Rattle.std.specs.Prelude.{ℕ, ◌≡◌, ◌==◌, Bool, false, List}
use Rattle.std.specs.List.{list_any}

-- the process is one of these
abbrev pub is_among : List ℕ → ℕ → Bool
is_among pids pid = list_any (λ other. pid == other) pids

-- Of every process that isn't named the same is kept in mind as before.
abbrev pub HasNamed : (ℕ → Bool) → (ℕ → Bool) → List ℕ → Type 0
HasNamed old new named = (pid : ℕ) → is_among named pid ≡ false → new pid ≡ old pid

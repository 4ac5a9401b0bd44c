-- Chains of waits, from one process to another.
use Rattle.std.specs.Prelude.{ℕ, ◌≡◌, Bool, true, List}
use Rattle.std.specs.List.{Contains}

-- One waits for the other, or for one that stands between them, from whom a chain leads on.
pub data Chain (waits : ℕ → ℕ → Bool) (Between : ℕ → Type 0) : ℕ → ℕ → Type 0 where
  wait : (pid other : ℕ) → waits pid other ≡ true → Chain waits Between pid other
  goes_on : (pid between other : ℕ) → waits pid between ≡ true → Between between → Chain waits Between between other → Chain waits Between pid other

-- whoever stands between
abbrev pub anyone : ℕ → Type 0
anyone pid = Unit {0}

-- who stands between is one of these
abbrev pub among : List ℕ → ℕ → Type 0
among pids pid = Contains pids pid

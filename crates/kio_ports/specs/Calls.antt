-- The calls that were made to a stream in memory.
use Rattle.std.specs.Prelude.{ℕ, ◌+◌, ◌-◌, ◌^◌, min, List, Contains}

-- the numbers of the calls that fail, from 1, how many were made, and how many failed
pub record CallState : Type 0 where
  pub fails : List ℕ
  pub made : ℕ
  pub faults : ℕ

-- the number that follows, where the last value of a u64 is followed by itself
abbrev pub next_number : ℕ → ℕ
next_number n = min (n + 1) (2 ^ 64 - 1)

-- no call was made
abbrev pub first_call : List ℕ → CallState
first_call fails = record { fails = fails; made = 0; faults = 0 }

-- the number of the next call is among those that fail
abbrev pub IsNextListed : CallState → Type 0
IsNextListed calls = Contains calls.fails (next_number calls.made)

-- one more call was made
abbrev pub after_call : CallState → CallState
after_call calls = record calls { made = next_number calls.made }

-- one more call failed
abbrev pub after_fault : CallState → CallState
after_fault calls = record calls { faults = next_number calls.faults }

-- The generator that chooses where a script gives a seed.
use Rattle.std.specs.Prelude.{ℕ, zero, suc, ◌+◌, ◌*◌, ◌/◌, ◌%◌}

-- the state that follows a state
abbrev pub next_state : ℕ → ℕ
next_state x = (1103515245 * x + 12345) % 2147483648

-- the state after so many choices; before the first it is the seed
abbrev pub state_after : ℕ → ℕ → ℕ
state_after seed zero = seed
state_after seed (suc before) = next_state (state_after seed before)

-- the number that a state chooses by
abbrev pub choice_of : ℕ → ℕ
choice_of x = x / 65536

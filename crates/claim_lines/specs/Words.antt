-- The words of a line of a history, and the pids among them.
use Rattle.std.specs.Prelude.{ℕ, ◌+◌, ◌-◌, ◌*◌, ◌^◌, ◌==◌, ◌&&◌, ◌||◌, not, nat_le, nat_lt, Bool, if◌then◌else◌, List, [], ◌∷◌, length, drop, Option, None, Some, option_and_then, slice_index}

-- a blank or a newline
abbrev pub is_gap : ℕ → Bool
is_gap byte = (byte == 32) || (byte == 10)

-- the bytes before the first of these; all, where there is none
abbrev pub first_word : List ℕ → List ℕ
first_word [] = []
first_word (byte ∷ bytes) = if is_gap byte then [] else byte ∷ first_word bytes

-- the bytes behind it; none, where there is none
abbrev pub rest_of : List ℕ → List ℕ
rest_of [] = []
rest_of (byte ∷ bytes) = if is_gap byte then bytes else rest_of bytes

-- a number with one digit more; None where that is no digit, or the number has more than 32 bits
abbrev pub more_by : ℕ → ℕ → Option ℕ
more_by n digit =
    if (nat_le 48 digit && nat_le digit 57) && nat_lt (n * 10 + (digit - 48)) (2 ^ 32) then Some (n * 10 + (digit - 48)) else None

-- the number that digits write behind those of another one
abbrev pub number_after : ℕ → List ℕ → Option ℕ
number_after n [] = Some n
number_after n (digit ∷ digits) = option_and_then (λ more. number_after more digits) (more_by n digit)

-- the pid that a word names: a `p`, and digits
abbrev pub pid_named : List ℕ → Option ℕ
pid_named word = if nat_lt (length word) 2 || not (slice_index word 0 == 112) then None else number_after 0 (drop 1 word)

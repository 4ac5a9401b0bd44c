-- What goes through a queue of bytes in a row of puts and takes.
use Rattle.std.specs.Prelude.{ℕ, List, [], ◌∷◌, ◌++◌, take, drop}

-- bytes are put behind the others, or so many are taken from the front, or all where there are fewer
pub data QueueStep : Type 0 where
  Puts : List ℕ → QueueStep
  Takes : ℕ → QueueStep

-- the bytes that are there in the end
abbrev pub left_after : List ℕ → List QueueStep → List ℕ
left_after bytes [] = bytes
left_after bytes (Puts more ∷ steps) = left_after (bytes ++ more) steps
left_after bytes (Takes n ∷ steps) = left_after (drop n bytes) steps

-- all that was put
abbrev pub put_in : List QueueStep → List ℕ
put_in [] = []
put_in (Puts more ∷ steps) = more ++ put_in steps
put_in (Takes n ∷ steps) = put_in steps

-- all that was taken, in the order in which it came
abbrev pub taken_out : List ℕ → List QueueStep → List ℕ
taken_out bytes [] = []
taken_out bytes (Puts more ∷ steps) = taken_out (bytes ++ more) steps
taken_out bytes (Takes n ∷ steps) = take n bytes ++ taken_out (drop n bytes) steps

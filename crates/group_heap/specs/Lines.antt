-- Lines, in the shapes of the functions that read them.
use Rattle.std.specs.Prelude.{ℕ, ◌+◌, ◌≡◌, List, [], ◌++◌, length, Option, None, Some}
use Rattle.std.specs.Borrow.{Bor}
use Rattle.script_words.specs.declared.refused.Refused.{Refused}
use Rattle.script_words.specs.declared.refused.Refused.TheVariants as refused
use Rattle.group_heap.specs.declared.faults.GroupFault.{GroupFault}
use Rattle.group_heap.specs.declared.faults.GroupFault.TheVariants as fault
use Rattle.group_heap.specs.Texts.{IsWithin, StartsSection, lines_of, text_of}

-- the lines of what is left of a text, none where nothing is
abbrev pub lines_left : Option (Bor (List ℕ)) → List (List ℕ)
lines_left None = []
lines_left (Some rest) = lines_of rest.now

-- how many bytes of a text are left behind a line, its newline among them
abbrev pub bytes_left : Option (Bor (List ℕ)) → ℕ
bytes_left None = 0
bytes_left (Some rest) = 1 + length rest.now

-- Of these lines so many stand before the next one that begins a section; as a text of their own they are this, and the rest follows them.
pub record Cuts (lines : List (List ℕ)) (text : List ℕ) (count : ℕ) (rest : List (List ℕ)) : Type 0 where
  pub body : List (List ℕ)
  pub lines_are : lines ≡ body ++ rest
  pub within : IsWithin body
  pub starts : StartsSection rest
  pub text_is : text ≡ text_of body
  pub count_is : count ≡ length body

-- why a line isn't taken
abbrev pub refusal_at : ℕ → Refused → GroupFault
refusal_at line (refused.Fault kind) = fault.Bad (record { line = line; what = kind })
refusal_at line refused.Memory = fault.Memory

-- The places of a program's labels, and its statements with the places that they name.
use Rattle.std.specs.Prelude.{ℕ, ◌+◌, nat_lt, Bool, false, ◌==◌, if◌then◌else◌, List, [], ◌∷◌, Option, None, Some, Result, Ok, Err}
use Rattle.std.specs.Str.{bytes_eq}
use Rattle.kabi_types.specs.declared.scripts.FaultKind.{FaultKind}
use Rattle.kabi_types.specs.declared.scripts.FaultKind.TheVariants.{NoSuchLabel, WrongWay, TwiceDefined}
use Rattle.kabi_types.specs.declared.scripts.ScriptFault.{ScriptFault}
use Rattle.kabi_types.specs.declared.scripts.Statement.{Statement}
use Rattle.kabi_types.specs.declared.scripts.Statement.TheVariants as statement
use Rattle.posix_defs.specs.declared.said.Spoken.{Spoken}
use Rattle.posix_defs.specs.declared.said.Spoken.TheVariants as spoken
use Rattle.posix_defs.specs.declared.said.Stated.{Stated}
use Rattle.posix_defs.specs.ScriptValues.{with}

-- the line states the label of this name
abbrev pub names : List ℕ → Spoken → Bool
names name (spoken.Label label) = bytes_eq label name
names name (spoken.Whole _) = false
names name (spoken.If _ _ _ _) = false
names name (spoken.Jump _) = false
names name (spoken.Loop _ _) = false

abbrev pub place_in : ℕ → List ℕ → Result Spoken FaultKind → Option ℕ → Option ℕ
place_in at name (Ok said) rest = if names name said then Some at else rest
place_in at name (Err _) rest = rest

-- The place of the first label of a name, from a place on. A line at fault has a place too: where one is, no place is told.
abbrev pub place_from : ℕ → List ℕ → List Stated → Option ℕ
place_from at name [] = None
place_from at name (stated ∷ rest) = place_in at name stated.said (place_from (at + 1) name rest)

-- where another label is noted: the first of a name stays
abbrev pub noted : List ℕ → List ℕ → ℕ → Option ℕ → Option ℕ
noted name label at None = if bytes_eq label name then Some at else None
noted name label at (Some place) = Some place

abbrev pub noted_in : List ℕ → Result Spoken FaultKind → ℕ → Option ℕ → Option ℕ
noted_in name (Ok (spoken.Label label)) at place = noted name label at place
noted_in name (Ok (spoken.Whole _)) at place = place
noted_in name (Ok (spoken.If _ _ _ _)) at place = place
noted_in name (Ok (spoken.Jump _)) at place = place
noted_in name (Ok (spoken.Loop _ _)) at place = place
noted_in name (Err _) at place = place

-- a jump goes to a later place, a loop to an earlier one
abbrev pub later : ℕ → Option ℕ → Result ℕ FaultKind
later at None = Err NoSuchLabel
later at (Some place) = if nat_lt at place then Ok place else Err WrongWay

abbrev pub earlier : ℕ → Option ℕ → Result ℕ FaultKind
earlier at None = Err NoSuchLabel
earlier at (Some place) = if nat_lt place at then Ok place else Err WrongWay

-- a label is the first of its name
abbrev pub first_label : ℕ → List ℕ → Option ℕ → Result Statement FaultKind
first_label at name None = Err TwiceDefined
first_label at name (Some place) = if place == at then Ok (statement.Label name) else Err TwiceDefined

-- the statement at a place, where the labels have these places
abbrev pub placed : (List ℕ → Option ℕ) → ℕ → Spoken → Result Statement FaultKind
placed places at (spoken.Whole said) = Ok said
placed places at (spoken.If left test right label) = with (statement.If left test right) (later at (places label))
placed places at (spoken.Jump label) = with statement.Jump (later at (places label))
placed places at (spoken.Label name) = first_label at name (places name)
placed places at (spoken.Loop register label) = with (statement.Loop register) (earlier at (places label))

abbrev pub placed_in : (List ℕ → Option ℕ) → ℕ → Result Spoken FaultKind → Result Statement FaultKind
placed_in places at (Ok said) = placed places at said
placed_in places at (Err kind) = Err kind

-- a statement before those that follow, or the first fault
abbrev pub before : ℕ → Result Statement FaultKind → Result (List Statement) ScriptFault → Result (List Statement) ScriptFault
before line (Err kind) rest = Err (record { line = line; what = kind })
before line (Ok statement) (Ok rest) = Ok (statement ∷ rest)
before line (Ok statement) (Err fault) = Err fault

-- the statements of a program's lines, from a place on; or the fault of the first line that has one
abbrev pub body_from : (List ℕ → Option ℕ) → ℕ → List Stated → Result (List Statement) ScriptFault
body_from places at [] = Ok []
body_from places at (stated ∷ rest) = before stated.line (placed_in places at stated.said) (body_from places (at + 1) rest)

abbrev pub placed_body : List Stated → Result (List Statement) ScriptFault
placed_body lines = body_from (λ name. place_from 0 name lines) 0 lines

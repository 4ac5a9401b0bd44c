-- A script in its parts: lines outside programs, and programs from their first line to their end.
use Rattle.std.specs.Prelude.{ℕ, ◌+◌, ◌≡◌, Bool, true, false, List, [], ◌∷◌, ◌++◌, Option, None, Some, Result, Ok, Err}
use Rattle.std.specs.List.{All}
use Rattle.kabi_types.specs.declared.scripts.FaultKind.{FaultKind}
use Rattle.posix_defs.specs.declared.said.AtTop.{AtTop}
use Rattle.posix_defs.specs.declared.said.AtTop.TheVariants as top
use Rattle.posix_defs.specs.declared.said.InProgram.{InProgram}
use Rattle.posix_defs.specs.declared.said.InProgram.TheVariants as inside
use Rattle.posix_defs.specs.declared.said.Word.{Word}
use Rattle.posix_defs.specs.ScriptWords.{LineWords}
use Rattle.posix_defs.specs.ScriptValues.{◌>>=◌}
use Rattle.posix_defs.specs.ScriptLines.{said_at_top, said_in_program}

-- a line of a text: its number, and its words, or the fault that it has wherever it stands
pub record Line : Type 0 where
  pub number : ℕ
  pub words : Result (List Word) FaultKind

-- The lines of a text, numbered from this number on.
pub data Lines : ℕ → List (List ℕ) → List Line → Type 0 where
  none : (number : ℕ) → Lines number [] []
  more : (number : ℕ) (first : List ℕ) (texts : List (List ℕ)) (words : Result (List Word) FaultKind) (lines : List Line)
      → LineWords first words → Lines (number + 1) texts lines → Lines number (first ∷ texts) (record { number = number; words = words } ∷ lines)

-- what a line says where no program is open
abbrev pub top_of : Line → Result AtTop FaultKind
top_of line = line.words >>= said_at_top

-- what a line says in a program
abbrev pub inside_of : Line → Result InProgram FaultKind
inside_of line = line.words >>= said_in_program

-- the name of the program that begins with what is said; None where none begins, or the line is at fault
abbrev pub name_begun : Result AtTop FaultKind → Option (List ℕ)
name_begun (Ok (top.Begins name)) = Some name
name_begun (Ok (top.Sets _)) = None
name_begun (Ok top.Silent) = None
name_begun (Err _) = None

-- the name of the program that a line begins
abbrev pub begun : Line → Option (List ℕ)
begun line = name_begun (top_of line)

-- what is said ends a program; a line that is at fault ends none
abbrev pub is_ending : Result InProgram FaultKind → Bool
is_ending (Ok inside.Ends) = true
is_ending (Ok (inside.Says _)) = false
is_ending (Ok inside.Silent) = false
is_ending (Err _) = false

-- the line ends the program that is open
abbrev pub ends : Line → Bool
ends line = is_ending (inside_of line)

-- A part of a text: a line outside programs, or a program from its first line on.
pub data Part : Type 0 where
  -- a line outside programs
  Alone : Line → Part
  -- a program: its first line, its name, and its lines up to its end; None where it has no end
  Program : Line → List ℕ → Option (List Line) → Part

-- The lines of a text fall into these parts.
pub data Parts : List Line → List Part → Type 0 where
  nothing : Parts [] []
  alone : (line : Line) (lines : List Line) (parts : List Part) → begun line ≡ None → Parts lines parts → Parts (line ∷ lines) (Alone line ∷ parts)
  program : (first last : Line) (name : List ℕ) (body lines : List Line) (parts : List Part) → begun first ≡ Some name
      → All (λ line. ends line ≡ false) body → ends last ≡ true → Parts lines parts
      → Parts (first ∷ body ++ last ∷ lines) (Program first name (Some body) ∷ parts)
  unended : (first : Line) (name : List ℕ) (lines : List Line) → begun first ≡ Some name → All (λ line. ends line ≡ false) lines
      → Parts (first ∷ lines) (Program first name None ∷ [])

-- Why a text is no script: for each kind of fault, when a line has it.
use Rattle.std.specs.Prelude.{ℕ, suc, ◌≤◌, ◌<◌, ◌≡◌, ◌⊎◌, Bool, true, false, List, [], ◌∷◌, ◌++◌, Option, None, Some, is_some, Ok, Err}
use Rattle.std.specs.List.{list_any}
use Rattle.kabi_types.specs.declared.scripts.FaultKind.{FaultKind}
use Rattle.kabi_types.specs.declared.scripts.FaultKind.TheVariants.{OutOfRange, NoSuchLabel, WrongWay, TwiceDefined, Unended}
use Rattle.kabi_types.specs.declared.scripts.ScriptFault.{ScriptFault}
use Rattle.posix_defs.specs.declared.said.AtTop.TheVariants as top
use Rattle.posix_defs.specs.declared.said.Setting.{Setting}
use Rattle.posix_defs.specs.declared.said.Setting.TheVariants as setting
use Rattle.posix_defs.specs.declared.said.Spoken.{Spoken}
use Rattle.posix_defs.specs.declared.said.Spoken.TheVariants as spoken
use Rattle.posix_defs.specs.ScriptValues.{rank}
use Rattle.posix_defs.specs.ScriptParts.{Line, Part, Alone, Program, top_of, inside_of}
use Rattle.posix_defs.specs.ScriptMeaning.{spoken_by, label_of, is_named, settings_of, first_of, heap_in, disk_in, steps_in, policy_in, chooser_in}

-- the most programs that a script may have
abbrev pub most_programs : ℕ
most_programs = 64

-- the name of the label that a line of a program is; None where it says something else, or nothing
abbrev pub label_by : Option Spoken → Option (List ℕ)
label_by None = None
label_by (Some said) = label_of said

-- the line is a label of this name
abbrev pub labels : List ℕ → Line → Bool
labels name line = is_named name (label_by (spoken_by line))

-- one of these lines is a label of this name
abbrev pub has_label : List ℕ → List Line → Bool
has_label name lines = list_any (labels name) lines

-- the label that a statement jumps to, which has to stand below it
abbrev pub jump_of : Spoken → Option (List ℕ)
jump_of (spoken.If _ _ _ label) = Some label
jump_of (spoken.Jump label) = Some label
jump_of (spoken.Whole _) = None
jump_of (spoken.Label _) = None
jump_of (spoken.Loop _ _) = None

-- the label that a loop goes back to, which has to stand above it
abbrev pub loop_of : Spoken → Option (List ℕ)
loop_of (spoken.Loop _ label) = Some label
loop_of (spoken.If _ _ _ _) = None
loop_of (spoken.Jump _) = None
loop_of (spoken.Whole _) = None
loop_of (spoken.Label _) = None

-- What is wrong with a line of a program, which stands between these other lines of the program.
pub data LineFault (above : List Line) (line : Line) (below : List Line) : FaultKind → Type 0 where
  -- its words say nothing that may stand there
  unsaid : (kind : FaultKind) → inside_of line ≡ Err kind → LineFault above line below kind
  -- the program has no such label: a jump's, or a loop's
  jumps_nowhere : (said : Spoken) (label : List ℕ) → spoken_by line ≡ Some said → jump_of said ≡ Some label
      → has_label label above ≡ false → has_label label below ≡ false → LineFault above line below NoSuchLabel
  loops_nowhere : (said : Spoken) (label : List ℕ) → spoken_by line ≡ Some said → loop_of said ≡ Some label
      → has_label label above ≡ false → has_label label below ≡ false → LineFault above line below NoSuchLabel
  -- a jump goes backwards, a loop forwards
  jumps_back : (said : Spoken) (label : List ℕ) → spoken_by line ≡ Some said → jump_of said ≡ Some label
      → has_label label above ≡ true → LineFault above line below WrongWay
  loops_ahead : (said : Spoken) (label : List ℕ) → spoken_by line ≡ Some said → loop_of said ≡ Some label
      → has_label label above ≡ false → has_label label below ≡ true → LineFault above line below WrongWay
  -- a label of this name stands above
  labelled_twice : (said : Spoken) (label : List ℕ) → spoken_by line ≡ Some said → label_of said ≡ Some label
      → has_label label above ≡ true → LineFault above line below TwiceDefined

-- a line among these sets the same
abbrev pub is_set_in : List Setting → Setting → Bool
is_set_in settings (setting.Heap _) = is_some (first_of heap_in settings)
is_set_in settings (setting.Disk _) = is_some (first_of disk_in settings)
is_set_in settings (setting.Steps _) = is_some (first_of steps_in settings)
is_set_in settings (setting.Victims _) = is_some (first_of policy_in settings)
is_set_in settings (setting.Choosing _) = is_some (first_of chooser_in settings)

-- the name of the program that a part is; None for a line outside programs
abbrev pub name_of : Part → Option (List ℕ)
name_of (Alone _) = None
name_of (Program _ name _) = Some name

-- one of these parts is a program of this name
abbrev pub has_program : List ℕ → List Part → Bool
has_program name parts = list_any (λ part. is_named name (name_of part)) parts

-- how many of these parts are programs
abbrev pub how_many : List Part → ℕ
how_many [] = 0
how_many (Alone _ ∷ parts) = how_many parts
how_many (Program _ _ _ ∷ parts) = suc (how_many parts)

-- What is wrong with a part of a text, behind these parts: at which line, and which kind of fault.
pub data PartFault (above : List Part) : Part → ℕ → FaultKind → Type 0 where
  -- the words of a line outside programs say nothing that may stand there
  unsaid : (line : Line) (kind : FaultKind) → top_of line ≡ Err kind → PartFault above (Alone line) line.number kind
  -- a line above sets the same
  set_twice : (line : Line) (said : Setting) → top_of line ≡ Ok (top.Sets said) → is_set_in (settings_of above) said ≡ true
      → PartFault above (Alone line) line.number TwiceDefined
  -- there are as many programs above as a script may have
  one_too_many : (first : Line) (name : List ℕ) (body : Option (List Line)) → most_programs ≤ how_many above
      → PartFault above (Program first name body) first.number OutOfRange
  -- a program of this name stands above
  named_twice : (first : Line) (name : List ℕ) (body : Option (List Line)) → has_program name above ≡ true
      → PartFault above (Program first name body) first.number TwiceDefined
  unended : (first : Line) (name : List ℕ) → PartFault above (Program first name None) first.number Unended
  -- a line of the program is at fault
  within : (first line : Line) (name : List ℕ) (before after : List Line) (kind : FaultKind) → LineFault before line after kind
      → PartFault above (Program first name (Some (before ++ line ∷ after))) line.number kind

-- A line of the text has this fault.
pub record HasFault (parts : List Part) (line : ℕ) (kind : FaultKind) : Type 0 where
  pub above : List Part
  pub here : Part
  pub below : List Part
  pub parts_are : parts ≡ above ++ here ∷ below
  pub is_wrong : PartFault above here line kind

-- a fault is told rather than another: it stands on an earlier line, or on the same one with no greater a number
abbrev pub IsToldBefore : ScriptFault → ℕ → FaultKind → Type 0
IsToldBefore fault line kind = (fault.line < line) ⊎ ((fault.line ≡ line) × (rank fault.what ≤ rank kind))

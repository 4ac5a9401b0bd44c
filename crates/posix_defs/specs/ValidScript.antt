-- What every script that some text says promises: its numbers are in their ranges, its registers are there, its jumps go
-- to labels, its calls have the operands that they need.
use Rattle.std.specs.Prelude.{ℕ, ⊤, ◌≡◌, ◌≢◌, ◌<◌, ◌≤◌, ◌%◌, int_le, true, List, [], ◌∷◌, length, Option, None, Some, slice_get, IfSome, IsSome, codes}
use Rattle.std.specs.List.{AllByRecursion}
use Rattle.kabi_types.specs.declared.scripts.Chooser.{Chooser}
use Rattle.kabi_types.specs.declared.scripts.Chooser.TheVariants.{Plain, Choices, Seed}
use Rattle.kabi_types.specs.declared.scripts.Operand.{Operand}
use Rattle.kabi_types.specs.declared.scripts.Operand.TheVariants.{Reg, Number}
use Rattle.kabi_types.specs.declared.scripts.Program.{Program}
use Rattle.kabi_types.specs.declared.scripts.Script.{Script}
use Rattle.kabi_types.specs.declared.scripts.Statement.{Statement}
use Rattle.kabi_types.specs.declared.scripts.Statement.TheVariants as statement
use Rattle.posix_defs.specs.declared.said.Shape.{Shape}
use Rattle.posix_defs.specs.declared.said.Shape.TheVariants as shape
use Rattle.posix_defs.specs.ScriptValues.{is_name, is_path, least_value, greatest_value}
use Rattle.posix_defs.specs.ScriptLines.{shape_of}

-- one of the registers r0 to r15
abbrev pub IsRegister : ℕ → Type 0
IsRegister register = register < 16

-- a register, or a number of 64 bits
abbrev pub IsOperand : Operand → Type 0
IsOperand (Reg register) = IsRegister register
IsOperand (Number value) = (int_le least_value value ≡ true) × (int_le value greatest_value ≡ true)

-- a text of bytes
abbrev pub IsBytes : List ℕ → Type 0
IsBytes text = AllByRecursion (λ byte. byte < 256) text

-- the path of a call
abbrev pub IsPath : List ℕ → Type 0
IsPath text = (is_path text ≡ true) × IsBytes text

-- the bytes of a `store`
abbrev pub IsStored : List ℕ → Type 0
IsStored text = (length text ≤ 64) × IsBytes text

-- so many values, and no text
pub record IsValues (count : ℕ) (values : List Operand) (texts : List (List ℕ)) : Type 0 where
  pub values_are : length values ≡ count
  pub texts_are : texts ≡ []

-- so many values, and one text
pub record HasText (is_text : List ℕ → Type 0) (count : ℕ) (values : List Operand) (texts : List (List ℕ)) : Type 0 where
  pub text : List ℕ
  pub values_are : length values ≡ count
  pub texts_are : texts ≡ text ∷ []
  pub fits : is_text text

-- No value, and two paths, the old one and the new one.
pub record HasTwoPaths (values : List Operand) (texts : List (List ℕ)) : Type 0 where
  pub old : List ℕ
  pub new : List ℕ
  pub values_are : values ≡ []
  pub texts_are : texts ≡ old ∷ new ∷ []
  pub is_old : IsPath old
  pub is_new : IsPath new

-- a timeout, and up to eight pairs
pub record IsPairs (values : List Operand) (texts : List (List ℕ)) : Type 0 where
  pub pairs : length values % 2 ≡ 1
  pub most : length values ≤ 17
  pub texts_are : texts ≡ []

-- the operands have this shape
abbrev pub Fits : Shape → List Operand → List (List ℕ) → Type 0
Fits (shape.Values count) values texts = IsValues count values texts
Fits shape.OnePath values texts = HasText IsPath 0 values texts
Fits shape.TwoPaths values texts = HasTwoPaths values texts
Fits shape.PathValue values texts = HasText IsPath 1 values texts
Fits shape.ValuePath values texts = HasText IsPath 1 values texts
Fits shape.ValueBytes values texts = HasText IsStored 1 values texts
Fits shape.Pairs values texts = IsPairs values texts

-- the statement at a place is a label
abbrev pub IsLabel : List Statement → ℕ → Type 0
IsLabel body place = (name : List ℕ) × (slice_get body place ≡ Some (statement.Label name))

-- a label at this place is the first of its name
abbrev pub IsFirstLabel : List Statement → ℕ → List ℕ → Type 0
IsFirstLabel body at name = (other : ℕ) → other < at → slice_get body other ≢ Some (statement.Label name)

-- a second register is named only behind a first
abbrev pub AreTargets : Option ℕ → Option ℕ → Type 0
AreTargets first None = IfSome first IsRegister
AreTargets first (Some second) = IsSome first × IfSome first IsRegister × IsRegister second

-- a statement at a place of a program: a jump goes to a later label, a loop to an earlier one
abbrev pub IsStatement : List Statement → ℕ → Statement → Type 0
IsStatement body at (statement.Set register value) = IsRegister register × IsOperand value
IsStatement body at (statement.Add register value) = IsRegister register × IsOperand value
IsStatement body at (statement.If left test right place) = IsOperand left × IsOperand right × (at < place) × IsLabel body place
IsStatement body at (statement.Jump place) = (at < place) × IsLabel body place
IsStatement body at (statement.Label name) = (is_name name ≡ true) × IsFirstLabel body at name
IsStatement body at (statement.Loop register place) = IsRegister register × (place < at) × IsLabel body place
IsStatement body at (statement.Invoke kind values texts first second) =
    AllByRecursion IsOperand values × Fits (shape_of kind) values texts × AreTargets first second

-- more statements than any text has
abbrev pub too_many_statements : ℕ
too_many_statements = 1048576

-- A program has a name that a script may give it, not too many statements, and each of them is right where it stands.
pub record IsProgram (program : Program) : Type 0 where
  pub name : is_name program.name ≡ true
  pub short : length program.body < too_many_statements
  pub body : (at : ℕ) → IfSome (slice_get program.body at) (IsStatement program.body at)

-- nobody chooses, or 1 to 1000 numbers of 32 bits do, or a seed up to 2147483647
abbrev pub IsChooser : Chooser → Type 0
IsChooser Plain = ⊤
IsChooser (Choices choices) = (1 ≤ length choices) × (length choices ≤ 1000) × AllByRecursion (λ choice. choice ≤ 4294967295) choices
IsChooser (Seed seed) = seed ≤ 2147483647

-- no program stands at two places under one name
abbrev pub AreApart : List Program → Type 0
AreApart programs = (a b : ℕ) → a < b → IfSome (slice_get programs a) (λ first. IfSome (slice_get programs b) (λ second. first.name ≢ second.name))

-- one of the programs has this name
pub record HasProgram (programs : List Program) (name : List ℕ) : Type 0 where
  pub at : ℕ
  pub program : Program
  pub is_there : slice_get programs at ≡ Some program
  pub is_named : program.name ≡ name

-- Heap in bytes, disk in blocks and steps are within their limits; at most 64 programs differ in name, and one is called `init`.
pub record IsValid (script : Script) : Type 0 where
  pub least_heap : 8192 ≤ script.heap
  pub most_heap : script.heap ≤ 8388608
  pub least_disk : 16 ≤ script.disk
  pub most_disk : script.disk ≤ 4096
  pub least_steps : 1 ≤ script.steps
  pub most_steps : script.steps ≤ 100000
  pub chooser : IsChooser script.chooser
  pub most_programs : length script.programs ≤ 64
  pub programs : AllByRecursion IsProgram script.programs
  pub apart : AreApart script.programs
  pub init : HasProgram script.programs (codes "init")

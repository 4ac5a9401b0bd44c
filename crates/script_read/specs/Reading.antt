-- What the reader's functions give, in the reader's own shapes.
use Rattle.std.specs.Prelude.{ℕ, ⊤, Bool, true, false, None, Some, ◌≡◌, List, [], ◌∷◌, length, Option, Result, Ok, Err}
use Rattle.std.specs.Global.{Global}
use Rattle.std.specs.Prelude.{Vec}
use Rattle.kabi_types.specs.declared.scripts.FaultKind.{FaultKind}
use Rattle.kabi_types.specs.declared.scripts.FaultKind.TheVariants.{UnknownWord}
use Rattle.kabi_types.specs.declared.scripts.Operand.{Operand}
use Rattle.posix_defs.specs.ScriptValues.{◌>>=◌, both, name, register, value}
use Rattle.posix_defs.specs.ScriptLines.{test_said}
use Rattle.kabi_types.specs.declared.scripts.ScriptFault.{ScriptFault}
use Rattle.kabi_types.specs.declared.scripts.Statement.{Statement}
use Rattle.script_read.specs.declared.parse_error.ParseError.{ParseError}
use Rattle.script_read.specs.declared.parse_error.ParseError.TheVariants as error
use Rattle.posix_defs.specs.declared.said.Spoken.{Spoken}
use Rattle.posix_defs.specs.declared.said.Spoken.TheVariants as spoken
use Rattle.posix_defs.specs.declared.said.Word.{Word}
use Rattle.script_words.specs.declared.refused.Refused.{Refused}
use Rattle.script_words.specs.declared.refused.Refused.TheVariants as refused
use Rattle.script_read.specs.Drafting.{Draft, Opened, State, outside, within, step}
use Rattle.posix_defs.specs.ScriptWords.{LineWords}

-- A reader of lines answered this, unless memory ran out.
abbrev pub Outcome : {X Y : Type 0} → (X → Y) → Result X ParseError → (Result Y ScriptFault → Type 0) → Type 0
Outcome view (Ok x) is = is (Ok (view x))
Outcome view (Err (error.Bad fault)) is = is (Err fault)
Outcome view (Err error.Memory) is = ⊤

abbrev pub TellsBody : Result (Vec Statement Global) ParseError → Result (List Statement) ScriptFault → Type 0
TellsBody result body = Outcome (λ body. body.items) result (λ said. said ≡ body)

-- What was to be changed is as it says; where it is at fault, that is told.
abbrev pub Sets : {A : Type 0} → Result (Unit {0}) FaultKind → A → Result A FaultKind → Type 0
Sets (Ok _) new said = said ≡ Ok new
Sets (Err kind) new said = said ≡ Err kind

-- a register, and a value
abbrev pub change_said : List Word → Result (ℕ × Operand) FaultKind
change_said (target ∷ amount ∷ []) = register target >>= λ r. value amount >>= λ v. Ok (r, v)
change_said _ = Err UnknownWord

-- a jump to a label, where a test holds of two values
abbrev pub if_of : Word → Word → Word → Word → Result Spoken FaultKind
if_of left test right label = test_said test >>= λ t. name label >>= λ l. both (value left) (value right) >>= λ p. Ok (spoken.If p.0 t p.1 l)

-- why a line isn't taken
abbrev pub refusal_at : ℕ → Refused → ParseError
refusal_at line (refused.Fault kind) = error.Bad (record { line = line; what = kind })
refusal_at line refused.Memory = error.Memory

-- where the reader stands in a program, or behind it where it has ended
abbrev pub now_at : Draft → Opened → Bool → State
now_at draft opened true = outside draft
now_at draft opened false = within draft opened

-- how many lines of the open program say something
abbrev pub lines_of_opened : Option Opened → ℕ
lines_of_opened None = 0
lines_of_opened (Some opened) = length opened.said

abbrev pub lines_in : State → ℕ
lines_in state = lines_of_opened state.opened

-- a line adds this to a state, or has this fault
abbrev pub TakesLine : State → ℕ → List ℕ → Result State ScriptFault → Type 0
TakesLine state line text next = (words : Result (List Word) FaultKind) × LineWords text words × (next ≡ step state line words)

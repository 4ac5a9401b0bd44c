-- What statements of a few words say, by what their parts say.
use Rattle.std.proofs.Common.{◌≡◌, ℕ, Bool, false, ◌<◌, ◌≤◌, List, [], ◌∷◌, length, Option, Result, Ok, Err, refl, ap, sym, ◌∙◌, arith}
use Rattle.std.specs.Prelude.{codes, if◌then◌else◌}
use Rattle.kabi_types.specs.declared.calls.CallKind.{CallKind}
use Rattle.kabi_types.specs.declared.scripts.FaultKind.{FaultKind}
use Rattle.kabi_types.specs.declared.scripts.FaultKind.TheVariants.{UnknownWord}
use Rattle.kabi_types.specs.declared.scripts.Operand.{Operand}
use Rattle.kabi_types.specs.declared.scripts.Statement.TheVariants as statement
use Rattle.posix_defs.specs.declared.said.InProgram.{InProgram}
use Rattle.posix_defs.specs.declared.said.InProgram.TheVariants as inside
use Rattle.posix_defs.specs.declared.said.Spoken.TheVariants as spoken
use Rattle.posix_defs.specs.declared.said.Word.{Word}
use Rattle.posix_defs.specs.ScriptLines.{add_said, alone, call_of_kind, call_said, jump_said, kind_said, label_said, only, said_in_program, set_said, statement_said}
use Rattle.posix_defs.specs.ScriptValues.{◌>>=◌, is_word, name, register, value, with}
use Rattle.script_read.specs.Reading.{change_said}

abbrev change : ℕ → Operand → Result (ℕ × Operand) FaultKind
change r v = Ok (r, v)

-- the register that is read, and the value beside it
abbrev change_of : Word → Result ℕ FaultKind → Result (ℕ × Operand) FaultKind
change_of amount target = target >>= λ r. value amount >>= change r

pub changed : (words : List Word) (target amount : Word) (r : ℕ) (v : Operand) → words ≡ target ∷ amount ∷ [] → Ok r ≡ register target → Ok v ≡ value amount
    → Ok (r, v) ≡ change_said words
changed words target amount r v are is_target is_amount =
    ap (λ said. said >>= change r) is_amount ∙ ap (change_of amount) is_target ∙ ap change_said (sym are)

pub no_target : (words : List Word) (target amount : Word) (kind : FaultKind) → words ≡ target ∷ amount ∷ [] → Err kind ≡ register target
    → Err kind ≡ change_said words
no_target words target amount kind are is_target = ap (change_of amount) is_target ∙ ap change_said (sym are)

pub no_amount : (words : List Word) (target amount : Word) (r : ℕ) (kind : FaultKind) → words ≡ target ∷ amount ∷ [] → Ok r ≡ register target
    → Err kind ≡ value amount → Err kind ≡ change_said words
no_amount words target amount r kind are is_target is_amount =
    ap (λ said. said >>= change r) is_amount ∙ ap (change_of amount) is_target ∙ ap change_said (sym are)

-- fewer words, or more
pub too_few : (words : List Word) → length words < 2 → Err UnknownWord ≡ change_said words
too_few [] few = refl
too_few (a ∷ []) few = refl
too_few (a ∷ b ∷ rest) few = absurd (omega (arith, few))

pub too_many : (words : List Word) → 3 ≤ length words → Err UnknownWord ≡ change_said words
too_many [] many = refl
too_many (a ∷ []) many = refl
too_many (a ∷ b ∷ []) many = absurd (omega (arith, many))
too_many (a ∷ b ∷ c ∷ rest) many = refl

-- a register and a value, set or added
pub set_is : (words : List Word) → (change_said words >>= λ p. Ok (spoken.Whole (statement.Set p.0 p.1))) ≡ set_said words
set_is [] = refl
set_is (a ∷ []) = refl
set_is (target ∷ amount ∷ []) = go (register target)
  where
    go : (r : Result ℕ FaultKind) → (r >>= λ r. value amount >>= change r) >>= (λ p. Ok (spoken.Whole (statement.Set p.0 p.1)))
        ≡ (r >>= λ r. value amount >>= λ v. Ok (spoken.Whole (statement.Set r v)))
    go (Ok r) = more (value amount)
      where
        more : (v : Result Operand FaultKind) → (v >>= change r) >>= (λ p. Ok (spoken.Whole (statement.Set p.0 p.1))) ≡ (v >>= λ v. Ok (spoken.Whole (statement.Set r v)))
        more (Ok v) = refl
        more (Err e) = refl
    go (Err e) = refl
set_is (a ∷ b ∷ c ∷ rest) = refl

pub add_is : (words : List Word) → (change_said words >>= λ p. Ok (spoken.Whole (statement.Add p.0 p.1))) ≡ add_said words
add_is [] = refl
add_is (a ∷ []) = refl
add_is (target ∷ amount ∷ []) = go (register target)
  where
    go : (r : Result ℕ FaultKind) → (r >>= λ r. value amount >>= change r) >>= (λ p. Ok (spoken.Whole (statement.Add p.0 p.1)))
        ≡ (r >>= λ r. value amount >>= λ v. Ok (spoken.Whole (statement.Add r v)))
    go (Ok r) = more (value amount)
      where
        more : (v : Result Operand FaultKind) → (v >>= change r) >>= (λ p. Ok (spoken.Whole (statement.Add p.0 p.1))) ≡ (v >>= λ v. Ok (spoken.Whole (statement.Add r v)))
        more (Ok v) = refl
        more (Err e) = refl
    go (Err e) = refl
add_is (a ∷ b ∷ c ∷ rest) = refl

-- the one word of a jump, or of a label
pub jump_is : (words : List Word) → with spoken.Jump (only name words) ≡ jump_said words
jump_is [] = refl
jump_is (label ∷ []) = refl
jump_is (a ∷ b ∷ rest) = refl

pub label_is : (words : List Word) → with spoken.Label (only name words) ≡ label_said words
label_is [] = refl
label_is (label ∷ []) = refl
label_is (a ∷ b ∷ rest) = refl

-- a line of a program, by its first word
abbrev line_by : Word → List Word → Bool → Result InProgram FaultKind
line_by first words ends = if ends then alone inside.Ends words else with inside.Says (statement_said first words)

pub silent : (words : List Word) → length words ≡ 0 → Ok inside.Silent ≡ said_in_program words
silent [] none = refl
silent (a ∷ rest) none = absurd (omega (arith, none))

pub says : (words : List Word) (first : Word) (rest : List Word) → words ≡ first ∷ rest → false ≡ is_word (codes "end") first
    → with inside.Says (statement_said first rest) ≡ said_in_program words
says words first rest are goes_on = ap (line_by first rest) goes_on ∙ ap said_in_program (sym are)

-- a call, by the kind that its word names
pub called : (first second : Option ℕ) (words : List Word) (word : Word) (rest : List Word) (kind : Option CallKind) → words ≡ word ∷ rest → kind ≡ kind_said word
    → call_of_kind first second kind rest ≡ call_said first second words
called first second words word rest kind are is = ap (λ k. call_of_kind first second k rest) is ∙ ap (call_said first second) (sym are)

pub not_called : (first second : Option ℕ) (words : List Word) → length words ≡ 0 → Err UnknownWord ≡ call_said first second words
not_called first second [] none = refl
not_called first second (a ∷ rest) none = absurd (omega (arith, none))

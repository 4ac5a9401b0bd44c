-- What the functions on words give, in their own shapes.
use Rattle.std.specs.Prelude.{ℕ, ⊤, None, Some, ◌<◌, ◌≡◌, List, [], ◌∷◌, length, Option, IfSome, MatchOption, Result, Ok, Err}
use Rattle.std.specs.Borrow.{Bor}
use Rattle.kabi_types.specs.declared.scripts.FaultKind.{FaultKind}
use Rattle.kabi_types.specs.declared.scripts.Operand.{Operand}
use Rattle.posix_defs.specs.ScriptValues.{least, both, with}
use Rattle.posix_defs.specs.ScriptLines.{CallOperands}
use Rattle.posix_defs.specs.declared.said.Word.{Word}
use Rattle.script_words.specs.declared.refused.Refused.{Refused}
use Rattle.script_words.specs.declared.refused.Refused.TheVariants as refused
use Rattle.posix_defs.specs.ScriptWords.{Words, with_word}

-- what follows is shorter than what was given
abbrev pub IsShorter : List ℕ → Option (Option ℕ × Bor (List ℕ)) → Type 0
IsShorter bytes said = IfSome said (λ p. length p.1.now < length bytes)

-- Of a line that begins so, no words are had; or this word, and what stands before the rest of the line's words.
abbrev pub BeginsWith : List ℕ → Option (Word × Bor (List ℕ)) → Type 0
BeginsWith line found =
    MatchOption found (Words line None)
    (λ p. (length p.1.now < length line) × ((said : Option (List Word)) → Words p.1.now said → Words line (with_word p.0 said)))

-- What was answered, seen by view, is so; unless memory ran out.
abbrev pub Tells : {X Y : Type 0} → (X → Y) → Result X Refused → (Result Y FaultKind → Type 0) → Type 0
Tells view (Ok x) is = is (Ok (view x))
Tells view (Err (refused.Fault kind)) is = is (Err kind)
Tells view (Err refused.Memory) is = ⊤

abbrev pub least_with : Option FaultKind → FaultKind → FaultKind
least_with None kind = kind
least_with (Some before) kind = least before kind

-- two answers, joined: whatever each of the two tells, both tell it together
abbrev pub BothTell : {A B : Type 0} → Result A Refused → Result B Refused → Result (A × B) Refused → Type 0
BothTell {A} {B} first second joined =
    (a : Result A FaultKind) (b : Result B FaultKind) → Tells (λ said. said) first (λ said. said ≡ a) → Tells (λ said. said) second (λ said. said ≡ b)
    → Tells (λ said. said) joined (λ said. said ≡ both a b)

-- a value and a text, joined as a call's operands: whatever the text tells
abbrev pub TellOneOfEach : Result Operand FaultKind → Result (List ℕ) Refused → Result CallOperands Refused → Type 0
TellOneOfEach value text joined =
    (t : Result (List ℕ) FaultKind) → Tells (λ said. said) text (λ said. said ≡ t)
    → Tells (λ said. said) joined (λ said. said ≡ with (λ p. (p.0 ∷ [], p.1 ∷ [])) (both value t))

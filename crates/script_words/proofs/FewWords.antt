-- A line's words, where there are just a few of them.
use Rattle.std.proofs.Common.{◌≡◌, ℕ, ◌≤◌, ◌<◌, List, [], ◌∷◌, ◌∙◌, length, get_or, Result, Ok, Err, refl, ap, sym, arith}
use Rattle.kabi_types.specs.declared.scripts.FaultKind.{FaultKind}
use Rattle.kabi_types.specs.declared.scripts.FaultKind.TheVariants as fault
use Rattle.kabi_types.specs.declared.scripts.Operand.{Operand}
use Rattle.posix_defs.specs.declared.said.Word.{Word}
use Rattle.posix_defs.specs.ScriptLines.{CallOperands}
use Rattle.posix_defs.specs.ScriptValues.{both, least, with}

pub two_are : (words : List Word) (first second : Word) → 2 ≤ length words → length words < 3 → first ≡ get_or words 0 first → second ≡ get_or words 1 second
    → words ≡ first ∷ second ∷ []
two_are [] first second least most is_first is_second = absurd (omega (arith, least))
two_are (a ∷ []) first second least most is_first is_second = absurd (omega (arith, least))
two_are (a ∷ b ∷ []) first second least most is_first is_second = ap (λ w. w ∷ b ∷ []) (sym is_first) ∙ ap (λ w. first ∷ w ∷ []) (sym is_second)
two_are (a ∷ b ∷ c ∷ rest) first second least most is_first is_second = absurd (omega (arith, most))

pub four_are : (words : List Word) (first second third fourth : Word) → 4 ≤ length words → length words < 5
    → first ≡ get_or words 0 first → second ≡ get_or words 1 second → third ≡ get_or words 2 third → fourth ≡ get_or words 3 fourth
    → words ≡ first ∷ second ∷ third ∷ fourth ∷ []
four_are [] first second third fourth least most is_first is_second is_third is_fourth = absurd (omega (arith, least))
four_are (a ∷ []) first second third fourth least most is_first is_second is_third is_fourth = absurd (omega (arith, least))
four_are (a ∷ b ∷ []) first second third fourth least most is_first is_second is_third is_fourth = absurd (omega (arith, least))
four_are (a ∷ b ∷ c ∷ []) first second third fourth least most is_first is_second is_third is_fourth = absurd (omega (arith, least))
four_are (a ∷ b ∷ c ∷ d ∷ []) first second third fourth least most is_first is_second is_third is_fourth =
    ap (λ w. w ∷ b ∷ c ∷ d ∷ []) (sym is_first) ∙ ap (λ w. first ∷ w ∷ c ∷ d ∷ []) (sym is_second)
    ∙ ap (λ w. first ∷ second ∷ w ∷ d ∷ []) (sym is_third) ∙ ap (λ w. first ∷ second ∷ third ∷ w ∷ []) (sym is_fourth)
four_are (a ∷ b ∷ c ∷ d ∷ e ∷ rest) first second third fourth least most is_first is_second is_third is_fourth = absurd (omega (arith, most))

-- The least fault of two is the same, whichever stands first.
least_same : (a b : FaultKind) → least a b ≡ least b a
least_same fault.NotUtf8 fault.NotUtf8 = refl
least_same fault.UnknownWord fault.NotUtf8 = refl
least_same fault.BadNumber fault.NotUtf8 = refl
least_same fault.OutOfRange fault.NotUtf8 = refl
least_same fault.NoSuchLabel fault.NotUtf8 = refl
least_same fault.WrongWay fault.NotUtf8 = refl
least_same fault.TwiceDefined fault.NotUtf8 = refl
least_same fault.Unended fault.NotUtf8 = refl
least_same fault.NoInit fault.NotUtf8 = refl
least_same fault.TooLong fault.NotUtf8 = refl
least_same a b = refl

abbrev pub of_value_and_text : Operand × List ℕ → CallOperands
of_value_and_text p = (p.0 ∷ [], p.1 ∷ [])

abbrev pub of_text_and_value : List ℕ × Operand → CallOperands
of_text_and_value p = (p.1 ∷ [], p.0 ∷ [])

-- a value and a text, read in either order
pub swapped : (v : Result Operand FaultKind) (t : Result (List ℕ) FaultKind) → with of_value_and_text (both v t) ≡ with of_text_and_value (both t v)
swapped (Ok a) (Ok b) = refl
swapped (Ok a) (Err f) = refl
swapped (Err e) (Ok b) = refl
swapped (Err e) (Err f) = ap Err (least_same e f)

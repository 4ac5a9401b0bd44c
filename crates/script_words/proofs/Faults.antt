-- The least of the faults so far, and of those that follow.
use Rattle.std.proofs.Common.{◌≡◌, ℕ, Bool, true, false, List, [], ◌∷◌, ◌++◌, Option, None, Some, Result, Ok, Err, refl, sym, ap, ◌∙◌, arith}
use Rattle.std.specs.Prelude.{nat_le, if◌then◌else◌}
use Rattle.std.proofs.lemmas.List.{append_assoc}
use Rattle.kabi_types.specs.declared.scripts.FaultKind.{FaultKind}
use Rattle.posix_defs.specs.ScriptValues.{rank, least, both, with}
use Rattle.script_words.specs.Telling.{least_with}

abbrev pub so_far : {A : Type 0} → Option FaultKind → List A → Result (List A) FaultKind
so_far None items = Ok items
so_far (Some kind) items = Err kind

-- what was said, and what follows it
abbrev pub joined : {A : Type 0} → Result (List A) FaultKind → Result (List A) FaultKind → Result (List A) FaultKind
joined first second = with (λ p. p.0 ++ p.1) (both first second)

-- what a word says, and what follows it
abbrev pub followed : {A : Type 0} → Result A FaultKind → Result (List A) FaultKind → Result (List A) FaultKind
followed word rest = with (λ p. p.0 ∷ p.1) (both word rest)

up : (a b c : ℕ) → nat_le a b ≡ true → nat_le b c ≡ true → nat_le a c ≡ true
up a b c first second = grind (arith, first, second)

down : (a b c : ℕ) → nat_le a b ≡ false → nat_le b c ≡ false → nat_le a c ≡ false
down a b c first second = grind (arith, first, second)

pick_assoc : (e f g : FaultKind) (ef fg : Bool) → nat_le (rank e) (rank f) ≡ ef → nat_le (rank f) (rank g) ≡ fg
    → (if nat_le (rank (if ef then e else f)) (rank g) then (if ef then e else f) else g)
    ≡ (if nat_le (rank e) (rank (if fg then f else g)) then e else (if fg then f else g))
pick_assoc e f g true true first second =
    ap (λ b. if b then e else g) (up (rank e) (rank f) (rank g) first second) ∙ sym (ap (λ b. if b then e else f) first)
pick_assoc e f g true false first second = refl
pick_assoc e f g false true first second = ap (λ b. if b then f else g) second ∙ sym (ap (λ b. if b then e else f) first)
pick_assoc e f g false false first second =
    ap (λ b. if b then f else g) second ∙ sym (ap (λ b. if b then e else g) (down (rank e) (rank f) (rank g) first second))

-- the least of three, either way
least_assoc : (e f g : FaultKind) → least (least e f) g ≡ least e (least f g)
least_assoc e f g = pick_assoc e f g (nat_le (rank e) (rank f)) (nat_le (rank f) (rank g)) refl refl

pub said_more : {A : Type 0} (fault : Option FaultKind) (items : List A) (item : A) (rest : Result (List A) FaultKind)
    → joined (so_far fault items) (followed (Ok item) rest) ≡ joined (so_far fault (items ++ item ∷ [])) rest
said_more None items item (Ok more) = ap Ok (sym (append_assoc items (item ∷ []) more))
said_more None items item (Err kind) = refl
said_more (Some kind) items item (Ok more) = refl
said_more (Some kind) items item (Err other) = refl

pub fault_more : {A : Type 0} (fault : Option FaultKind) (items : List A) (kind : FaultKind) (rest : Result (List A) FaultKind)
    → joined (so_far fault items) (followed (Err kind) rest) ≡ joined (so_far (Some (least_with fault kind)) items) rest
fault_more None items kind (Ok more) = refl
fault_more None items kind (Err other) = refl
fault_more (Some before) items kind (Ok more) = refl
fault_more (Some before) items kind (Err other) = ap Err (sym (least_assoc before kind other))

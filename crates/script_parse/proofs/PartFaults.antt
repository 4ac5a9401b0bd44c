-- What is wrong with the parts of a text, as a function finds it.
use Rattle.std.proofs.Common.{◌≡◌, ℕ, ◌+◌, ◌<◌, ◌≤◌, Bool, true, false, List, [], ◌∷◌, ◌++◌, length, Option, None, Some, Result, Ok, Err, refl, sym, ap, ◌∙◌, subst, arith}
use Rattle.std.specs.Prelude.{⊤, nat_le, if◌then◌else◌, is_some}
use Rattle.kabi_types.specs.declared.scripts.FaultKind.{FaultKind}
use Rattle.kabi_types.specs.declared.scripts.FaultKind.TheVariants.{OutOfRange, TwiceDefined, Unended}
use Rattle.kabi_types.specs.declared.scripts.ScriptFault.{ScriptFault}
use Rattle.posix_defs.specs.declared.said.AtTop.{AtTop}
use Rattle.posix_defs.specs.declared.said.AtTop.TheVariants as top
use Rattle.posix_defs.specs.declared.said.Setting.{Setting}
use Rattle.posix_defs.specs.ScriptParts.{Line, top_of, Part, Alone, Program}
use Rattle.posix_defs.specs.ScriptMeaning.{or_next, settings_of}
use Rattle.posix_defs.specs.ScriptFaults.{most_programs, how_many, has_program, is_set_in, LineFault, PartFault, unsaid, set_twice, one_too_many, named_twice, unended, within}
use Rattle.script_parse.proofs.LineFaults.{fault_is}
use Rattle.script_parse.proofs.Bodies.{wrong_in}
use Rattle.script_parse.proofs.FirstFaults.{From, from_least, of_some, clean_at, is_there}

abbrev pub fault_of : ℕ → FaultKind → ScriptFault
fault_of number kind = record { line = number; what = kind }

abbrev pub top_fault : List Part → ℕ → Result AtTop FaultKind → Option ScriptFault
top_fault above number (Err kind) = Some (fault_of number kind)
top_fault above number (Ok top.Silent) = None
top_fault above number (Ok (top.Sets said)) = if is_set_in (settings_of above) said then Some (fault_of number TwiceDefined) else None
top_fault above number (Ok (top.Begins _)) = None

abbrev pub body_fault : ℕ → Option (List Line) → Option ScriptFault
body_fault number None = Some (fault_of number Unended)
body_fault number (Some body) = wrong_in [] body

abbrev pub program_fault : Bool → Bool → ℕ → Option (List Line) → Option ScriptFault
program_fault true again number body = Some (fault_of number OutOfRange)
program_fault false true number body = Some (fault_of number TwiceDefined)
program_fault false false number body = body_fault number body

-- the first fault of a part, behind those above
abbrev pub part_fault : List Part → Part → Option ScriptFault
part_fault above (Alone line) = top_fault above line.number (top_of line)
part_fault above (Program first name body) = program_fault (nat_le most_programs (how_many above)) (has_program name above) first.number body

-- the first fault of these parts, behind those above
abbrev pub wrong_parts : List Part → List Part → Option ScriptFault
wrong_parts above [] = None
wrong_parts above (part ∷ parts) = or_next (part_fault above part) (wrong_parts (above ++ part ∷ []) parts)

-- the number of the line behind a part, whose lines are numbered from here on
abbrev pub past : ℕ → Part → ℕ
past n (Alone _) = n + 1
past n (Program _ _ (Some body)) = n + 1 + length body + 1
past n (Program _ _ None) = n + 1

abbrev pub At : ℕ → Part → Type 0
At n (Alone line) = line.number ≡ n
At n (Program first _ (Some body)) = (first.number ≡ n) × From (n + 1) body
At n (Program first _ None) = first.number ≡ n

-- the lines of these parts are numbered from here on
abbrev pub Counted : ℕ → List Part → Type 0
Counted n [] = ⊤
Counted n (part ∷ parts) = At n part × Counted (past n part) parts

past_more : (n : ℕ) (part : Part) → n < past n part
past_more n (Alone line) = omega arith
past_more n (Program first name (Some body)) = omega arith
past_more n (Program first name None) = omega arith

from_most : (n : ℕ) (front : List Line) (line : Line) (back : List Line) → From n (front ++ line ∷ back) → line.number < n + length (front ++ line ∷ back)
from_most n [] line back from = omega (arith, from.0)
from_most n (first ∷ front) line back from = omega (arith, from_most (n + 1) front line back from.1)

begins_at : (n : ℕ) (first : Line) (name : List ℕ) (body : Option (List Line)) → At n (Program first name body) → first.number ≡ n
begins_at n first name None at = at
begins_at n first name (Some body) at = at.0

-- a fault of a part stands on one of its lines
pub within_part : (n : ℕ) (above : List Part) (part : Part) (line : ℕ) (kind : FaultKind) → At n part → PartFault above part line kind
    → (n ≤ line) × (line < past n part)
within_part n above _ _ _ at (unsaid line kind is) = (omega (arith, at), omega (arith, at))
within_part n above _ _ _ at (set_twice line said says is) = (omega (arith, at), omega (arith, at))
within_part n above _ _ _ at (one_too_many first name body most) =
    (omega (arith, begins_at n first name body at), omega (arith, begins_at n first name body at, past_more n (Program first name body)))
within_part n above _ _ _ at (named_twice first name body again) =
    (omega (arith, begins_at n first name body at), omega (arith, begins_at n first name body at, past_more n (Program first name body)))
within_part n above _ _ _ at (unended first name) = (omega (arith, at), omega (arith, at))
within_part n above _ _ _ at (within first line name front back kind wrong) =
    (omega (arith, from_least (n + 1) front line back at.1), omega (arith, from_most (n + 1) front line back at.1))

-- a fault of a later part stands on a later line
pub least_on : (n : ℕ) (front : List Part) (here : Part) (back above : List Part) (line : ℕ) (kind : FaultKind) → Counted n (front ++ here ∷ back)
    → PartFault above here line kind → n ≤ line
least_on n [] here back above line kind counted wrong = (within_part n above here line kind counted.0 wrong).0
least_on n (part ∷ front) here back above line kind counted wrong =
    omega (arith, past_more n part, least_on (past n part) front here back above line kind counted.1 wrong)

-- what the function finds is wrong

as_told : (above : List Part) (part : Part) (found fault : ScriptFault) → Some found ≡ Some fault → PartFault above part found.line found.what
    → PartFault above part fault.line fault.what
as_told above part found fault is wrong = subst (λ f. PartFault above part f.line f.what) (of_some found fault is) wrong

set_has : (above : List Part) (line : Line) (said : Setting) (fault : ScriptFault) (is_set : Bool) → top_of line ≡ Ok (top.Sets said)
    → is_set_in (settings_of above) said ≡ is_set → (if is_set then Some (fault_of line.number TwiceDefined) else None) ≡ Some fault
    → PartFault above (Alone line) fault.line fault.what
set_has above line said fault true says again is = as_told above (Alone line) (fault_of line.number TwiceDefined) fault is (set_twice line said says again)
set_has above line said fault false says again is = let wrong : false ≡ true = ap is_some is in absurd cc

top_has : (above : List Part) (line : Line) (fault : ScriptFault) (told : Result AtTop FaultKind) → top_of line ≡ told
    → top_fault above line.number told ≡ Some fault → PartFault above (Alone line) fault.line fault.what
top_has above line fault (Err kind) tells is = as_told above (Alone line) (fault_of line.number kind) fault is (unsaid line kind tells)
top_has above line fault (Ok top.Silent) tells is = let wrong : false ≡ true = ap is_some is in absurd cc
top_has above line fault (Ok (top.Begins name)) tells is = let wrong : false ≡ true = ap is_some is in absurd cc
top_has above line fault (Ok (top.Sets said)) tells is = set_has above line said fault (is_set_in (settings_of above) said) tells refl is

body_has : (above : List Part) (first : Line) (name : List ℕ) (fault : ScriptFault) (body : Option (List Line)) → body_fault first.number body ≡ Some fault
    → PartFault above (Program first name body) fault.line fault.what
body_has above first name fault None is =
    as_told above (Program first name None) (fault_of first.number Unended) fault is (unended first name)
body_has above first name fault (Some body) is =
    let there = is_there [] body fault is in
    subst (λ b. PartFault above (Program first name (Some b)) fault.line fault.what) there.lines_are
    (subst (λ l. PartFault above (Program first name (Some (there.front ++ there.line ∷ there.back))) l fault.what) there.number
    (within first there.line name there.front there.back fault.what there.wrong))

program_has : (above : List Part) (first : Line) (name : List ℕ) (fault : ScriptFault) (body : Option (List Line)) (full again : Bool)
    → nat_le most_programs (how_many above) ≡ full → has_program name above ≡ again → program_fault full again first.number body ≡ Some fault
    → PartFault above (Program first name body) fault.line fault.what
program_has above first name fault body true again is_full is_again is =
    as_told above (Program first name body) (fault_of first.number OutOfRange) fault is (one_too_many first name body (grind (arith, is_full)))
program_has above first name fault body false true is_full is_again is =
    as_told above (Program first name body) (fault_of first.number TwiceDefined) fault is (named_twice first name body is_again)
program_has above first name fault body false false is_full is_again is = body_has above first name fault body is

pub part_has : (above : List Part) (part : Part) (fault : ScriptFault) → part_fault above part ≡ Some fault → PartFault above part fault.line fault.what
part_has above (Alone line) fault is = top_has above line fault (top_of line) refl is
part_has above (Program first name body) fault is =
    program_has above first name fault body (nat_le most_programs (how_many above)) (has_program name above) refl refl is

-- a part without a fault has none

full_is : (above : List Part) → most_programs ≤ how_many above → nat_le most_programs (how_many above) ≡ true
full_is above most = grind (arith, most)

-- whatever is wrong with a program is found
begun_wrong : (first : Line) (full again : Bool) (body : Option (List Line)) → (full ≡ true) → is_some (program_fault full again first.number body) ≡ true
begun_wrong first true again body is = refl
begun_wrong first false again body is = let wrong : false ≡ true = is in absurd cc

named_wrong : (first : Line) (full again : Bool) (body : Option (List Line)) → (again ≡ true) → is_some (program_fault full again first.number body) ≡ true
named_wrong first true again body is = refl
named_wrong first false true body is = refl
named_wrong first false false body is = let wrong : false ≡ true = is in absurd cc

unended_wrong : (first : Line) (full again : Bool) → is_some (program_fault full again first.number None) ≡ true
unended_wrong first true again = refl
unended_wrong first false true = refl
unended_wrong first false false = refl

body_wrong : (first : Line) (full again : Bool) (body : List Line) → is_some (wrong_in [] body) ≡ true → is_some (program_fault full again first.number (Some body)) ≡ true
body_wrong first true again body is = refl
body_wrong first false true body is = refl
body_wrong first false false body is = is

some_of : (found : Option ScriptFault) → (found ≡ None → is_some found ≡ true) → is_some found ≡ true
some_of None none = none refl
some_of (Some fault) none = refl

line_wrong : (front : List Line) (line : Line) (back : List Line) (kind : FaultKind) → LineFault front line back kind → is_some (wrong_in [] (front ++ line ∷ back)) ≡ true
line_wrong front line back kind wrong = some_of (wrong_in [] (front ++ line ∷ back)) (λ clean.
    let none : false ≡ true = ap is_some (sym (clean_at [] front line back clean) ∙ fault_is front line back kind wrong) in absurd cc)

pub part_wrong : (above : List Part) (part : Part) (line : ℕ) (kind : FaultKind) → PartFault above part line kind → is_some (part_fault above part) ≡ true
part_wrong above _ _ _ (unsaid line kind is) = ap (λ t. is_some (top_fault above line.number t)) is
part_wrong above _ _ _ (set_twice line said says is) =
    ap (λ t. is_some (top_fault above line.number t)) says ∙ ap (λ b. is_some (if b then Some (fault_of line.number TwiceDefined) else None)) is
part_wrong above _ _ _ (one_too_many first name body most) =
    begun_wrong first (nat_le most_programs (how_many above)) (has_program name above) body (full_is above most)
part_wrong above _ _ _ (named_twice first name body again) =
    named_wrong first (nat_le most_programs (how_many above)) (has_program name above) body again
part_wrong above _ _ _ (unended first name) = unended_wrong first (nat_le most_programs (how_many above)) (has_program name above)
part_wrong above _ _ _ (within first line name front back kind wrong) =
    body_wrong first (nat_le most_programs (how_many above)) (has_program name above) (front ++ line ∷ back) (line_wrong front line back kind wrong)

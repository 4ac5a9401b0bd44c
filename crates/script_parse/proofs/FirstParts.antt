-- The first part of a text that is at fault: every other fault of the text is told after its own.
use Rattle.std.proofs.Common.{◌≡◌, ℕ, ◌+◌, ◌<◌, ◌≤◌, Bool, true, false, List, [], ◌∷◌, ◌++◌, Option, None, Some, refl, sym, ap, ◌∙◌, subst, append_assoc, append-nil, arith, inl, inr}
use Rattle.std.specs.Prelude.{nat_le, if◌then◌else◌, is_some}
use Rattle.kabi_types.specs.declared.scripts.FaultKind.{FaultKind}
use Rattle.kabi_types.specs.declared.scripts.FaultKind.TheVariants.{OutOfRange, TwiceDefined, Unended}
use Rattle.kabi_types.specs.declared.scripts.ScriptFault.{ScriptFault}
use Rattle.posix_defs.specs.ScriptValues.{rank}
use Rattle.posix_defs.specs.ScriptParts.{Line, Part}
use Rattle.posix_defs.specs.ScriptMeaning.{or_next}
use Rattle.posix_defs.specs.ScriptFaults.{most_programs, how_many, has_program, HasFault, IsToldBefore, LineFault, PartFault, unsaid, set_twice, one_too_many, named_twice, unended, within}
use Rattle.posix_defs.specs.ScriptText.{IsClean}
use Rattle.script_parse.proofs.LineFaults.{fault_is}
use Rattle.script_parse.proofs.FirstFaults.{From, from_least, of_some, none_of, first_at}
use Rattle.script_parse.proofs.PartFaults.{fault_of, top_fault, program_fault, part_fault, wrong_parts, past, At, Counted, within_part, least_on, part_has, part_wrong}

told_as : (fault : ScriptFault) (line : ℕ) (what kind : FaultKind) → Some (fault_of line what) ≡ Some fault → rank what ≤ rank kind → IsToldBefore fault line kind
told_as fault line what kind is less =
    let it = of_some (fault_of line what) fault is in
    let same : rank what ≡ rank fault.what = ap (λ f. rank f.what) it in
    inr (ap (λ f. f.line) (sym it), omega (arith, same, less))

told_above : (fault : ScriptFault) (first line : ℕ) (what kind : FaultKind) → Some (fault_of first what) ≡ Some fault → first < line → IsToldBefore fault line kind
told_above fault first line what kind is less =
    let same : first ≡ fault.line = ap (λ f. f.line) (of_some (fault_of first what) fault is) in
    inl (omega (arith, same, less))

-- The cause that a program's first line holds, and what is found.
full_first : (first : ℕ) (body : Option (List Line)) (fault : ScriptFault) (full again : Bool) → full ≡ true
    → program_fault full again first body ≡ Some fault → IsToldBefore fault first OutOfRange
full_first first body fault true again is_full is = told_as fault first OutOfRange OutOfRange is (omega arith)
full_first first body fault false again is_full is = let wrong : false ≡ true = is_full in absurd cc

again_first : (first : ℕ) (body : Option (List Line)) (fault : ScriptFault) (full again : Bool) → again ≡ true
    → program_fault full again first body ≡ Some fault → IsToldBefore fault first TwiceDefined
again_first first body fault true again is_again is = told_as fault first OutOfRange TwiceDefined is (omega arith)
again_first first body fault false true is_again is = told_as fault first TwiceDefined TwiceDefined is (omega arith)
again_first first body fault false false is_again is = let wrong : false ≡ true = is_again in absurd cc

unended_first : (first : ℕ) (fault : ScriptFault) (full again : Bool) → program_fault full again first None ≡ Some fault → IsToldBefore fault first Unended
unended_first first fault true again is = told_as fault first OutOfRange Unended is (omega arith)
unended_first first fault false true is = told_as fault first TwiceDefined Unended is (omega arith)
unended_first first fault false false is = told_as fault first Unended Unended is (omega arith)

line_first : (first n : ℕ) (fault : ScriptFault) (full again : Bool) (front : List Line) (line : Line) (back : List Line) (kind : FaultKind)
    → first ≡ n → From (n + 1) (front ++ line ∷ back) → LineFault front line back kind
    → program_fault full again first (Some (front ++ line ∷ back)) ≡ Some fault → IsToldBefore fault line.number kind
line_first first n fault true again front line back kind at from wrong is =
    told_above fault first line.number OutOfRange kind is (omega (arith, at, from_least (n + 1) front line back from))
line_first first n fault false true front line back kind at from wrong is =
    told_above fault first line.number TwiceDefined kind is (omega (arith, at, from_least (n + 1) front line back from))
line_first first n fault false false front line back kind at from wrong is =
    first_at [] front line back fault kind (n + 1) is from (fault_is front line back kind wrong)

-- the fault that is found of a part is told before its others
same_part : (n : ℕ) (above : List Part) (part : Part) (fault : ScriptFault) (line : ℕ) (kind : FaultKind) → At n part
    → part_fault above part ≡ Some fault → PartFault above part line kind → IsToldBefore fault line kind
same_part n above _ fault _ _ at is (unsaid line kind says) =
    told_as fault line.number kind kind (sym (ap (top_fault above line.number) says) ∙ is) (omega arith)
same_part n above _ fault _ _ at is (set_twice line said says again) =
    told_as fault line.number TwiceDefined TwiceDefined
    (sym (ap (top_fault above line.number) says ∙ ap (λ b. if b then Some (fault_of line.number TwiceDefined) else None) again) ∙ is) (omega arith)
same_part n above _ fault _ _ at is (one_too_many first name body most) =
    full_first first.number body fault (nat_le most_programs (how_many above)) (has_program name above) (grind (arith, most)) is
same_part n above _ fault _ _ at is (named_twice first name body again) =
    again_first first.number body fault (nat_le most_programs (how_many above)) (has_program name above) again is
same_part n above _ fault _ _ at is (unended first name) =
    unended_first first.number fault (nat_le most_programs (how_many above)) (has_program name above) is
same_part n above _ fault _ _ at is (within first line name front back kind wrong) =
    line_first first.number n fault (nat_le most_programs (how_many above)) (has_program name above) front line back kind at.0 at.1 wrong is

later_part : (n : ℕ) (above : List Part) (part : Part) (fault : ScriptFault) (rest : Option ScriptFault) (line : ℕ) (kind : FaultKind) (found : Option ScriptFault)
    → part_fault above part ≡ found → or_next found rest ≡ Some fault → At n part → past n part ≤ line
    → (rest ≡ Some fault → IsToldBefore fault line kind) → IsToldBefore fault line kind
later_part n above part fault rest line kind None finds is at less more = more is
later_part n above part fault rest line kind (Some found) finds is at less more =
    let it : found ≡ fault = of_some found fault is in
    let where_it_is : found.line ≡ fault.line = ap (λ f. f.line) it in
    let behind = (within_part n above part found.line found.what at (part_has above part found finds)).1 in
    inl (omega (arith, where_it_is, behind, less))

part_first : (above front : List Part) (here : Part) (back : List Part) (fault : ScriptFault) (line : ℕ) (kind : FaultKind) (n : ℕ)
    → wrong_parts above (front ++ here ∷ back) ≡ Some fault → Counted n (front ++ here ∷ back) → PartFault (above ++ front) here line kind
    → IsToldBefore fault line kind
part_first above [] here back fault line kind n is counted wrong =
    head_first (part_fault above here) refl is
    (subst (λ a. PartFault a here line kind) (append-nil above) wrong)
  where
    head_first : (found : Option ScriptFault) → part_fault above here ≡ found → or_next found (wrong_parts (above ++ here ∷ []) back) ≡ Some fault
        → PartFault above here line kind → IsToldBefore fault line kind
    head_first None finds is bad = let none : false ≡ true = sym (ap is_some finds) ∙ part_wrong above here line kind bad in absurd cc
    head_first (Some found) finds is bad = same_part n above here fault line kind counted.0 (finds ∙ is) bad
part_first above (part ∷ front) here back fault line kind n is counted wrong =
    later_part n above part fault (wrong_parts (above ++ part ∷ []) (front ++ here ∷ back)) line kind (part_fault above part) refl is counted.0
    (least_on (past n part) front here back (above ++ part ∷ front) line kind counted.1 wrong)
    (λ on. part_first (above ++ part ∷ []) front here back fault line kind (past n part) on counted.1
    (subst (λ a. PartFault a here line kind) (sym (append_assoc above (part ∷ []) front)) wrong))

-- the first fault of a text is told before all others
pub told_first : (parts : List Part) (fault : ScriptFault) → Counted 1 parts → wrong_parts [] parts ≡ Some fault
    → (line : ℕ) (kind : FaultKind) → HasFault parts line kind → IsToldBefore fault line kind
told_first parts fault counted is line kind has =
    part_first [] has.above has.here has.below fault line kind 1 (ap (wrong_parts []) (sym has.parts_are) ∙ is)
    (subst (Counted 1) has.parts_are counted) has.is_wrong

none_wrong : (above front : List Part) (here : Part) (back : List Part) (line : ℕ) (kind : FaultKind)
    → wrong_parts above (front ++ here ∷ back) ≡ None → PartFault (above ++ front) here line kind → ⊥
none_wrong above [] here back line kind clean wrong =
    let bad = subst (λ a. PartFault a here line kind) (append-nil above) wrong in
    let none : false ≡ true =
    sym (ap is_some (none_of (part_fault above here) (wrong_parts (above ++ here ∷ []) back) clean).0) ∙ part_wrong above here line kind bad in absurd cc
none_wrong above (part ∷ front) here back line kind clean wrong =
    none_wrong (above ++ part ∷ []) front here back line kind
    (none_of (part_fault above part) (wrong_parts (above ++ part ∷ []) (front ++ here ∷ back)) clean).1
    (subst (λ a. PartFault a here line kind) (sym (append_assoc above (part ∷ []) front)) wrong)

-- where no fault is found, no line is at fault
pub clean_is : (parts : List Part) → wrong_parts [] parts ≡ None → IsClean parts
clean_is parts clean line kind has =
    none_wrong [] has.above has.here has.below line kind (ap (wrong_parts []) (sym has.parts_are) ∙ clean) has.is_wrong

-- A part among these has the fault.
record IsIn (above parts : List Part) (fault : ScriptFault) : Type 0 where
  pub front : List Part
  pub here : Part
  pub back : List Part
  pub parts_are : parts ≡ front ++ here ∷ back
  pub wrong : PartFault (above ++ front) here fault.line fault.what

in_by : (above : List Part) (part : Part) (parts : List Part) (fault : ScriptFault) (found : Option ScriptFault) → part_fault above part ≡ found
    → or_next found (wrong_parts (above ++ part ∷ []) parts) ≡ Some fault
    → (wrong_parts (above ++ part ∷ []) parts ≡ Some fault → IsIn (above ++ part ∷ []) parts fault) → IsIn above (part ∷ parts) fault
in_by above part parts fault None finds is more =
    let there = more is in record {
      front = part ∷ there.front;
      here = there.here;
      back = there.back;
      parts_are = ap (λ p. part ∷ p) there.parts_are;
      wrong = subst (λ a. PartFault a there.here fault.line fault.what) (append_assoc above (part ∷ []) there.front) there.wrong;
    }
in_by above part parts fault (Some found) finds is more = record {
  front = [];
  here = part;
  back = parts;
  parts_are = refl;
  wrong = subst (λ a. PartFault a part fault.line fault.what) (sym (append-nil above)) (part_has above part fault (finds ∙ is));
}

is_in : (above parts : List Part) (fault : ScriptFault) → wrong_parts above parts ≡ Some fault → IsIn above parts fault
is_in above [] fault is = let wrong : false ≡ true = ap is_some is in absurd cc
is_in above (part ∷ parts) fault is = in_by above part parts fault (part_fault above part) refl is (is_in (above ++ part ∷ []) parts fault)

-- the first fault of a text is one
pub has_first : (parts : List Part) (fault : ScriptFault) → wrong_parts [] parts ≡ Some fault → HasFault parts fault.line fault.what
has_first parts fault is =
    let there = is_in [] parts fault is in record {
      above = there.front;
      here = there.here;
      below = there.back;
      parts_are = there.parts_are;
      is_wrong = there.wrong;
    }

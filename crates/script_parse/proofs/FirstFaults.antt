-- The first line of a program that is at fault: no line above it is, and every other fault is told after its own.
use Rattle.std.proofs.Common.{◌≡◌, ℕ, ◌+◌, ◌≤◌, Bool, true, false, List, [], ◌∷◌, ◌++◌, Option, None, Some, Result, Ok, Err, refl, sym, ap, ◌∙◌, subst, append_assoc, append-nil, arith, inl, inr}
use Rattle.std.specs.Prelude.{⊤, if◌then◌else◌, is_some, unwrap_or}
use Rattle.std.proofs.lemmas.Slice.Eq.{bytes_eq-Decides}
use Rattle.std.specs.List.{cons_option}
use Rattle.kabi_types.specs.declared.scripts.FaultKind.{FaultKind}
use Rattle.kabi_types.specs.declared.scripts.ScriptFault.{ScriptFault}
use Rattle.posix_defs.specs.declared.said.InProgram.{InProgram}
use Rattle.posix_defs.specs.declared.said.InProgram.TheVariants as inside
use Rattle.posix_defs.specs.declared.said.Spoken.{Spoken}
use Rattle.posix_defs.specs.ScriptValues.{rank}
use Rattle.posix_defs.specs.ScriptParts.{Line, inside_of}
use Rattle.posix_defs.specs.ScriptMeaning.{or_next, spoken_in, spoken_of, is_named, label_of, label_place, body_said}
use Rattle.posix_defs.specs.ScriptFaults.{IsToldBefore, LineFault}
use Rattle.script_read.specs.LabelPlaces.{place_from}
use Rattle.script_read.specs.LabelPlaces as reader
use Rattle.script_parse.proofs.LineFaults.{spoken_fault, inside_fault, line_fault, fault_has}
use Rattle.script_parse.proofs.LinePlaces.{stated_by, stated_of, names_is}
use Rattle.script_parse.proofs.Bodies.{fault_on, wrong_in, Agrees, lines_read, Reads}

pub same_name : (name : List ℕ) → is_named name (Some name) ≡ true
same_name name = (bytes_eq-Decides name name).1 refl

-- one option, or the next
pub none_of : {A : Type 0} (first next : Option A) → or_next first next ≡ None → (first ≡ None) × (next ≡ None)
none_of None next is = (refl, is)
none_of (Some a) next is = let wrong : true ≡ false = ap is_some is in absurd cc

pub on_none : (line : Line) (found : Option FaultKind) → fault_on line found ≡ None → found ≡ None
on_none line None is = refl
on_none line (Some kind) is = let wrong : true ≡ false = ap is_some is in absurd cc

said_agrees : (name : List ℕ) (i p : ℕ) (said : Spoken) (number : ℕ) (lines : List Line) (here : Bool) → is_named name (label_of said) ≡ here
    → (if reader.names name said then Some i else place_from (i + 1) name (stated_of lines)) ≡ Some p
    → (place_from (i + 1) name (stated_of lines) ≡ Some p → i + 1 + label_place name (spoken_of lines) ≡ p)
    → i + (if is_named name (label_of said) then 0 else label_place name (spoken_of lines) + 1) ≡ p
said_agrees name i p said number lines true is found more =
    let at : i ≡ p = ap (λ o. unwrap_or o i) (sym (ap (λ b. if b then Some i else place_from (i + 1) name (stated_of lines)) (names_is name said ∙ is)) ∙ found) in
    let none : i + 0 ≡ i = omega arith in
    ap (λ b. i + (if b then 0 else label_place name (spoken_of lines) + 1)) is ∙ none ∙ at
said_agrees name i p said number lines false is found more =
    let on : place_from (i + 1) name (stated_of lines) ≡ Some p =
    sym (ap (λ b. if b then Some i else place_from (i + 1) name (stated_of lines)) (names_is name said ∙ is)) ∙ found in
    let count : i + (label_place name (spoken_of lines) + 1) ≡ i + 1 + label_place name (spoken_of lines) = omega arith in
    ap (λ b. i + (if b then 0 else label_place name (spoken_of lines) + 1)) is ∙ count ∙ more on

line_agrees : (above lines : List Line) (line : Line) (rest : Option ScriptFault) (name : List ℕ) (i p : ℕ) (told : Result InProgram FaultKind)
    → or_next (fault_on line (inside_fault above lines told)) rest ≡ None
    → place_from i name (cons_option (stated_by line.number told) (stated_of lines)) ≡ Some p
    → (rest ≡ None → (j : ℕ) → place_from j name (stated_of lines) ≡ Some p → j + label_place name (spoken_of lines) ≡ p)
    → i + label_place name (cons_option (spoken_in told) (spoken_of lines)) ≡ p
line_agrees above lines line rest name i p (Err kind) clean found more = let wrong : true ≡ false = ap is_some clean in absurd cc
line_agrees above lines line rest name i p (Ok inside.Silent) clean found more = more clean i found
line_agrees above lines line rest name i p (Ok inside.Ends) clean found more = more clean i found
line_agrees above lines line rest name i p (Ok (inside.Says said)) clean found more =
    said_agrees name i p said line.number lines (is_named name (label_of said)) refl found
    (more (none_of (fault_on line (spoken_fault above lines said)) rest clean).1 (i + 1))

agrees_from : (above lines : List Line) (name : List ℕ) (p : ℕ) → wrong_in above lines ≡ None → (i : ℕ) → place_from i name (stated_of lines) ≡ Some p
    → i + label_place name (spoken_of lines) ≡ p
agrees_from above [] name p clean i found = let wrong : false ≡ true = ap is_some found in absurd cc
agrees_from above (line ∷ lines) name p clean i found =
    line_agrees above lines line (wrong_in (above ++ line ∷ []) lines) name i p (inside_of line) clean found
    (λ none. agrees_from (above ++ line ∷ []) lines name p none)

agrees : (lines : List Line) → wrong_in [] lines ≡ None → Agrees lines
agrees lines clean name p found = let none : 0 + label_place name (spoken_of lines) ≡ label_place name (spoken_of lines) = omega arith in
    sym none ∙ agrees_from [] lines name p clean 0 found

-- the reader's answer to a whole program
abbrev pub answered : Option ScriptFault → List Line → Type 0
answered (Some fault) lines = reader.placed_body (stated_of lines) ≡ Err fault
answered None lines = reader.placed_body (stated_of lines) ≡ Ok (body_said lines)

answered_by : (lines : List Line) (found : Option ScriptFault) → wrong_in [] lines ≡ found
    → Reads lines lines found (reader.placed_body (stated_of lines)) → answered found lines
answered_by lines (Some fault) is read = read
answered_by lines None is read = read.1 ∙ ap Ok (read.2 (agrees lines is))

pub body_answered : (lines : List Line) → answered (wrong_in [] lines) lines
body_answered lines = answered_by lines (wrong_in [] lines) refl (lines_read same_name lines [] lines refl)

-- where no line is at fault, none is
pub clean_at : (above front : List Line) (line : Line) (back : List Line) → wrong_in above (front ++ line ∷ back) ≡ None
    → line_fault (above ++ front) line back ≡ None
clean_at above [] line back clean =
    ap (λ a. line_fault a line back) (append-nil above)
    ∙ on_none line (line_fault above line back) (none_of (fault_on line (line_fault above line back)) (wrong_in (above ++ line ∷ []) back) clean).0
clean_at above (first ∷ front) line back clean =
    let lines = front ++ line ∷ back in
    ap (λ a. line_fault a line back) (sym (append_assoc above (first ∷ []) front))
    ∙ clean_at (above ++ first ∷ []) front line back (none_of (fault_on first (line_fault above first lines)) (wrong_in (above ++ first ∷ []) lines) clean).1

-- the lines are numbered from here on
abbrev pub From : ℕ → List Line → Type 0
From n [] = ⊤
From n (line ∷ lines) = (line.number ≡ n) × From (n + 1) lines

pub from_least : (n : ℕ) (front : List Line) (line : Line) (back : List Line) → From n (front ++ line ∷ back) → n ≤ line.number
from_least n [] line back from = omega (arith, from.0)
from_least n (first ∷ front) line back from = omega (arith, from_least (n + 1) front line back from.1)

pub of_some : {A : Type 0} (a b : A) → Some a ≡ Some b → a ≡ b
of_some a b is = ap (λ o. unwrap_or o a) is

told_from : (fault : ScriptFault) (line : Line) (kind : FaultKind) → record { line = line.number; what = kind } ≡ fault → IsToldBefore fault line.number kind
told_from fault line kind is =
    let same : rank fault.what ≡ rank kind = ap (λ f. rank f.what) (sym is) in
    inr (ap (λ f. f.line) (sym is), omega (arith, same))

told_later : (fault : ScriptFault) (first : Line) (above : List Line) (front : List Line) (line : Line) (back : List Line) (kind : FaultKind) (n : ℕ)
    (found : Option FaultKind) → or_next (fault_on first found) (wrong_in (above ++ first ∷ []) (front ++ line ∷ back)) ≡ Some fault
    → first.number ≡ n → n + 1 ≤ line.number
    → (wrong_in (above ++ first ∷ []) (front ++ line ∷ back) ≡ Some fault → IsToldBefore fault line.number kind)
    → IsToldBefore fault line.number kind
told_later fault first above front line back kind n None is number less more = more is
told_later fault first above front line back kind n (Some wrong) is number less more =
    let where_it_is : first.number ≡ fault.line = ap (λ f. f.line) (of_some (record { line = first.number; what = wrong }) fault is) in
    inl (omega (arith, where_it_is, number, less))

-- the first fault is told before every other
pub first_at : (above front : List Line) (line : Line) (back : List Line) (fault : ScriptFault) (kind : FaultKind) (n : ℕ)
    → wrong_in above (front ++ line ∷ back) ≡ Some fault → From n (front ++ line ∷ back) → line_fault (above ++ front) line back ≡ Some kind
    → IsToldBefore fault line.number kind
first_at above [] line back fault kind n is from wrong =
    let here : line_fault above line back ≡ Some kind = ap (λ a. line_fault a line back) (sym (append-nil above)) ∙ wrong in
    told_from fault line kind (of_some (record { line = line.number; what = kind }) fault
    (ap (λ f. or_next (fault_on line f) (wrong_in (above ++ line ∷ []) back)) (sym here) ∙ is))
first_at above (first ∷ front) line back fault kind n is from wrong =
    told_later fault first above front line back kind n (line_fault above first (front ++ line ∷ back)) is from.0 (from_least (n + 1) front line back from.1)
    (λ on. first_at (above ++ first ∷ []) front line back fault kind (n + 1) on from.1
    (ap (λ a. line_fault a line back) (append_assoc above (first ∷ []) front) ∙ wrong))

-- A line among these has the fault.
pub record IsThere (above below : List Line) (fault : ScriptFault) : Type 0 where
  pub front : List Line
  pub line : Line
  pub back : List Line
  pub lines_are : front ++ line ∷ back ≡ below
  pub number : line.number ≡ fault.line
  pub wrong : LineFault (above ++ front) line back fault.what

there_by : (above : List Line) (line : Line) (lines : List Line) (fault : ScriptFault) (found : Option FaultKind) → line_fault above line lines ≡ found
    → or_next (fault_on line found) (wrong_in (above ++ line ∷ []) lines) ≡ Some fault
    → (wrong_in (above ++ line ∷ []) lines ≡ Some fault → IsThere (above ++ line ∷ []) lines fault) → IsThere above (line ∷ lines) fault
there_by above line lines fault None found is more =
    let there = more is in record {
      front = line ∷ there.front;
      line = there.line;
      back = there.back;
      lines_are = ap (λ l. line ∷ l) there.lines_are;
      number = there.number;
      wrong = subst (λ a. LineFault a there.line there.back fault.what) (append_assoc above (line ∷ []) there.front) there.wrong;
    }
there_by above line lines fault (Some kind) found is more =
    let fault_is_it = of_some (record { line = line.number; what = kind }) fault is in record {
      front = [];
      line = line;
      back = lines;
      lines_are = refl;
      number = ap (λ f. f.line) fault_is_it;
      wrong = subst (λ a. LineFault a line lines fault.what) (sym (append-nil above))
          (subst (LineFault above line lines) (ap (λ f. f.what) fault_is_it) (fault_has above line lines kind found));
    }

-- the first fault is one
pub is_there : (above below : List Line) (fault : ScriptFault) → wrong_in above below ≡ Some fault → IsThere above below fault
is_there above [] fault is = let wrong : false ≡ true = ap is_some is in absurd cc
is_there above (line ∷ lines) fault is =
    there_by above line lines fault (line_fault above line lines) refl is (is_there (above ++ line ∷ []) lines fault)

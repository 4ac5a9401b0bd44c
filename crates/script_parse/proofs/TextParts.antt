-- The lines and the parts of a text, as functions find them.
use Rattle.std.proofs.Common.{◌≡◌, ℕ, suc, ◌+◌, Bool, true, false, List, [], ◌∷◌, ◌++◌, length, Option, None, Some, Result, refl, sym, ap, ◌∙◌, subst, append_assoc, append-nil, arith}
use Rattle.std.specs.Prelude.{⊤, if◌then◌else◌}
use Rattle.std.specs.List.{All}
use Rattle.std.proofs.lemmas.List.Elements.{All-cons, All-head, All-nil, All-tail}
use Rattle.kabi_types.specs.declared.scripts.Script.{Script}
use Rattle.kabi_types.specs.declared.scripts.ScriptFault.{ScriptFault}
use Rattle.posix_defs.specs.ScriptParts.{Line, Lines, none, more, begun, ends, Part, Alone, Program, Parts, nothing, alone, program, unended}
use Rattle.script_read.specs.Drafting.{State, step, finish}
use Rattle.script_parse.proofs.OneReading.{line_read, line_is, line_has, lines_step, lines_read, same_step}
use Rattle.script_parse.proofs.FirstFaults.{From}
use Rattle.script_parse.proofs.PartFaults.{Counted}

-- the lines of a text, numbered from here on
abbrev pub numbered : ℕ → List (List ℕ) → List Line
numbered number [] = []
numbered number (text ∷ texts) = record { number = number; words = line_read text } ∷ numbered (number + 1) texts

pub lines_numbered : (number : ℕ) (texts : List (List ℕ)) → Lines number texts (numbered number texts)
lines_numbered number [] = none number
lines_numbered number (text ∷ texts) =
    more number text texts (line_read text) (numbered (number + 1) texts) (line_has text) (lines_numbered (number + 1) texts)

pub numbered_is : (number : ℕ) (texts : List (List ℕ)) (lines : List Line) → Lines number texts lines → numbered number texts ≡ lines
numbered_is _ _ _ (none number) = refl
numbered_is _ _ _ (more number first texts words lines says rest) =
    ap (λ w. record { number = number; words = w } ∷ numbered (number + 1) texts) (line_is first words says)
    ∙ ap (λ l. record { number = number; words = words } ∷ l) (numbered_is (number + 1) texts lines rest)

pub numbered_from : (number : ℕ) (texts : List (List ℕ)) → From number (numbered number texts)
numbered_from number [] = tt
numbered_from number (text ∷ texts) = (refl, numbered_from (number + 1) texts)

-- what the reader answers to lines
abbrev pub machine : State → List Line → Result Script ScriptFault
machine state [] = finish state
machine state (line ∷ lines) = lines_step (λ next. machine next lines) (step state line.number line.words)

pub machine_is : (state : State) (number : ℕ) (texts : List (List ℕ)) → lines_read state number texts ≡ machine state (numbered number texts)
machine_is state number [] = refl
machine_is state number (text ∷ texts) =
    same_step (λ s. lines_read s (number + 1) texts) (λ s. machine s (numbered (number + 1) texts)) (step state number (line_read text))
    (λ s. machine_is s (number + 1) texts)

-- A program that is open: its first line, its name, its lines so far.
pub record Open : Type 0 where
  pub first : Line
  pub name : List ℕ
  pub body : List Line

abbrev pub with_line : Open → Line → Open
with_line current line = record current { body = current.body ++ line ∷ [] }

abbrev pub closed : Open → Part
closed current = Program current.first current.name (Some current.body)

-- a line outside programs, and what follows it
abbrev pub parts_behind : Line → Option (List ℕ) → (Option Open → List Part) → List Part
parts_behind line None rest = Alone line ∷ rest None
parts_behind line (Some name) rest = rest (Some (record { first = line; name = name; body = [] }))

-- the parts that lines fall into, where this program is open, or none
abbrev pub parts_from : Option Open → List Line → List Part
parts_from None [] = []
parts_from (Some current) [] = Program current.first current.name None ∷ []
parts_from None (line ∷ lines) = parts_behind line (begun line) (λ current. parts_from current lines)
parts_from (Some current) (line ∷ lines) = if ends line then closed current ∷ parts_from None lines else parts_from (Some (with_line current line)) lines

-- the open program begins with its first line, and none of its lines ends it
abbrev pub IsOpen : Option Open → Type 0
IsOpen None = ⊤
IsOpen (Some current) = (begun current.first ≡ Some current.name) × All (λ line. ends line ≡ false) current.body

-- all lines of the parts, the open program's too
abbrev pub all_lines : Option Open → List Line → List Line
all_lines None lines = lines
all_lines (Some current) lines = current.first ∷ current.body ++ lines

abbrev NotEnding : Line → Type 0
NotEnding line = ends line ≡ false

all_more : (lines : List Line) (line : Line) → All NotEnding lines → NotEnding line → All NotEnding (lines ++ line ∷ [])
all_more [] line all is = All-cons NotEnding line [] is (All-nil NotEnding)
all_more (first ∷ lines) line all is =
    All-cons NotEnding first (lines ++ line ∷ []) (All-head NotEnding first lines all) (all_more lines line (All-tail NotEnding first lines all) is)

line_parts : (line : Line) (lines : List Line) (name : Option (List ℕ)) → begun line ≡ name
    → ((current : Option Open) → IsOpen current → Parts (all_lines current lines) (parts_from current lines))
    → Parts (line ∷ lines) (parts_behind line name (λ current. parts_from current lines))
line_parts line lines None is rest = alone line lines (parts_from None lines) is (rest None tt)
line_parts line lines (Some name) is rest = rest (Some (record { first = line; name = name; body = [] })) (is, All-nil NotEnding)

program_parts : (current : Open) (line : Line) (lines : List Line) (ending : Bool) → ends line ≡ ending → IsOpen (Some current)
    → ((opened : Option Open) → IsOpen opened → Parts (all_lines opened lines) (parts_from opened lines))
    → Parts (all_lines (Some current) (line ∷ lines)) (if ending then closed current ∷ parts_from None lines else parts_from (Some (with_line current line)) lines)
program_parts current line lines true is opened rest =
    program current.first line current.name current.body lines (parts_from None lines) opened.0 opened.1 is (rest None tt)
program_parts current line lines false is opened rest =
    subst (λ l. Parts (current.first ∷ l) (parts_from (Some (with_line current line)) lines)) (append_assoc current.body (line ∷ []) lines)
    (rest (Some (with_line current line)) (opened.0, all_more current.body line opened.1 is))

pub parts_of : (lines : List Line) (current : Option Open) → IsOpen current → Parts (all_lines current lines) (parts_from current lines)
parts_of [] None opened = nothing
parts_of [] (Some current) opened =
    subst (λ l. Parts (current.first ∷ l) (Program current.first current.name None ∷ [])) (sym (append-nil current.body))
    (unended current.first current.name current.body opened.0 opened.1)
parts_of (line ∷ lines) None opened = line_parts line lines (begun line) refl (parts_of lines)
parts_of (line ∷ lines) (Some current) opened = program_parts current line lines (ends line) refl opened (parts_of lines)

-- lines fall into no other parts

through : (current : Open) (body lines : List Line) → All NotEnding body
    → parts_from (Some current) (body ++ lines) ≡ parts_from (Some (record current { body = current.body ++ body })) lines
through current [] lines all = ap (λ b. parts_from (Some (record current { body = b })) lines) (sym (append-nil current.body))
through current (line ∷ body) lines all =
    ap (λ b. if b then closed current ∷ parts_from None (body ++ lines) else parts_from (Some (with_line current line)) (body ++ lines)) (All-head NotEnding line body all)
    ∙ through (with_line current line) body lines (All-tail NotEnding line body all)
    ∙ ap (λ b. parts_from (Some (record current { body = b })) lines) (append_assoc current.body (line ∷ []) body)

pub parts_are : (lines : List Line) (parts : List Part) → Parts lines parts → parts_from None lines ≡ parts
parts_are _ _ nothing = refl
parts_are _ _ (alone line lines parts is rest) =
    ap (λ n. parts_behind line n (λ current. parts_from current lines)) is ∙ ap (λ p. Alone line ∷ p) (parts_are lines parts rest)
parts_are _ _ (program first last name body lines parts is all ending rest) =
    let current : Open = record { first = first; name = name; body = [] } in
    ap (λ n. parts_behind first n (λ current. parts_from current (body ++ last ∷ lines))) is
    ∙ through current body (last ∷ lines) all
    ∙ ap (λ b. if b then Program first name (Some body) ∷ parts_from None lines else parts_from (Some (record { first = first; name = name; body = body ++ last ∷ [] })) lines) ending
    ∙ ap (λ p. Program first name (Some body) ∷ p) (parts_are lines parts rest)
parts_are _ _ (unended first name lines is all) =
    let current : Open = record { first = first; name = name; body = [] } in
    ap (λ n. parts_behind first n (λ current. parts_from current lines)) is
    ∙ ap (parts_from (Some current)) (sym (append-nil lines)) ∙ through current lines [] all

-- the lines of the parts are numbered as those of the text

from_front : (n : ℕ) (front back : List Line) → From n (front ++ back) → From n front × From (n + length front) back
from_front n [] back from = let same : n ≡ n + 0 = omega arith in (tt, subst (λ k. From k back) same from)
from_front n (line ∷ front) back from =
    let rest = from_front (n + 1) front back from.1 in
    let same : n + 1 + length front ≡ n + suc (length front) = omega arith in
    ((from.0, rest.0), subst (λ k. From k back) same rest.1)

pub counted : (n : ℕ) (lines : List Line) (parts : List Part) → Parts lines parts → From n lines → Counted n parts
counted n _ _ nothing from = tt
counted n _ _ (alone line lines parts is rest) from = (from.0, counted (n + 1) lines parts rest from.1)
counted n _ _ (program first last name body lines parts is all ending rest) from =
    let inside = from_front (n + 1) body (last ∷ lines) from.1 in
    ((from.0, inside.0), counted (n + 1 + length body + 1) lines parts rest inside.1.1)
counted n _ _ (unended first name lines is all) from = (from.0, tt)

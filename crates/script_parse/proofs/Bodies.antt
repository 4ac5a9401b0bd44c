-- The statements of a program's lines, or the first line that is at fault, as the reader finds them.
use Rattle.std.proofs.Common.{◌≡◌, ℕ, ◌+◌, ◌<◌, Bool, true, false, List, [], ◌∷◌, ◌++◌, length, map, Option, None, Some, Result, Ok, Err, refl, sym, ap, ◌∙◌, subst, append_assoc, append-nil, arith}
use Rattle.std.specs.Prelude.{nat_lt, ◌==◌, if◌then◌else◌}
use Rattle.std.proofs.lemmas.List.{length-append}
use Rattle.std.specs.List.{cons_option}
use Rattle.kabi_types.specs.declared.scripts.FaultKind.{FaultKind}
use Rattle.kabi_types.specs.declared.scripts.FaultKind.TheVariants.{WrongWay, TwiceDefined}
use Rattle.kabi_types.specs.declared.scripts.ScriptFault.{ScriptFault}
use Rattle.kabi_types.specs.declared.scripts.Statement.{Statement}
use Rattle.kabi_types.specs.declared.scripts.Statement.TheVariants as statement
use Rattle.posix_defs.specs.declared.said.InProgram.{InProgram}
use Rattle.posix_defs.specs.declared.said.InProgram.TheVariants as inside
use Rattle.posix_defs.specs.declared.said.Spoken.{Spoken}
use Rattle.posix_defs.specs.declared.said.Spoken.TheVariants as spoken
use Rattle.posix_defs.specs.declared.said.Stated.{Stated}
use Rattle.posix_defs.specs.ScriptValues.{with}
use Rattle.posix_defs.specs.ScriptParts.{Line, inside_of}
use Rattle.posix_defs.specs.ScriptMeaning.{or_next, spoken_in, spoken_of, is_named, label_of, label_place, statement_of}
use Rattle.posix_defs.specs.ScriptFaults.{has_label}
use Rattle.script_read.specs.LabelPlaces.{place_from, later, earlier, first_label, placed, before, body_from}
use Rattle.script_parse.proofs.LineFaults.{jump_fault, loop_fault, label_fault, spoken_fault, inside_fault, line_fault}
use Rattle.script_parse.proofs.LinePlaces.{stated_by, stated_of, stated_append, names_is, passes, found_in}

abbrev pub fault_on : Line → Option FaultKind → Option ScriptFault
fault_on line None = None
fault_on line (Some kind) = Some (record { line = line.number; what = kind })

-- the first of these lines that is at fault, behind those above
abbrev pub wrong_in : List Line → List Line → Option ScriptFault
wrong_in above [] = None
wrong_in above (line ∷ lines) = or_next (fault_on line (line_fault above line lines)) (wrong_in (above ++ line ∷ []) lines)

-- the place of a label, as the reader finds it
abbrev pub places_in : List Line → List ℕ → Option ℕ
places_in whole name = place_from 0 name (stated_of whole)

-- A line of a program that says something, and no label of this name: what the reader finds of the name.
pub record Here (above : List Line) (number : ℕ) (said : Spoken) (lines whole : List Line) : Type 0 where
  pub stated : stated_of whole ≡ stated_of above ++ record { line = number; said = Ok said } ∷ stated_of lines

abbrev pub at_place : List Line → ℕ
at_place above = length (stated_of above)

places_above : (above lines whole : List Line) (number : ℕ) (said : Spoken) (name : List ℕ) → Here above number said lines whole
    → has_label name above ≡ true → (p : ℕ) × (places_in whole name ≡ Some p) × (p < at_place above)
places_above above lines whole number said name here is =
    let found = found_in name above (record { line = number; said = Ok said } ∷ stated_of lines) is 0 in
    (found.place, (ap (place_from 0 name) here.stated ∙ found.is), omega (arith, found.most))

past_above : (above lines whole : List Line) (number : ℕ) (said : Spoken) (name : List ℕ) → Here above number said lines whole
    → has_label name above ≡ false
    → places_in whole name ≡ (if is_named name (label_of said) then Some (at_place above) else place_from (at_place above + 1) name (stated_of lines))
past_above above lines whole number said name here none =
    let behind = record { line = number; said = Ok said } ∷ stated_of lines in
    let same : 0 + at_place above ≡ at_place above = omega arith in
    ap (place_from 0 name) here.stated ∙ passes name above behind none 0 ∙ ap (λ k. place_from k name behind) same
    ∙ ap (λ b. if b then Some (at_place above) else place_from (at_place above + 1) name (stated_of lines)) (names_is name said)

places_below : (above lines whole : List Line) (number : ℕ) (said : Spoken) (name : List ℕ) → Here above number said lines whole
    → is_named name (label_of said) ≡ false → has_label name above ≡ false → has_label name lines ≡ true
    → (p : ℕ) × (places_in whole name ≡ Some p) × (at_place above < p)
places_below above lines whole number said name here other none is =
    let found = found_in name lines [] is (at_place above + 1) in (
      found.place,
      (past_above above lines whole number said name here none
          ∙ ap (λ b. if b then Some (at_place above) else place_from (at_place above + 1) name (stated_of lines)) other
          ∙ ap (place_from (at_place above + 1) name) (sym (append-nil (stated_of lines))) ∙ found.is),
      omega (arith, found.least),
    )

places_nowhere : (above lines whole : List Line) (number : ℕ) (said : Spoken) (name : List ℕ) → Here above number said lines whole
    → is_named name (label_of said) ≡ false → has_label name above ≡ false → has_label name lines ≡ false → places_in whole name ≡ None
places_nowhere above lines whole number said name here other none none_below =
    past_above above lines whole number said name here none
    ∙ ap (λ b. if b then Some (at_place above) else place_from (at_place above + 1) name (stated_of lines)) other
    ∙ ap (place_from (at_place above + 1) name) (sym (append-nil (stated_of lines))) ∙ passes name lines [] none_below (at_place above + 1)

-- The reader's answer to a place is a fault, or this place.
abbrev IsPlaced : Option FaultKind → Result ℕ FaultKind → Option ℕ → Type 0
IsPlaced (Some kind) answer place = answer ≡ Err kind
IsPlaced None answer place = (p : ℕ) × (answer ≡ Ok p) × (place ≡ Some p)

place_before : (at p : ℕ) (place : Option ℕ) → place ≡ Some p → p < at → later at place ≡ Err WrongWay
place_before at p place is less = let not_later : nat_lt at p ≡ false = grind (arith, less) in
    ap (later at) is ∙ ap (λ b. if b then Ok p else Err WrongWay) not_later

place_behind : (at p : ℕ) (place : Option ℕ) → place ≡ Some p → at < p → later at place ≡ Ok p
place_behind at p place is more = let is_later : nat_lt at p ≡ true = grind (arith, more) in
    ap (later at) is ∙ ap (λ b. if b then Ok p else Err WrongWay) is_later

goes_back : (at p : ℕ) (place : Option ℕ) → place ≡ Some p → p < at → earlier at place ≡ Ok p
goes_back at p place is less = let is_earlier : nat_lt p at ≡ true = grind (arith, less) in
    ap (earlier at) is ∙ ap (λ b. if b then Ok p else Err WrongWay) is_earlier

goes_ahead : (at p : ℕ) (place : Option ℕ) → place ≡ Some p → at < p → earlier at place ≡ Err WrongWay
goes_ahead at p place is more = let not_earlier : nat_lt p at ≡ false = grind (arith, more) in
    ap (earlier at) is ∙ ap (λ b. if b then Ok p else Err WrongWay) not_earlier

jump_placed : (above lines whole : List Line) (number : ℕ) (said : Spoken) (name : List ℕ) (up down : Bool) → Here above number said lines whole
    → is_named name (label_of said) ≡ false → has_label name above ≡ up → has_label name lines ≡ down
    → IsPlaced (jump_fault up down) (later (at_place above) (places_in whole name)) (places_in whole name)
jump_placed above lines whole number said name true down here other is_up is_down =
    let found = places_above above lines whole number said name here is_up in
    place_before (at_place above) found.0 (places_in whole name) found.1 found.2
jump_placed above lines whole number said name false true here other is_up is_down =
    let found = places_below above lines whole number said name here other is_up is_down in
    (found.0, place_behind (at_place above) found.0 (places_in whole name) found.1 found.2, found.1)
jump_placed above lines whole number said name false false here other is_up is_down =
    ap (later (at_place above)) (places_nowhere above lines whole number said name here other is_up is_down)

loop_placed : (above lines whole : List Line) (number : ℕ) (said : Spoken) (name : List ℕ) (up down : Bool) → Here above number said lines whole
    → is_named name (label_of said) ≡ false → has_label name above ≡ up → has_label name lines ≡ down
    → IsPlaced (loop_fault up down) (earlier (at_place above) (places_in whole name)) (places_in whole name)
loop_placed above lines whole number said name true down here other is_up is_down =
    let found = places_above above lines whole number said name here is_up in
    (found.0, goes_back (at_place above) found.0 (places_in whole name) found.1 found.2, found.1)
loop_placed above lines whole number said name false true here other is_up is_down =
    let found = places_below above lines whole number said name here other is_up is_down in
    goes_ahead (at_place above) found.0 (places_in whole name) found.1 found.2
loop_placed above lines whole number said name false false here other is_up is_down =
    ap (earlier (at_place above)) (places_nowhere above lines whole number said name here other is_up is_down)

-- The reader finds every label where it is counted among the statements.
abbrev pub Agrees : List Line → Type 0
Agrees whole = (name : List ℕ) (p : ℕ) → places_in whole name ≡ Some p → label_place name (spoken_of whole) ≡ p

-- The reader's statement is a fault, or the one that the line says.
abbrev pub IsRead : Option FaultKind → List Line → Spoken → Result Statement FaultKind → Type 0
IsRead (Some kind) whole said answer = answer ≡ Err kind
IsRead None whole said answer = (read : Statement) × (answer ≡ Ok read) × (Agrees whole → read ≡ statement_of (spoken_of whole) said)

read_placed : (whole : List Line) (said : Spoken) (name : List ℕ) (make : ℕ → Statement) (found : Option FaultKind) (answer : Result ℕ FaultKind)
    → (statement_of (spoken_of whole) said ≡ make (label_place name (spoken_of whole))) → IsPlaced found answer (places_in whole name)
    → IsRead found whole said (with make answer)
read_placed whole said name make (Some kind) answer made is = ap (with make) is
read_placed whole said name make None answer made is =
    (make is.0, ap (with make) is.1, λ agrees. ap make (sym (agrees name is.0 is.2)) ∙ sym made)

label_read : (above lines whole : List Line) (number : ℕ) (name : List ℕ) (up : Bool) → Here above number (spoken.Label name) lines whole
    → is_named name (Some name) ≡ true → has_label name above ≡ up
    → IsRead (label_fault up) whole (spoken.Label name) (first_label (at_place above) name (places_in whole name))
label_read above lines whole number name true here same is_up =
    let found = places_above above lines whole number (spoken.Label name) name here is_up in
    let apart : (found.0 == at_place above) ≡ false = grind (arith, found.2) in
    ap (first_label (at_place above) name) found.1 ∙ ap (λ b. if b then Ok (statement.Label name) else Err TwiceDefined) apart
label_read above lines whole number name false here same is_up =
    let at = at_place above in
    let here_it_is : places_in whole name ≡ Some at =
    past_above above lines whole number (spoken.Label name) name here is_up
    ∙ ap (λ b. if b then Some at else place_from (at + 1) name (stated_of lines)) same in
    let is_it : (at == at) ≡ true = grind arith in (
      statement.Label name,
      ap (first_label at name) here_it_is ∙ ap (λ b. if b then Ok (statement.Label name) else Err TwiceDefined) is_it,
      λ agrees. refl,
    )

pub said_read : (same : (name : List ℕ) → is_named name (Some name) ≡ true) (above lines whole : List Line) (number : ℕ) (said : Spoken) → Here above number said lines whole
    → IsRead (spoken_fault above lines said) whole said (placed (places_in whole) (at_place above) said)
said_read same above lines whole number (spoken.Whole read) here = (read, refl, λ agrees. refl)
said_read same above lines whole number (spoken.If left test right label) here =
    read_placed whole (spoken.If left test right label) label (statement.If left test right) (jump_fault (has_label label above) (has_label label lines))
    (later (at_place above) (places_in whole label)) refl
    (jump_placed above lines whole number (spoken.If left test right label) label (has_label label above) (has_label label lines) here refl refl refl)
said_read same above lines whole number (spoken.Jump label) here =
    read_placed whole (spoken.Jump label) label statement.Jump (jump_fault (has_label label above) (has_label label lines))
    (later (at_place above) (places_in whole label)) refl
    (jump_placed above lines whole number (spoken.Jump label) label (has_label label above) (has_label label lines) here refl refl refl)
said_read same above lines whole number (spoken.Label name) here = label_read above lines whole number name (has_label name above) here (same name) refl
said_read same above lines whole number (spoken.Loop register label) here =
    read_placed whole (spoken.Loop register label) label (statement.Loop register) (loop_fault (has_label label above) (has_label label lines))
    (earlier (at_place above) (places_in whole label)) refl
    (loop_placed above lines whole number (spoken.Loop register label) label (has_label label above) (has_label label lines) here refl refl refl)

line_step : (number : ℕ) (kind : FaultKind) (answer : Result Statement FaultKind) (rest : Result (List Statement) ScriptFault) → answer ≡ Err kind
    → before number answer rest ≡ Err (record { line = number; what = kind })
line_step number kind answer rest is = ap (λ a. before number a rest) is

-- What the reader answers of these lines, where a function finds this fault in them.
abbrev pub Reads : List Line → List Line → Option ScriptFault → Result (List Statement) ScriptFault → Type 0
Reads whole below (Some fault) answer = answer ≡ Err fault
Reads whole below None answer = (body : List Statement) × (answer ≡ Ok body) × (Agrees whole → body ≡ map (statement_of (spoken_of whole)) (spoken_of below))

reads_on : (whole lines : List Line) (line : Line) (said : Spoken) (rest : Option ScriptFault) (answer : Result Statement FaultKind) (more : Result (List Statement) ScriptFault)
    → spoken_of (line ∷ lines) ≡ said ∷ spoken_of lines → IsRead None whole said answer → Reads whole lines rest more
    → Reads whole (line ∷ lines) rest (before line.number answer more)
reads_on whole lines line said (Some fault) answer more says read is =
    ap (λ a. before line.number a more) read.1 ∙ ap (before line.number (Ok read.0)) is
reads_on whole lines line said None answer more says read is = (
  read.0 ∷ is.0,
  ap (λ a. before line.number a more) read.1 ∙ ap (before line.number (Ok read.0)) is.1,
  λ agrees. ap (λ s. s ∷ is.0) (read.2 agrees) ∙ ap (λ b. statement_of (spoken_of whole) said ∷ b) (is.2 agrees)
      ∙ ap (map (statement_of (spoken_of whole))) (sym says),
)

-- the reader's answer to lines behind others, of a program of all these lines
abbrev pub answer_to : List Line → List Line → List Line → Result (List Statement) ScriptFault
answer_to whole above below = body_from (places_in whole) (at_place above) (stated_of below)

abbrev answer_by : List Line → ℕ → Option Stated → List Line → Result (List Statement) ScriptFault
answer_by whole at first lines = body_from (places_in whole) at (cons_option first (stated_of lines))

more_above : (above : List Line) (line : Line) (first : Option Stated) → stated_by line.number (inside_of line) ≡ first
    → stated_of (above ++ line ∷ []) ≡ stated_of above ++ cons_option first []
more_above above line first is = stated_append above (line ∷ []) ∙ ap (λ f. stated_of above ++ cons_option f []) is

said_reads : (same : (name : List ℕ) → is_named name (Some name) ≡ true) (whole above lines : List Line) (line : Line) (said : Spoken) (found : Option FaultKind)
    → inside_of line ≡ Ok (inside.Says said) → spoken_fault above lines said ≡ found → whole ≡ above ++ line ∷ lines
    → Reads whole lines (wrong_in (above ++ line ∷ []) lines) (answer_to whole (above ++ line ∷ []) lines)
    → Reads whole (line ∷ lines) (or_next (fault_on line found) (wrong_in (above ++ line ∷ []) lines))
    (answer_by whole (at_place above) (Some (record { line = line.number; said = Ok said })) lines)
said_reads same whole above lines line said (Some kind) says is whole_is more =
    let here : stated_of whole ≡ stated_of above ++ record { line = line.number; said = Ok said } ∷ stated_of lines =
    ap stated_of whole_is ∙ stated_append above (line ∷ lines) ∙ ap (λ t. stated_of above ++ cons_option (stated_by line.number t) (stated_of lines)) says in
    let read = said_read same above lines whole line.number said (record { stated = here }) in
    line_step line.number kind (placed (places_in whole) (at_place above) said) (body_from (places_in whole) (at_place above + 1) (stated_of lines))
    (subst (λ f. IsRead f whole said (placed (places_in whole) (at_place above) said)) is read)
said_reads same whole above lines line said None says is whole_is more =
    let here : stated_of whole ≡ stated_of above ++ record { line = line.number; said = Ok said } ∷ stated_of lines =
    ap stated_of whole_is ∙ stated_append above (line ∷ lines) ∙ ap (λ t. stated_of above ++ cons_option (stated_by line.number t) (stated_of lines)) says in
    let read = said_read same above lines whole line.number said (record { stated = here }) in
    let next : at_place (above ++ line ∷ []) ≡ at_place above + 1 =
    ap length (more_above above line (Some (record { line = line.number; said = Ok said })) (ap (stated_by line.number) says))
    ∙ length-append (stated_of above) (record { line = line.number; said = Ok said } ∷ []) in
    reads_on whole lines line said (wrong_in (above ++ line ∷ []) lines) (placed (places_in whole) (at_place above) said)
    (body_from (places_in whole) (at_place above + 1) (stated_of lines)) (ap (λ t. cons_option (spoken_in t) (spoken_of lines)) says)
    (subst (λ f. IsRead f whole said (placed (places_in whole) (at_place above) said)) is read)
    (subst (λ at. Reads whole lines (wrong_in (above ++ line ∷ []) lines) (body_from (places_in whole) at (stated_of lines))) next more)

-- a line that says nothing
silent_reads : (whole above lines : List Line) (line : Line) → stated_by line.number (inside_of line) ≡ None → spoken_in (inside_of line) ≡ None
    → Reads whole lines (wrong_in (above ++ line ∷ []) lines) (answer_to whole (above ++ line ∷ []) lines)
    → Reads whole (line ∷ lines) (wrong_in (above ++ line ∷ []) lines) (answer_to whole above lines)
silent_reads whole above lines line no_stated no_spoken more =
    let same : at_place (above ++ line ∷ []) ≡ at_place above =
    ap length (more_above above line None no_stated ∙ append-nil (stated_of above)) in
    with_silent (wrong_in (above ++ line ∷ []) lines)
    (subst (λ at. Reads whole lines (wrong_in (above ++ line ∷ []) lines) (body_from (places_in whole) at (stated_of lines))) same more)
  where
    with_silent : (found : Option ScriptFault) → Reads whole lines found (answer_to whole above lines) → Reads whole (line ∷ lines) found (answer_to whole above lines)
    with_silent (Some fault) is = is
    with_silent None is = (is.0, is.1, λ agrees. is.2 agrees ∙ ap (λ s. map (statement_of (spoken_of whole)) (cons_option s (spoken_of lines))) (sym no_spoken))

line_reads : (same : (name : List ℕ) → is_named name (Some name) ≡ true) (whole above lines : List Line) (line : Line) (told : Result InProgram FaultKind)
    → inside_of line ≡ told → whole ≡ above ++ line ∷ lines
    → Reads whole lines (wrong_in (above ++ line ∷ []) lines) (answer_to whole (above ++ line ∷ []) lines)
    → Reads whole (line ∷ lines) (or_next (fault_on line (inside_fault above lines told)) (wrong_in (above ++ line ∷ []) lines))
    (answer_by whole (at_place above) (stated_by line.number told) lines)
line_reads same whole above lines line (Err kind) is whole_is more = refl
line_reads same whole above lines line (Ok inside.Silent) is whole_is more =
    silent_reads whole above lines line (ap (stated_by line.number) is) (ap spoken_in is) more
line_reads same whole above lines line (Ok inside.Ends) is whole_is more =
    silent_reads whole above lines line (ap (stated_by line.number) is) (ap spoken_in is) more
line_reads same whole above lines line (Ok (inside.Says said)) is whole_is more =
    said_reads same whole above lines line said (spoken_fault above lines said) is refl whole_is more

pub lines_read : (same : (name : List ℕ) → is_named name (Some name) ≡ true) (whole above below : List Line) → whole ≡ above ++ below
    → Reads whole below (wrong_in above below) (answer_to whole above below)
lines_read same whole above [] whole_is = ([], refl, λ agrees. refl)
lines_read same whole above (line ∷ lines) whole_is =
    line_reads same whole above lines line (inside_of line) refl whole_is
    (lines_read same whole (above ++ line ∷ []) lines (whole_is ∙ sym (append_assoc above (line ∷ []) lines)))

-- A printed program is read as it was printed.
use Rattle.std.proofs.Common.{append-nil, ◌≡◌, ◌≢◌, ◌<◌, ◌+◌, ℕ, zero, suc, true, false, ◌==◌, nat_lt, List, [], ◌∷◌, ◌++◌, map, length, Option, None, Some, IfSome, slice_get, Result, Ok, Err, refl, sym, ap, ◌∙◌, subst, arith}
use Rattle.std.specs.Prelude.{⊤, if◌then◌else◌, codes}
use Rattle.std.specs.Str.{bytes_eq}
use Rattle.std.proofs.lemmas.Bool.{false_from_ne_true}
use Rattle.std.proofs.lemmas.List.{append_assoc, length-append, length-map, map-append}
use Rattle.std.proofs.lemmas.Slice.Eq.{bytes_eq-Decides}
use Rattle.kabi_types.specs.declared.scripts.FaultKind.TheVariants.{WrongWay, TwiceDefined, OutOfRange}
use Rattle.kabi_types.specs.declared.scripts.Program.{Program}
use Rattle.kabi_types.specs.declared.scripts.Script.{Script}
use Rattle.kabi_types.specs.declared.scripts.ScriptFault.{ScriptFault}
use Rattle.kabi_types.specs.declared.scripts.Statement.{Statement}
use Rattle.kabi_types.specs.declared.scripts.Statement.TheVariants as statement
use Rattle.posix_defs.specs.declared.said.AtTop.{AtTop}
use Rattle.posix_defs.specs.declared.said.AtTop.TheVariants as top
use Rattle.posix_defs.specs.declared.said.Stated.{Stated}
use Rattle.posix_defs.specs.declared.said.Word.{Word}
use Rattle.posix_defs.specs.declared.said.Word.TheVariants.{Bare}
use Rattle.posix_defs.specs.ScriptValues.{with, ◌>>=◌, is_name}
use Rattle.posix_defs.specs.ScriptLines.{said_at_top}
use Rattle.posix_defs.specs.Canonical.{words_text, name_word, label_name, statement_words, program_lines}
use Rattle.posix_defs.specs.ValidScript.{IsLabel, IsStatement, IsProgram}
use Rattle.script_read.specs.LabelPlaces.{names, place_in, place_from, later, earlier, first_label, placed, before, body_from}
use Rattle.script_read.specs.Drafting.{Draft, State, at_line, has_program, outside, within, step_at_top, step_in_program, with_program, closed, step, Reads, goes_on}
use Rattle.script_parse.proofs.PrintedWords.{IsLine, line_read}
use Rattle.script_parse.proofs.PrintedStatements.{spoken_as, AreNamed, statement_read, statement_line, program_read, program_line, end_line}

-- a printed line, and what follows it
pub one_line : (state next : State) (line : ℕ) (words : List Word) (lines : List (List ℕ)) (outcome : Result Script ScriptFault) → IsLine words
    → step state line (Ok words) ≡ Ok next → Reads next (line + 1) lines outcome → Reads state line (words_text words ∷ lines) outcome
one_line state next line words lines outcome is steps rest = goes_on state next line (words_text words) lines (Ok words) outcome (line_read words is) steps rest

pub top_steps : (draft : Draft) (next : State) (line : ℕ) (words : List Word) (said : AtTop) → said_at_top words ≡ Ok said → step_at_top draft line said ≡ Ok next
    → step (outside draft) line (Ok words) ≡ Ok next
top_steps draft next line words said says steps = ap (λ r. at_line line (r >>= step_at_top draft line)) says ∙ ap (at_line line) steps

-- statements, as lines from this one on say them
abbrev stated_as : List Statement → ℕ → List Statement → List Stated
stated_as body line [] = []
stated_as body line (s ∷ statements) = record { line = line; said = Ok (spoken_as body s) } ∷ stated_as body (line + 1) statements

-- these statements stand in a program, from a place on
abbrev AreStatements : List Statement → ℕ → List Statement → Type 0
AreStatements body at [] = ⊤
AreStatements body at (s ∷ statements) = (IsStatement body at s × (slice_get body at ≡ Some s)) × AreStatements body (at + 1) statements

are_statements : (body : List Statement) (at : ℕ) (statements : List Statement) → ((place : ℕ) → IfSome (slice_get body place) (IsStatement body place))
    → ((i place : ℕ) → place ≡ at + i → slice_get body place ≡ slice_get statements i) → AreStatements body at statements
are_statements body at [] each there = tt
are_statements body at (s ∷ statements) each there =
    let here : slice_get body at ≡ Some s = there 0 at (omega arith) in (
      (subst (λ found. IfSome found (IsStatement body at)) here (each at), here),
      are_statements body (at + 1) statements each (λ i place is. there (suc i) place (omega (arith, is))),
    )

-- a program that is open
abbrev Open : Draft → ℕ → List ℕ → List Stated → State
Open draft first name said = within draft (record { line = first; name = name; said = said })

statements_read : (body : List Statement) (draft : Draft) (first : ℕ) (name : List ℕ) (said : List Stated) (line at : ℕ) (statements : List Statement)
    (lines : List (List ℕ)) (outcome : Result Script ScriptFault) → AreNamed body → AreStatements body at statements
    → Reads (Open draft first name (said ++ stated_as body line statements)) (line + length statements) lines outcome
    → Reads (Open draft first name said) line (map words_text (map (statement_words body) statements) ++ lines) outcome
statements_read body draft first name said line at [] lines outcome named are rest =
    subst (λ n. Reads (Open draft first name said) n lines outcome) (let same : line + 0 ≡ line = omega arith in same)
    (subst (λ s. Reads (Open draft first name s) (line + 0) lines outcome) (append-nil said) rest)
statements_read body draft first name said line at (s ∷ statements) lines outcome named are rest =
    let stated : Stated = record { line = line; said = Ok (spoken_as body s) } in
    one_line (Open draft first name said) (Open draft first name (said ++ stated ∷ [])) line (statement_words body s)
    (map words_text (map (statement_words body) statements) ++ lines) outcome (statement_line body at s named are.0.0)
    (ap (step_in_program draft (record { line = first; name = name; said = said }) line) (statement_read body at s named are.0.0))
    (statements_read body draft first name (said ++ stated ∷ []) (line + 1) (at + 1) statements lines outcome named are.1
    (subst (λ n. Reads (Open draft first name ((said ++ stated ∷ []) ++ stated_as body (line + 1) statements)) n lines outcome)
    (let same : line + length (s ∷ statements) ≡ line + 1 + length statements = omega arith in same)
    (subst (λ all. Reads (Open draft first name all) (line + length (s ∷ statements)) lines outcome)
    (sym (append_assoc said (stated ∷ []) (stated_as body (line + 1) statements))) rest)))

-- the places of labels

not_named : (body : List Statement) (s : Statement) (name : List ℕ) → s ≢ statement.Label name → names name (spoken_as body s) ≡ false
not_named body (statement.Label label) name other =
    false_from_ne_true (bytes_eq label name) (λ yes. other (ap statement.Label ((bytes_eq-Decides label name).0 yes)))
not_named body (statement.Set r v) name other = refl
not_named body (statement.Add r v) name other = refl
not_named body (statement.If left test right place) name other = refl
not_named body (statement.Jump place) name other = refl
not_named body (statement.Loop r place) name other = refl
not_named body (statement.Invoke _ _ _ _ _) name other = refl

-- the first label of a name has its place
first_place : (body : List Statement) (line at : ℕ) (statements : List Statement) (name : List ℕ) (i : ℕ) → slice_get statements i ≡ Some (statement.Label name)
    → ((j : ℕ) → j < i → slice_get statements j ≢ Some (statement.Label name)) → place_from at name (stated_as body line statements) ≡ Some (at + i)
first_place body line at [] name i here first = absurd (let wrong : None ≡ Some (statement.Label name) = here in cc)
first_place body line at (s ∷ statements) name zero here first =
    let same : s ≡ statement.Label name = cc in
    let rest = place_from (at + 1) name (stated_as body (line + 1) statements) in
    ap (λ s. place_in at name (Ok (spoken_as body s)) rest) same
    ∙ ap (λ b. if b then Some at else rest) ((bytes_eq-Decides name name).1 refl)
    ∙ ap Some (let is : at ≡ at + 0 = omega arith in is)
first_place body line at (s ∷ statements) name (suc i) here first =
    let rest = place_from (at + 1) name (stated_as body (line + 1) statements) in
    ap (λ b. if b then Some at else rest) (not_named body s name (λ same. first 0 (omega arith) (ap Some same)))
    ∙ first_place body (line + 1) (at + 1) statements name i here (λ j less. first (suc j) (omega (arith, less)))
    ∙ ap Some (let is : at + 1 + i ≡ at + suc i = omega arith in is)

-- the labels of a program have these places
abbrev LabelsAt : (List ℕ → Option ℕ) → List Statement → Type 0
LabelsAt places body = (name : List ℕ) (place : ℕ) → slice_get body place ≡ Some (statement.Label name) → places name ≡ Some place

labels_at : (body : List Statement) (line : ℕ) → ((place : ℕ) → IfSome (slice_get body place) (IsStatement body place))
    → LabelsAt (λ name. place_from 0 name (stated_as body line body)) body
labels_at body line each name place here =
    let is = subst (λ found. IfSome found (IsStatement body place)) here (each place) in
    first_place body line 0 body name place here is.1 ∙ ap Some (let same : 0 + place ≡ place = omega arith in same)

-- a jump to a label finds it
label_placed : (places : List ℕ → Option ℕ) (body : List Statement) (place : ℕ) → LabelsAt places body → IsLabel body place
    → places (label_name (slice_get body place)) ≡ Some place
label_placed places body place labels is = ap (λ found. places (label_name found)) is.1 ∙ labels is.0 place is.1

later_placed : (at place : ℕ) → at < place → later at (Some place) ≡ Ok place
later_placed at place less = ap (λ b. if b then Ok place else Err WrongWay) (let is : nat_lt at place ≡ true = grind (arith, less) in is)

earlier_placed : (at place : ℕ) → place < at → earlier at (Some place) ≡ Ok place
earlier_placed at place less = ap (λ b. if b then Ok place else Err WrongWay) (let is : nat_lt place at ≡ true = grind (arith, less) in is)

pub placed_back : (places : List ℕ → Option ℕ) (body : List Statement) (at : ℕ) (s : Statement) → LabelsAt places body → IsStatement body at s
    → slice_get body at ≡ Some s → placed places at (spoken_as body s) ≡ Ok s
placed_back places body at (statement.Set r v) labels is here = refl
placed_back places body at (statement.Add r v) labels is here = refl
placed_back places body at (statement.If left test right place) labels is here =
    ap (λ found. with (statement.If left test right) (later at found)) (label_placed places body place labels is.3)
    ∙ ap (with (statement.If left test right)) (later_placed at place is.2)
placed_back places body at (statement.Jump place) labels is here =
    ap (λ found. with statement.Jump (later at found)) (label_placed places body place labels is.1) ∙ ap (with statement.Jump) (later_placed at place is.0)
placed_back places body at (statement.Label name) labels is here =
    ap (first_label at name) (labels name at here)
    ∙ ap (λ b. if b then Ok (statement.Label name) else Err TwiceDefined) (let same : (at == at) ≡ true = grind arith in same)
placed_back places body at (statement.Loop r place) labels is here =
    ap (λ found. with (statement.Loop r) (earlier at found)) (label_placed places body place labels is.2) ∙ ap (with (statement.Loop r)) (earlier_placed at place is.1)
placed_back places body at (statement.Invoke _ _ _ _ _) labels is here = refl

body_back : (places : List ℕ → Option ℕ) (body : List Statement) (line at : ℕ) (statements : List Statement) → LabelsAt places body → AreStatements body at statements
    → body_from places at (stated_as body line statements) ≡ Ok statements
body_back places body line at [] labels are = refl
body_back places body line at (s ∷ statements) labels are =
    ap (λ said. before line said (body_from places (at + 1) (stated_as body (line + 1) statements))) (placed_back places body at s labels are.0.0 are.0.1)
    ∙ ap (before line (Ok s)) (body_back places body (line + 1) (at + 1) statements labels are.1)

pub labels_named : (body : List Statement) → ((place : ℕ) → IfSome (slice_get body place) (IsStatement body place)) → AreNamed body
labels_named body each place is =
    let here = subst (λ found. IfSome found (IsStatement body place)) is.1 (each place) in
    ap (λ found. is_name (label_name found)) is.1 ∙ here.0

begins : (draft : Draft) (line : ℕ) (name : List ℕ) → length draft.programs < 64 → has_program name draft.programs ≡ false
    → step_at_top draft line (top.Begins name) ≡ Ok (Open draft line name [])
begins draft line name room fresh =
    ap (λ b. with (within draft) (with (λ _. record { line = line; name = name; said = [] })
    (if b then Err OutOfRange else if has_program name draft.programs then Err TwiceDefined else Ok tt)))
    (let is : (length draft.programs == 64) ≡ false = grind (arith, room) in is)
    ∙ ap (λ b. with (within draft) (with (λ _. record { line = line; name = name; said = [] }) (if b then Err TwiceDefined else Ok tt))) fresh

-- a printed program is read as it was printed
pub program_reads : (draft : Draft) (program : Program) (line : ℕ) (lines : List (List ℕ)) (outcome : Result Script ScriptFault) → IsProgram program
    → length draft.programs < 64 → has_program program.name draft.programs ≡ false
    → Reads (outside (with_program draft program.name program.body)) (line + length (program_lines program)) lines outcome
    → Reads (outside draft) line (map words_text (program_lines program) ++ lines) outcome
program_reads draft program line lines outcome is room fresh rest =
    let body = program.body in
    let end : List Word = Bare (codes "end") ∷ [] in
    let all = are_statements body 0 body is.body (λ i place same. ap (slice_get body) (let e : place ≡ i = omega (arith, same) in e)) in
    let named = labels_named body is.body in
    let said = stated_as body (line + 1) body in
    let last = line + 1 + length body in
    let texts = map words_text (map (statement_words body) body) in
    let ended : Reads (Open draft line program.name said) last (words_text end ∷ lines) outcome =
    one_line (Open draft line program.name said) (outside (with_program draft program.name body)) last end lines outcome end_line
    (ap (closed draft program.name) (body_back (λ name. place_from 0 name said) body (line + 1) 0 body (labels_at body (line + 1) is.body) all))
    (subst (λ n. Reads (outside (with_program draft program.name body)) n lines outcome) counts rest) in
    let stated : Reads (Open draft line program.name []) (line + 1) (texts ++ words_text end ∷ lines) outcome =
    statements_read body draft line program.name [] (line + 1) 0 body (words_text end ∷ lines) outcome named all ended in
    let joined : texts ++ words_text end ∷ lines ≡ map words_text (map (statement_words body) body ++ end ∷ []) ++ lines =
    sym (append_assoc texts (words_text end ∷ []) lines) ∙ ap (λ l. l ++ lines) (sym (map-append words_text (map (statement_words body) body) (end ∷ []))) in
    one_line (outside draft) (Open draft line program.name []) line (Bare (codes "program") ∷ name_word program.name ∷ [])
    (map words_text (map (statement_words body) body ++ end ∷ []) ++ lines) outcome (program_line program.name is.name)
    (top_steps draft (Open draft line program.name []) line (Bare (codes "program") ∷ name_word program.name ∷ []) (top.Begins program.name)
    (program_read program.name is.name) (begins draft line program.name room fresh))
    (subst (λ l. Reads (Open draft line program.name []) (line + 1) l outcome) joined stated)
  where
    counts : line + length (program_lines program) ≡ line + 1 + length program.body + 1
    counts = omega (arith, length-map program.body (statement_words program.body), length-append (map (statement_words program.body) program.body) ((Bare (codes "end") ∷ []) ∷ []))

-- The statements of a program that is read keep the promises of a script.
use Rattle.std.proofs.Common.{◌≡◌, ◌<◌, ◌+◌, ℕ, zero, suc, true, false, ◌==◌, nat_lt, List, [], ◌∷◌, length, Option, None, Some, IfSome, Result, Ok, Err, IfOk, slice_get, refl, sym, ap, ◌∙◌, subst, arith}
use Rattle.std.specs.Prelude.{⊤}
use Rattle.std.specs.List.{AllByRecursion}
use Rattle.std.proofs.lemmas.Slice.Eq.{bytes_eq-Decides}
use Rattle.kabi_types.specs.declared.scripts.FaultKind.{FaultKind}
use Rattle.kabi_types.specs.declared.scripts.ScriptFault.{ScriptFault}
use Rattle.kabi_types.specs.declared.scripts.Statement.{Statement}
use Rattle.kabi_types.specs.declared.scripts.Statement.TheVariants as statement
use Rattle.posix_defs.specs.declared.said.Spoken.{Spoken}
use Rattle.posix_defs.specs.declared.said.Spoken.TheVariants as spoken
use Rattle.posix_defs.specs.declared.said.Stated.{Stated}
use Rattle.posix_defs.specs.ValidScript.{IsLabel, IsFirstLabel, IsStatement}
use Rattle.script_read.specs.LabelPlaces.{names, place_in, place_from, later, earlier, first_label, placed, placed_in, before, body_from, placed_body}
use Rattle.script_parse.proofs.Holds.{any, when, with_holds}
use Rattle.script_parse.proofs.ValidLines.{IsWhole, IsSpoken}

-- what a program's lines say, each of which promises what it has to
abbrev pub AreStated : List Stated → Type 0
AreStated lines = AllByRecursion (λ stated. IfOk stated.said IsSpoken) lines

-- the statements are those of the lines, from a place on
abbrev AreAt : (List ℕ → Option ℕ) → ℕ → List Stated → List Statement → Type 0
AreAt places at [] [] = ⊤
AreAt places at [] (_ ∷ _) = ⊥
AreAt places at (_ ∷ _) [] = ⊥
AreAt places at (stated ∷ lines) (statement ∷ body) = (placed_in places at stated.said ≡ Ok statement) × AreAt places (at + 1) lines body

are_before : (places : List ℕ → Option ℕ) (at : ℕ) (stated : Stated) (lines : List Stated) (here : Result Statement FaultKind)
    (rest : Result (List Statement) ScriptFault) (body : List Statement) → placed_in places at stated.said ≡ here
    → ((more : List Statement) → rest ≡ Ok more → AreAt places (at + 1) lines more)
    → before stated.line here rest ≡ Ok body → AreAt places at (stated ∷ lines) body
are_before places at stated lines (Err kind) rest body is more e = absurd (let wrong : Err _ ≡ Ok body = e in cc)
are_before places at stated lines (Ok s) (Err fault) body is more e = absurd (let wrong : Err fault ≡ Ok body = e in cc)
are_before places at stated lines (Ok s) (Ok rest) body is more e =
    subst (AreAt places at (stated ∷ lines)) (let same : s ∷ rest ≡ body = cc in same) (is, more rest refl)

are_at : (places : List ℕ → Option ℕ) (at : ℕ) (lines : List Stated) (body : List Statement) → body_from places at lines ≡ Ok body → AreAt places at lines body
are_at places at [] body e = subst (AreAt places at []) (let same : [] ≡ body = cc in same) tt
are_at places at (stated ∷ lines) body e =
    are_before places at stated lines (placed_in places at stated.said) (body_from places (at + 1) lines) body refl
    (λ more is. are_at places (at + 1) lines more is) e

as_many : (places : List ℕ → Option ℕ) (at : ℕ) (lines : List Stated) (body : List Statement) → AreAt places at lines body → length body ≡ length lines
as_many places at [] [] are = refl
as_many places at [] (_ ∷ _) are = absurd are
as_many places at (_ ∷ _) [] are = absurd are
as_many places at (stated ∷ lines) (s ∷ body) are = omega (arith, as_many places (at + 1) lines body are.1)

-- the line that says a statement
record SaidAt (places : List ℕ → Option ℕ) (lines : List Stated) (i place : ℕ) (s : Statement) : Type 0 where
  stated : Stated
  is_there : slice_get lines i ≡ Some stated
  says : placed_in places place stated.said ≡ Ok s

said_at : (places : List ℕ → Option ℕ) (at : ℕ) (lines : List Stated) (body : List Statement) → AreAt places at lines body
    → (i place : ℕ) (s : Statement) → place ≡ at + i → slice_get body i ≡ Some s → SaidAt places lines i place s
said_at places at [] [] are i place s is e = absurd (let wrong : None ≡ Some s = e in cc)
said_at places at [] (_ ∷ _) are i place s is e = absurd are
said_at places at (_ ∷ _) [] are i place s is e = absurd are
said_at places at (stated ∷ lines) (first ∷ body) are zero place s is e = record {
  stated = stated;
  is_there = refl;
  says = subst (λ p. placed_in places p stated.said ≡ Ok s) (let same : at ≡ place = omega (arith, is) in same) (are.0 ∙ (let same : first ≡ s = cc in ap Ok same));
}
said_at places at (stated ∷ lines) (first ∷ body) are (suc i) place s is e =
    let found = said_at places (at + 1) lines body are.1 i place s (omega (arith, is)) e in
    record { stated = found.stated; is_there = found.is_there; says = found.says }

-- the statement that a line says
record IsAt (places : List ℕ → Option ℕ) (body : List Statement) (i place : ℕ) (stated : Stated) : Type 0 where
  what : Statement
  is_there : slice_get body i ≡ Some what
  says : placed_in places place stated.said ≡ Ok what

is_at : (places : List ℕ → Option ℕ) (at : ℕ) (lines : List Stated) (body : List Statement) → AreAt places at lines body
    → (i place : ℕ) (stated : Stated) → place ≡ at + i → slice_get lines i ≡ Some stated → IsAt places body i place stated
is_at places at [] [] are i place stated is e = absurd (let wrong : None ≡ Some stated = e in cc)
is_at places at [] (_ ∷ _) are i place stated is e = absurd are
is_at places at (_ ∷ _) [] are i place stated is e = absurd are
is_at places at (first ∷ lines) (s ∷ body) are zero place stated is e = record {
  what = s;
  is_there = refl;
  says =
      let same : first ≡ stated = cc in
      let here : at ≡ place = omega (arith, is) in
      subst (λ p. placed_in places p stated.said ≡ Ok s) here (subst (λ t. placed_in places at t.said ≡ Ok s) same are.0);
}
is_at places at (first ∷ lines) (s ∷ body) are (suc i) place stated is e =
    let found = is_at places (at + 1) lines body are.1 i place stated (omega (arith, is)) e in
    record { what = found.what; is_there = found.is_there; says = found.says }

-- the line of a label
record IsLabelLine (name : List ℕ) (lines : List Stated) (i : ℕ) : Type 0 where
  stated : Stated
  is_there : slice_get lines i ≡ Some stated
  says : stated.said ≡ Ok (spoken.Label name)

record IsFound (at : ℕ) (name : List ℕ) (lines : List Stated) (place : ℕ) : Type 0 where
  index : ℕ
  place_is : place ≡ at + index
  line : IsLabelLine name lines index

named : (name : List ℕ) (said : Spoken) → names name said ≡ true → said ≡ spoken.Label name
named name (spoken.Label label) is = ap spoken.Label ((bytes_eq-Decides label name).0 is)
named name (spoken.Whole said) is = absurd (let wrong : false ≡ true = is in cc)
named name (spoken.If left test right label) is = absurd (let wrong : false ≡ true = is in cc)
named name (spoken.Jump label) is = absurd (let wrong : false ≡ true = is in cc)
named name (spoken.Loop register label) is = absurd (let wrong : false ≡ true = is in cc)

found_behind : (at : ℕ) (name : List ℕ) (stated : Stated) (lines : List Stated) (place : ℕ) → IsFound (at + 1) name lines place → IsFound at name (stated ∷ lines) place
found_behind at name stated lines place found = record {
  index = suc found.index;
  place_is = omega (arith, found.place_is);
  line = record { stated = found.line.stated; is_there = found.line.is_there; says = found.line.says };
}

found_here : (at : ℕ) (name : List ℕ) (stated : Stated) (lines : List Stated) (said : Result Spoken FaultKind) (rest : Option ℕ) (place : ℕ)
    → stated.said ≡ said → ((p : ℕ) → rest ≡ Some p → IsFound (at + 1) name lines p)
    → place_in at name said rest ≡ Some place → IsFound at name (stated ∷ lines) place
found_here at name stated lines (Err kind) rest place is more e = found_behind at name stated lines place (more place e)
found_here at name stated lines (Ok said) rest place is more e =
    when (λ o. o ≡ Some place → IsFound at name (stated ∷ lines) place) (names name said) (Some at) rest
    (λ yes here. record {
      index = 0;
      place_is = (let same : at ≡ place = cc in omega (arith, same));
      line = record { stated = stated; is_there = refl; says = is ∙ ap Ok (named name said yes) };
    })
    (λ _ there. found_behind at name stated lines place (more place there))
    e

label_found : (at : ℕ) (name : List ℕ) (lines : List Stated) (place : ℕ) → place_from at name lines ≡ Some place → IsFound at name lines place
label_found at name [] place e = absurd (let wrong : None ≡ Some place = e in cc)
label_found at name (stated ∷ lines) place e =
    found_here at name stated lines stated.said (place_from (at + 1) name lines) place refl (λ p is. label_found (at + 1) name lines p is) e

-- a label at a place is the one that its name finds
label_here : (at : ℕ) (name : List ℕ) (found : Option ℕ) → IfOk (first_label at name found) (λ s. (s ≡ statement.Label name) × (found ≡ Some at))
label_here at name None = tt
label_here at name (Some place) =
    when (λ r. IfOk r (λ s. (s ≡ statement.Label name) × (Some place ≡ Some at))) (place == at) _ _
    (λ is. (refl, (let same : place ≡ at = grind (arith, is) in ap Some same))) (λ _. tt)

later_is : (at : ℕ) (found : Option ℕ) → IfOk (later at found) (λ place. (at < place) × (found ≡ Some place))
later_is at None = tt
later_is at (Some place) =
    when (λ r. IfOk r (λ p. (at < p) × (Some place ≡ Some p))) (nat_lt at place) _ _ (λ is. (grind (arith, is), refl)) (λ _. tt)

earlier_is : (at : ℕ) (found : Option ℕ) → IfOk (earlier at found) (λ place. (place < at) × (found ≡ Some place))
earlier_is at None = tt
earlier_is at (Some place) =
    when (λ r. IfOk r (λ p. (p < at) × (Some place ≡ Some p))) (nat_lt place at) _ _ (λ is. (grind (arith, is), refl)) (λ _. tt)

abbrev IsNoLabel : Statement → Type 0
IsNoLabel (statement.Label name) = ⊥
IsNoLabel (statement.Set _ _) = ⊤
IsNoLabel (statement.Add _ _) = ⊤
IsNoLabel (statement.If _ _ _ _) = ⊤
IsNoLabel (statement.Jump _) = ⊤
IsNoLabel (statement.Loop _ _) = ⊤
IsNoLabel (statement.Invoke _ _ _ _ _) = ⊤

-- a program that is read: its lines, and its statements
record IsBody (lines : List Stated) (body : List Statement) : Type 0 where
  stated : AreStated lines
  are : AreAt (λ name. place_from 0 name lines) 0 lines body

abbrev PlacesOf : List Stated → List ℕ → Option ℕ
PlacesOf lines name = place_from 0 name lines

-- where a name has a place, its label stands there
is_label : (lines : List Stated) (body : List Statement) → IsBody lines body → (name : List ℕ) (place : ℕ) → PlacesOf lines name ≡ Some place → IsLabel body place
is_label lines body is_body name place e =
    let found = label_found 0 name lines place e in
    let here : place ≡ found.index = omega (arith, found.place_is) in
    let there = is_at (PlacesOf lines) 0 lines body is_body.are found.index found.index found.line.stated (omega arith) found.line.is_there in
    let says : first_label found.index name (PlacesOf lines name) ≡ Ok there.what =
    subst (λ said. placed_in (PlacesOf lines) found.index said ≡ Ok there.what) found.line.says there.says in
    let is : there.what ≡ statement.Label name =
    (subst (λ r. IfOk r (λ s. (s ≡ statement.Label name) × (PlacesOf lines name ≡ Some found.index))) says (label_here found.index name (PlacesOf lines name))).0 in
    (name, ap (slice_get body) here ∙ there.is_there ∙ ap Some is)

-- a line that says a label says the first of its name
label_place : (places : List ℕ → Option ℕ) (at : ℕ) (said : Spoken) (name : List ℕ) → IsSpoken said → placed places at said ≡ Ok (statement.Label name)
    → places name ≡ Some at
label_place places at (spoken.Whole whole) name is e = absurd (subst IsWhole (let same : whole ≡ statement.Label name = cc in same) is)
label_place places at (spoken.Label label) name is e =
    let found = subst (λ r. IfOk r (λ s. (s ≡ statement.Label label) × (places label ≡ Some at))) e (label_here at label (places label)) in
    let same : name ≡ label = (let k : statement.Label name ≡ statement.Label label = found.0 in cc) in
    ap places same ∙ found.1
label_place places at (spoken.If left test right label) name is e =
    absurd (subst (λ r. IfOk r IsNoLabel) e (with_holds (λ _. ⊤) IsNoLabel (statement.If left test right) (later at (places label)) (λ _ _. tt) (any (later at (places label)))))
label_place places at (spoken.Jump label) name is e =
    absurd (subst (λ r. IfOk r IsNoLabel) e (with_holds (λ _. ⊤) IsNoLabel statement.Jump (later at (places label)) (λ _ _. tt) (any (later at (places label)))))
label_place places at (spoken.Loop register label) name is e =
    absurd (subst (λ r. IfOk r IsNoLabel) e (with_holds (λ _. ⊤) IsNoLabel (statement.Loop register) (earlier at (places label)) (λ _ _. tt) (any (earlier at (places label)))))

stated_at : (lines : List Stated) → AreStated lines → (i : ℕ) (stated : Stated) → slice_get lines i ≡ Some stated → IfOk stated.said IsSpoken
stated_at [] all i stated e = absurd (let wrong : None ≡ Some stated = e in cc)
stated_at (first ∷ lines) all zero stated e = subst (λ t. IfOk t.said IsSpoken) (let same : first ≡ stated = cc in same) all.0
stated_at (first ∷ lines) all (suc i) stated e = stated_at lines all.1 i stated e

label_says : (places : List ℕ → Option ℕ) (at : ℕ) (said : Result Spoken FaultKind) (name : List ℕ) → IfOk said IsSpoken
    → placed_in places at said ≡ Ok (statement.Label name) → places name ≡ Some at
label_says places at (Ok said) name is e = label_place places at said name is e
label_says places at (Err kind) name is e = absurd (let wrong : Err kind ≡ Ok (statement.Label name) = e in cc)

-- where a label stands, its name has this place
place_of_label : (lines : List Stated) (body : List Statement) → IsBody lines body → (at : ℕ) (name : List ℕ) → slice_get body at ≡ Some (statement.Label name)
    → PlacesOf lines name ≡ Some at
place_of_label lines body is_body at name e =
    let line = said_at (PlacesOf lines) 0 lines body is_body.are at at (statement.Label name) (omega arith) e in
    label_says (PlacesOf lines) at line.stated.said name (stated_at lines is_body.stated at line.stated line.is_there) line.says

is_first : (lines : List Stated) (body : List Statement) → IsBody lines body → (at : ℕ) (name : List ℕ) → PlacesOf lines name ≡ Some at → IsFirstLabel body at name
is_first lines body is_body at name here other before e =
    let there = place_of_label lines body is_body other name e in
    let same : Some other ≡ Some at = sym there ∙ here in
    let equal : other ≡ at = cc in
    omega (arith, before, equal)

whole_fits : (body : List Statement) (at : ℕ) (s : Statement) → IsWhole s → IsStatement body at s
whole_fits body at (statement.Set register value) is = is
whole_fits body at (statement.Add register value) is = is
whole_fits body at (statement.Invoke _ _ _ _ _) is = is
whole_fits body at (statement.If left test right place) is = absurd is
whole_fits body at (statement.Jump place) is = absurd is
whole_fits body at (statement.Label name) is = absurd is
whole_fits body at (statement.Loop register place) is = absurd is

placed_fits : (lines : List Stated) (body : List Statement) → IsBody lines body → (at : ℕ) (said : Spoken) → IsSpoken said
    → IfOk (placed (PlacesOf lines) at said) (IsStatement body at)
placed_fits lines body is_body at (spoken.Whole whole) is = whole_fits body at whole is
placed_fits lines body is_body at (spoken.If left test right label) is =
    with_holds (λ place. (at < place) × (PlacesOf lines label ≡ Some place)) (IsStatement body at) (statement.If left test right) (later at (PlacesOf lines label))
    (λ place found. (is.0, is.1, found.0, is_label lines body is_body label place found.1)) (later_is at (PlacesOf lines label))
placed_fits lines body is_body at (spoken.Jump label) is =
    with_holds (λ place. (at < place) × (PlacesOf lines label ≡ Some place)) (IsStatement body at) statement.Jump (later at (PlacesOf lines label))
    (λ place found. (found.0, is_label lines body is_body label place found.1)) (later_is at (PlacesOf lines label))
placed_fits lines body is_body at (spoken.Loop register label) is =
    with_holds (λ place. (place < at) × (PlacesOf lines label ≡ Some place)) (IsStatement body at) (statement.Loop register) (earlier at (PlacesOf lines label))
    (λ place found. (is, found.0, is_label lines body is_body label place found.1)) (earlier_is at (PlacesOf lines label))
placed_fits lines body is_body at (spoken.Label name) is =
    labelled (first_label at name (PlacesOf lines name)) (label_here at name (PlacesOf lines name))
  where
    labelled : (said : Result Statement FaultKind) → IfOk said (λ s. (s ≡ statement.Label name) × (PlacesOf lines name ≡ Some at)) → IfOk said (IsStatement body at)
    labelled (Err kind) found = tt
    labelled (Ok s) found = subst (IsStatement body at) (sym found.0) (is, is_first lines body is_body at name found.1)

says_fits : (lines : List Stated) (body : List Statement) → IsBody lines body → (at : ℕ) (said : Result Spoken FaultKind) (s : Statement) → IfOk said IsSpoken
    → placed_in (PlacesOf lines) at said ≡ Ok s → IsStatement body at s
says_fits lines body is_body at (Ok said) s is e = subst (λ r. IfOk r (IsStatement body at)) e (placed_fits lines body is_body at said is)
says_fits lines body is_body at (Err kind) s is e = absurd (let wrong : Err kind ≡ Ok s = e in cc)

statement_fits : (lines : List Stated) (body : List Statement) → IsBody lines body → (at : ℕ) (found : Option Statement) → slice_get body at ≡ found
    → IfSome found (IsStatement body at)
statement_fits lines body is_body at None e = tt
statement_fits lines body is_body at (Some s) e =
    let line = said_at (PlacesOf lines) 0 lines body is_body.are at at s (omega arith) e in
    says_fits lines body is_body at line.stated.said s (stated_at lines is_body.stated at line.stated line.is_there) line.says

-- what a program that is read promises: as many statements as its lines say, each with its promises
pub record IsRead (lines : List Stated) (body : List Statement) : Type 0 where
  pub count : length body ≡ length lines
  pub each : (at : ℕ) → IfSome (slice_get body at) (IsStatement body at)

pub program_fits : (lines : List Stated) → AreStated lines → IfOk (placed_body lines) (IsRead lines)
program_fits lines stated = go (placed_body lines) refl
  where
    go : (said : Result (List Statement) ScriptFault) → placed_body lines ≡ said → IfOk said (IsRead lines)
    go (Err fault) e = tt
    go (Ok body) e =
        let are = are_at (PlacesOf lines) 0 lines body e in
        let is_body : IsBody lines body = record { stated = stated; are = are } in
        record {
          count = as_many (PlacesOf lines) 0 lines body are;
          each = λ at. statement_fits lines body is_body at (slice_get body at) refl;
        }

-- What is wrong with a line of a program, as a function finds it.
use Rattle.std.proofs.Common.{◌≡◌, Bool, true, false, List, Option, None, Some, Result, Ok, Err, refl, ap, ◌∙◌, subst}
use Rattle.std.specs.Prelude.{ℕ, is_some, unwrap_or}
use Rattle.kabi_types.specs.declared.scripts.FaultKind.{FaultKind}
use Rattle.kabi_types.specs.declared.scripts.FaultKind.TheVariants.{NoSuchLabel, WrongWay, TwiceDefined}
use Rattle.posix_defs.specs.declared.said.InProgram.{InProgram}
use Rattle.posix_defs.specs.declared.said.InProgram.TheVariants as inside
use Rattle.posix_defs.specs.declared.said.Spoken.{Spoken}
use Rattle.posix_defs.specs.declared.said.Spoken.TheVariants as spoken
use Rattle.posix_defs.specs.ScriptParts.{Line, inside_of}
use Rattle.posix_defs.specs.ScriptMeaning.{spoken_in, spoken_by, label_of}
use Rattle.posix_defs.specs.ScriptFaults.{has_label, jump_of, loop_of, LineFault, unsaid, jumps_nowhere, loops_nowhere, jumps_back, loops_ahead, labelled_twice}

abbrev pub jump_fault : Bool → Bool → Option FaultKind
jump_fault true below = Some WrongWay
jump_fault false true = None
jump_fault false false = Some NoSuchLabel

abbrev pub loop_fault : Bool → Bool → Option FaultKind
loop_fault true below = None
loop_fault false true = Some WrongWay
loop_fault false false = Some NoSuchLabel

abbrev pub label_fault : Bool → Option FaultKind
label_fault true = Some TwiceDefined
label_fault false = None

abbrev pub spoken_fault : List Line → List Line → Spoken → Option FaultKind
spoken_fault above below (spoken.Whole _) = None
spoken_fault above below (spoken.If _ _ _ label) = jump_fault (has_label label above) (has_label label below)
spoken_fault above below (spoken.Jump label) = jump_fault (has_label label above) (has_label label below)
spoken_fault above below (spoken.Label name) = label_fault (has_label name above)
spoken_fault above below (spoken.Loop _ label) = loop_fault (has_label label above) (has_label label below)

abbrev pub inside_fault : List Line → List Line → Result InProgram FaultKind → Option FaultKind
inside_fault above below (Err kind) = Some kind
inside_fault above below (Ok inside.Silent) = None
inside_fault above below (Ok inside.Ends) = None
inside_fault above below (Ok (inside.Says said)) = spoken_fault above below said

-- the one fault of a line of a program
abbrev pub line_fault : List Line → Line → List Line → Option FaultKind
line_fault above line below = inside_fault above below (inside_of line)

abbrev spoken_at : List Line → List Line → Option Spoken → Option FaultKind
spoken_at above below None = None
spoken_at above below (Some said) = spoken_fault above below said

nothing_is : {A B : Type 0} (a : A) → None ≡ Some a → B
nothing_is a is = let wrong : false ≡ true = ap is_some is in cc

said_is : (above below : List Line) (said : Spoken) (told : Result InProgram FaultKind) → spoken_in told ≡ Some said
    → inside_fault above below told ≡ spoken_fault above below said
said_is above below said (Err kind) is = nothing_is said is
said_is above below said (Ok inside.Silent) is = nothing_is said is
said_is above below said (Ok inside.Ends) is = nothing_is said is
said_is above below said (Ok (inside.Says other)) is = ap (spoken_at above below) is

-- a name's labels, above and below
abbrev at_name : (Bool → Bool → Option FaultKind) → List Line → List Line → Option (List ℕ) → Option FaultKind
at_name judged above below None = None
at_name judged above below (Some name) = judged (has_label name above) (has_label name below)

jump_is : (above below : List Line) (said : Spoken) (label : List ℕ) → jump_of said ≡ Some label
    → spoken_fault above below said ≡ jump_fault (has_label label above) (has_label label below)
jump_is above below (spoken.If left test right other) label is = ap (at_name jump_fault above below) is
jump_is above below (spoken.Jump other) label is = ap (at_name jump_fault above below) is
jump_is above below (spoken.Whole _) label is = nothing_is label is
jump_is above below (spoken.Label _) label is = nothing_is label is
jump_is above below (spoken.Loop _ _) label is = nothing_is label is

loop_is : (above below : List Line) (said : Spoken) (label : List ℕ) → loop_of said ≡ Some label
    → spoken_fault above below said ≡ loop_fault (has_label label above) (has_label label below)
loop_is above below (spoken.Loop register other) label is = ap (at_name loop_fault above below) is
loop_is above below (spoken.If _ _ _ _) label is = nothing_is label is
loop_is above below (spoken.Jump _) label is = nothing_is label is
loop_is above below (spoken.Whole _) label is = nothing_is label is
loop_is above below (spoken.Label _) label is = nothing_is label is

label_is : (above below : List Line) (said : Spoken) (name : List ℕ) → label_of said ≡ Some name
    → spoken_fault above below said ≡ label_fault (has_label name above)
label_is above below (spoken.Label other) name is = ap (at_name (λ found _. label_fault found) above below) is
label_is above below (spoken.If _ _ _ _) name is = nothing_is name is
label_is above below (spoken.Jump _) name is = nothing_is name is
label_is above below (spoken.Whole _) name is = nothing_is name is
label_is above below (spoken.Loop _ _) name is = nothing_is name is

-- whatever is wrong with a line, the function finds it
pub fault_is : (above : List Line) (line : Line) (below : List Line) (kind : FaultKind) → LineFault above line below kind
    → line_fault above line below ≡ Some kind
fault_is above line below _ (unsaid kind is) = ap (inside_fault above below) is
fault_is above line below _ (jumps_nowhere said label says goes no_above no_below) =
    said_is above below said (inside_of line) says ∙ jump_is above below said label goes
    ∙ ap (λ b. jump_fault b (has_label label below)) no_above ∙ ap (jump_fault false) no_below
fault_is above line below _ (loops_nowhere said label says goes no_above no_below) =
    said_is above below said (inside_of line) says ∙ loop_is above below said label goes
    ∙ ap (λ b. loop_fault b (has_label label below)) no_above ∙ ap (loop_fault false) no_below
fault_is above line below _ (jumps_back said label says goes is_above) =
    said_is above below said (inside_of line) says ∙ jump_is above below said label goes
    ∙ ap (λ b. jump_fault b (has_label label below)) is_above
fault_is above line below _ (loops_ahead said label says goes no_above is_below) =
    said_is above below said (inside_of line) says ∙ loop_is above below said label goes
    ∙ ap (λ b. loop_fault b (has_label label below)) no_above ∙ ap (loop_fault false) is_below
fault_is above line below _ (labelled_twice said label says is is_above) =
    said_is above below said (inside_of line) says ∙ label_is above below said label is ∙ ap label_fault is_above

as_kind : (above : List Line) (line : Line) (below : List Line) (found kind : FaultKind) → Some found ≡ Some kind
    → LineFault above line below found → LineFault above line below kind
as_kind above line below found kind is wrong = subst (LineFault above line below) (ap (λ o. unwrap_or o found) is) wrong

jump_has : (above : List Line) (line : Line) (below : List Line) (said : Spoken) (label : List ℕ) (kind : FaultKind) (up down : Bool)
    → spoken_by line ≡ Some said → jump_of said ≡ Some label → has_label label above ≡ up → has_label label below ≡ down
    → jump_fault up down ≡ Some kind → LineFault above line below kind
jump_has above line below said label kind true down says goes is_up is_down is = as_kind above line below WrongWay kind is (jumps_back said label says goes is_up)
jump_has above line below said label kind false true says goes is_up is_down is = nothing_is kind is
jump_has above line below said label kind false false says goes is_up is_down is =
    as_kind above line below NoSuchLabel kind is (jumps_nowhere said label says goes is_up is_down)

loop_has : (above : List Line) (line : Line) (below : List Line) (said : Spoken) (label : List ℕ) (kind : FaultKind) (up down : Bool)
    → spoken_by line ≡ Some said → loop_of said ≡ Some label → has_label label above ≡ up → has_label label below ≡ down
    → loop_fault up down ≡ Some kind → LineFault above line below kind
loop_has above line below said label kind true down says goes is_up is_down is = nothing_is kind is
loop_has above line below said label kind false true says goes is_up is_down is =
    as_kind above line below WrongWay kind is (loops_ahead said label says goes is_up is_down)
loop_has above line below said label kind false false says goes is_up is_down is =
    as_kind above line below NoSuchLabel kind is (loops_nowhere said label says goes is_up is_down)

label_has : (above : List Line) (line : Line) (below : List Line) (said : Spoken) (label : List ℕ) (kind : FaultKind) (up : Bool)
    → spoken_by line ≡ Some said → label_of said ≡ Some label → has_label label above ≡ up
    → label_fault up ≡ Some kind → LineFault above line below kind
label_has above line below said label kind true says named is_up is = as_kind above line below TwiceDefined kind is (labelled_twice said label says named is_up)
label_has above line below said label kind false says named is_up is = nothing_is kind is

spoken_has : (above : List Line) (line : Line) (below : List Line) (said : Spoken) (kind : FaultKind) → spoken_by line ≡ Some said
    → spoken_fault above below said ≡ Some kind → LineFault above line below kind
spoken_has above line below (spoken.Whole whole) kind says is = nothing_is kind is
spoken_has above line below (spoken.If left test right label) kind says is =
    jump_has above line below (spoken.If left test right label) label kind (has_label label above) (has_label label below) says refl refl refl is
spoken_has above line below (spoken.Jump label) kind says is =
    jump_has above line below (spoken.Jump label) label kind (has_label label above) (has_label label below) says refl refl refl is
spoken_has above line below (spoken.Label name) kind says is =
    label_has above line below (spoken.Label name) name kind (has_label name above) says refl refl is
spoken_has above line below (spoken.Loop register label) kind says is =
    loop_has above line below (spoken.Loop register label) label kind (has_label label above) (has_label label below) says refl refl refl is

inside_has : (above : List Line) (line : Line) (below : List Line) (told : Result InProgram FaultKind) (kind : FaultKind) → inside_of line ≡ told
    → inside_fault above below told ≡ Some kind → LineFault above line below kind
inside_has above line below (Err found) kind tells is = as_kind above line below found kind is (unsaid found tells)
inside_has above line below (Ok inside.Silent) kind tells is = nothing_is kind is
inside_has above line below (Ok inside.Ends) kind tells is = nothing_is kind is
inside_has above line below (Ok (inside.Says said)) kind tells is = spoken_has above line below said kind (ap spoken_in tells) is

-- what the function finds is wrong
pub fault_has : (above : List Line) (line : Line) (below : List Line) (kind : FaultKind) → line_fault above line below ≡ Some kind
    → LineFault above line below kind
fault_has above line below kind is = inside_has above line below (inside_of line) kind refl is

-- Where labels stand among the lines of a program, as the reader counts and as its statements are counted.
use Rattle.std.proofs.Common.{◌≡◌, ℕ, suc, ◌+◌, ◌<◌, ◌≤◌, Bool, true, false, ◌||◌, List, [], ◌∷◌, ◌++◌, length, Option, None, Some, Result, Ok, Err, refl, ap, ◌∙◌, arith}
use Rattle.std.specs.Prelude.{filter_map, if◌then◌else◌}
use Rattle.std.specs.List.{cons_option}
use Rattle.std.proofs.lemmas.List.Elements.{filter_map-append}
use Rattle.kabi_types.specs.declared.scripts.FaultKind.{FaultKind}
use Rattle.posix_defs.specs.declared.said.InProgram.{InProgram}
use Rattle.posix_defs.specs.declared.said.InProgram.TheVariants as inside
use Rattle.posix_defs.specs.declared.said.Spoken.{Spoken}
use Rattle.posix_defs.specs.declared.said.Spoken.TheVariants as spoken
use Rattle.posix_defs.specs.declared.said.Stated.{Stated}
use Rattle.posix_defs.specs.ScriptParts.{Line, inside_of}
use Rattle.posix_defs.specs.ScriptMeaning.{spoken_in, is_named, label_of}
use Rattle.posix_defs.specs.ScriptFaults.{has_label, label_by}
use Rattle.script_read.specs.LabelPlaces.{names, place_from}

-- what the reader keeps of a line of a program: nothing of a silent one, nor of its end
abbrev pub stated_by : ℕ → Result InProgram FaultKind → Option Stated
stated_by number (Ok inside.Silent) = None
stated_by number (Ok inside.Ends) = None
stated_by number (Ok (inside.Says said)) = Some (record { line = number; said = Ok said })
stated_by number (Err kind) = Some (record { line = number; said = Err kind })

abbrev pub stated_of : List Line → List Stated
stated_of lines = filter_map (λ line. stated_by line.number (inside_of line)) lines

pub stated_append : (above below : List Line) → stated_of (above ++ below) ≡ stated_of above ++ stated_of below
stated_append above below = filter_map-append (λ line. stated_by line.number (inside_of line)) above below

pub names_is : (name : List ℕ) (said : Spoken) → names name said ≡ is_named name (label_of said)
names_is name (spoken.Label label) = refl
names_is name (spoken.Whole _) = refl
names_is name (spoken.If _ _ _ _) = refl
names_is name (spoken.Jump _) = refl
names_is name (spoken.Loop _ _) = refl

-- Behind lines without a label, its place is that among the lines behind them.
abbrev pub IsPassed : List ℕ → List Stated → List Stated → Type 0
IsPassed name front back = (i : ℕ) → place_from i name (front ++ back) ≡ place_from (i + length front) name back

one_on : (name : List ℕ) (rest back : List Stated) (i : ℕ) → IsPassed name rest back
    → place_from (i + 1) name (rest ++ back) ≡ place_from (i + suc (length rest)) name back
one_on name rest back i more = let same : i + 1 + length rest ≡ i + suc (length rest) = omega arith in more (i + 1) ∙ ap (λ k. place_from k name back) same

passes_said : (name : List ℕ) (number : ℕ) (said : Spoken) (rest back : List Stated) (here any : Bool) → is_named name (label_of said) ≡ here
    → (here || any) ≡ false → (any ≡ false → IsPassed name rest back)
    → IsPassed name (record { line = number; said = Ok said } ∷ rest) back
passes_said name number said rest back true any is none more i = let wrong : true ≡ false = none in absurd cc
passes_said name number said rest back false any is none more i =
    ap (λ b. if b then Some i else place_from (i + 1) name (rest ++ back)) (names_is name said ∙ is) ∙ one_on name rest back i (more none)

passes_by : (name : List ℕ) (number : ℕ) (told : Result InProgram FaultKind) (rest back : List Stated) (any : Bool)
    → (is_named name (label_by (spoken_in told)) || any) ≡ false → (any ≡ false → IsPassed name rest back)
    → IsPassed name (cons_option (stated_by number told) rest) back
passes_by name number (Ok inside.Silent) rest back any none more i = more none i
passes_by name number (Ok inside.Ends) rest back any none more i = more none i
passes_by name number (Ok (inside.Says said)) rest back any none more i =
    passes_said name number said rest back (is_named name (label_of said)) any refl none more i
passes_by name number (Err kind) rest back any none more i = one_on name rest back i (more none)

pub passes : (name : List ℕ) (lines : List Line) (back : List Stated) → has_label name lines ≡ false → IsPassed name (stated_of lines) back
passes name [] back none i = let same : i ≡ i + 0 = omega arith in ap (λ k. place_from k name back) same
passes name (line ∷ lines) back none i =
    passes_by name line.number (inside_of line) (stated_of lines) back (has_label name lines) none (passes name lines back) i

-- A label stands at a place among these, whatever stands behind them.
pub record IsFound (name : List ℕ) (front back : List Stated) (i : ℕ) : Type 0 where
  pub place : ℕ
  pub is : place_from i name (front ++ back) ≡ Some place
  pub least : i ≤ place
  pub most : place < i + length front

found_on : (name : List ℕ) (number : ℕ) (said : Result Spoken FaultKind) (rest back : List Stated) (i : ℕ)
    → place_from i name (record { line = number; said = said } ∷ rest ++ back) ≡ place_from (i + 1) name (rest ++ back)
    → IsFound name rest back (i + 1) → IsFound name (record { line = number; said = said } ∷ rest) back i
found_on name number said rest back i on found = record {
  place = found.place;
  is = on ∙ found.is;
  least = omega (arith, found.least);
  most = omega (arith, found.most);
}

found_said : (name : List ℕ) (number : ℕ) (said : Spoken) (rest back : List Stated) (here any : Bool) (i : ℕ) → is_named name (label_of said) ≡ here
    → (here || any) ≡ true → (any ≡ true → IsFound name rest back (i + 1))
    → IsFound name (record { line = number; said = Ok said } ∷ rest) back i
found_said name number said rest back true any i is some more = record {
  place = i;
  is = ap (λ b. if b then Some i else place_from (i + 1) name (rest ++ back)) (names_is name said ∙ is);
  least = omega arith;
  most = omega arith;
}
found_said name number said rest back false any i is some more =
    found_on name number (Ok said) rest back i
    (ap (λ b. if b then Some i else place_from (i + 1) name (rest ++ back)) (names_is name said ∙ is)) (more some)

found_by : (name : List ℕ) (number : ℕ) (told : Result InProgram FaultKind) (rest back : List Stated) (any : Bool) (i : ℕ)
    → (is_named name (label_by (spoken_in told)) || any) ≡ true → (any ≡ true → (j : ℕ) → IsFound name rest back j)
    → IsFound name (cons_option (stated_by number told) rest) back i
found_by name number (Ok inside.Silent) rest back any i some more = more some i
found_by name number (Ok inside.Ends) rest back any i some more = more some i
found_by name number (Ok (inside.Says said)) rest back any i some more =
    found_said name number said rest back (is_named name (label_of said)) any i refl some (λ is. more is (i + 1))
found_by name number (Err kind) rest back any i some more = found_on name number (Err kind) rest back i refl (more some (i + 1))

pub found_in : (name : List ℕ) (lines : List Line) (back : List Stated) → has_label name lines ≡ true → (i : ℕ) → IsFound name (stated_of lines) back i
found_in name [] back some i = let wrong : false ≡ true = some in absurd cc
found_in name (line ∷ lines) back some i =
    found_by name line.number (inside_of line) (stated_of lines) back (has_label name lines) i some (found_in name lines back)

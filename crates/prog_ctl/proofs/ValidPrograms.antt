-- A valid script's programs can be run.
use Rattle.std.proofs.Common.{◌≡◌, ℕ, zero, suc, ◌<◌, ◌≤◌, Bool, true, false, ◌&&◌, List, [], ◌∷◌, length, Option, None, Some, refl, sym, ap, subst, arith}
use Rattle.std.specs.Prelude.{IfSome, slice_get, nat_le}
use Rattle.std.specs.List.{AllByRecursion}
use Rattle.std.proofs.lemmas.Option.{slice_get_within}
use Rattle.kabi_types.specs.declared.calls.CallKind.{CallKind}
use Rattle.kabi_types.specs.declared.calls.CallKind.TheVariants as kind
use Rattle.kabi_types.specs.declared.scripts.Control.{Control}
use Rattle.kabi_types.specs.declared.scripts.Operand.{Operand}
use Rattle.kabi_types.specs.declared.scripts.Operand.TheVariants.{Reg, Number}
use Rattle.kabi_types.specs.declared.scripts.Program.{Program}
use Rattle.kabi_types.specs.declared.scripts.Script.{Script}
use Rattle.kabi_types.specs.declared.scripts.Statement.{Statement}
use Rattle.kabi_types.specs.declared.scripts.Statement.TheVariants as statement
use Rattle.posix_defs.specs.declared.said.Shape.{Shape}
use Rattle.posix_defs.specs.declared.said.Shape.TheVariants as shape
use Rattle.posix_defs.specs.ScriptLines.{shape_of}
use Rattle.posix_defs.specs.Control.{body_of, statements_of}
use Rattle.posix_defs.specs.ValidScript as valid
use Rattle.posix_defs.specs.ValidScript.{AreTargets, Fits, IsLabel, IsPath, IsProgram, IsRegister, IsStatement}
use Rattle.prog_ctl.specs.Runnable.{IsLater, IsOperand, IsRunnable, IsRunnableAt, Stands, most_text}

both_true : (a b : Bool) → (a && b) ≡ true → a ≡ true
both_true true b is = refl
both_true false b is = let wrong : false ≡ true = is in absurd cc

path_short : (text : List ℕ) → IsPath text → length text ≤ 255
path_short text is = let short = both_true (nat_le (length text) 255) _ is.0 in grind (arith, short)

-- the texts of a call whose operands have this shape fit into it
texts_fit : (shape : Shape) (values : List Operand) (texts : List (List ℕ)) → Fits shape values texts
    → AllByRecursion (λ text. length text ≤ most_text shape) texts
texts_fit (shape.Values count) values texts fits = subst (AllByRecursion (λ text. length text ≤ 255)) (sym fits.texts_are) tt
texts_fit shape.OnePath values texts fits = subst (AllByRecursion (λ text. length text ≤ 255)) (sym fits.texts_are) (path_short fits.text fits.fits, tt)
texts_fit shape.TwoPaths values texts fits =
    subst (AllByRecursion (λ text. length text ≤ 255)) (sym fits.texts_are) (path_short fits.old fits.is_old, (path_short fits.new fits.is_new, tt))
texts_fit shape.PathValue values texts fits = subst (AllByRecursion (λ text. length text ≤ 255)) (sym fits.texts_are) (path_short fits.text fits.fits, tt)
texts_fit shape.ValuePath values texts fits = subst (AllByRecursion (λ text. length text ≤ 255)) (sym fits.texts_are) (path_short fits.text fits.fits, tt)
texts_fit shape.ValueBytes values texts fits = subst (AllByRecursion (λ text. length text ≤ 64)) (sym fits.texts_are) (fits.fits.0, tt)
texts_fit shape.Pairs values texts fits = subst (AllByRecursion (λ text. length text ≤ 255)) (sym fits.texts_are) tt

abbrev is_few : Shape → Bool
is_few (shape.Values count) = nat_le count 17
is_few _ = true

-- no call has more than 17 values
few : (call : CallKind) → is_few (shape_of call) ≡ true
few kind.Getpid = refl
few _ = refl

few_values : (shape : Shape) (values : List Operand) (texts : List (List ℕ)) → Fits shape values texts → is_few shape ≡ true → length values ≤ 17
few_values (shape.Values count) values texts fits few = grind (arith, fits.values_are, few)
few_values shape.OnePath values texts fits few = omega (arith, fits.values_are)
few_values shape.TwoPaths values texts fits few = omega (arith, ap length fits.values_are)
few_values shape.PathValue values texts fits few = omega (arith, fits.values_are)
few_values shape.ValuePath values texts fits few = omega (arith, fits.values_are)
few_values shape.ValueBytes values texts fits few = omega (arith, fits.values_are)
few_values shape.Pairs values texts fits few = fits.most

operand_runs : (operand : Operand) → valid.IsOperand operand → IsOperand operand
operand_runs (Reg register) is = is
operand_runs (Number value) is = tt

operands_run : (operands : List Operand) → AllByRecursion valid.IsOperand operands → AllByRecursion IsOperand operands
operands_run [] all = tt
operands_run (operand ∷ operands) all = (operand_runs operand all.0, operands_run operands all.1)

first_target : (first second : Option ℕ) → AreTargets first second → IfSome first IsRegister
first_target first None are = are
first_target first (Some second) are = are.1

second_target : (first second : Option ℕ) → AreTargets first second → IfSome second IsRegister
second_target first None are = tt
second_target first (Some second) are = are.2

later_label : (body : List Statement) (at place : ℕ) → length body < valid.too_many_statements → at < place → IsLabel body place → IsLater at place
later_label body at place short later label =
    let within = slice_get_within body place (statement.Label label.0) label.1 in (later, omega (arith, within, short))

statement_runs : (body : List Statement) (at : ℕ) (here : Statement) → length body < valid.too_many_statements → IsStatement body at here → IsRunnableAt at here
statement_runs body at (statement.Set register value) short is = (is.0, operand_runs value is.1)
statement_runs body at (statement.Add register value) short is = (is.0, operand_runs value is.1)
statement_runs body at (statement.If left test right place) short is =
    (operand_runs left is.0, operand_runs right is.1, later_label body at place short is.2 is.3)
statement_runs body at (statement.Jump place) short is = later_label body at place short is.0 is.1
statement_runs body at (statement.Label name) short is = tt
statement_runs body at (statement.Loop register place) short is = (is.0, is.1)
statement_runs body at (statement.Invoke call values texts first second) short is =
    (operands_run values is.0, texts_fit (shape_of call) values texts is.1, few_values (shape_of call) values texts is.1 (few call), first_target first second is.2, second_target first second is.2)

runs_at : (body : List Statement) (at : ℕ) (here : Option Statement) → length body < valid.too_many_statements → IfSome here (IsStatement body at)
    → IfSome here (IsRunnableAt at)
runs_at body at None short is = tt
runs_at body at (Some here) short is = statement_runs body at here short is

program_runs : (program : Program) → IsProgram program → IsRunnable program.body × (length program.body < 4294967295)
program_runs program is =
    ((λ at. runs_at program.body at (slice_get program.body at) is.short (is.body at)), let short = is.short in omega (arith, short))

abbrev Runs : Option Program → Type 0
Runs program = IsRunnable (statements_of program) × (length (statements_of program) < 4294967295)

nothing_runs : (at : ℕ) → IfSome (slice_get [] at) (IsRunnableAt at)
nothing_runs zero = tt
nothing_runs (suc at) = tt

programs_run : (programs : List Program) (at : ℕ) → AllByRecursion IsProgram programs → Runs (slice_get programs at)
programs_run [] at all = (nothing_runs, omega arith)
programs_run (program ∷ programs) zero all = program_runs program all.0
programs_run (program ∷ programs) (suc at) all = programs_run programs at all.1

-- the program in which a control stands can be run
pub stands_runs : (script : Script) (control : Control) → Stands script control
    → IsRunnable (body_of script control) × (length (body_of script control) < 4294967295)
stands_runs script control stands = programs_run script.programs control.program stands.valid.programs

-- and so is a body that is that program's
pub body_runs : (script : Script) (control : Control) (body : List Statement) → Stands script control → body ≡ body_of script control
    → IsRunnable body × (length body < 4294967295)
body_runs script control body stands is = subst (λ b. IsRunnable b × (length b < 4294967295)) (sym is) (stands_runs script control stands)

-- the statement at which it stands can be run
pub here_runs : (script : Script) (control : Control) (body : List Statement) (here : Option Statement) → Stands script control → body ≡ body_of script control
    → here ≡ slice_get body control.place → IfSome here (IsRunnableAt control.place)
here_runs script control body here stands is at =
    subst (λ o. IfSome o (IsRunnableAt control.place)) (sym at) ((body_runs script control body stands is).0 control.place)

-- its place is one that a control has
pub place_fits : (script : Script) (control : Control) → Stands script control → control.place < 4294967295
place_fits script control stands = let short = (stands_runs script control stands).1 in let place = stands.place in omega (arith, short, place)

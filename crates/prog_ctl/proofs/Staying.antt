-- A control stays in its program: local statements and replies lead to places of the same program.
use Rattle.std.proofs.Common.{◌≡◌, ℕ, zero, suc, ◌<◌, ◌≤◌, Bool, true, false, List, [], ◌∷◌, length, Option, None, Some, refl, sym, ◌∙◌, subst, arith}
use Rattle.std.specs.Prelude.{ℤ, pos, int_lt, if◌then◌else◌, slice_get, IfSome}
use Rattle.std.specs.List.{AllByRecursion}
use Rattle.std.proofs.lemmas.Option.{slice_get_within}
use Rattle.kabi_types.specs.Reply.{first_of, second_of}
use Rattle.kabi_types.specs.declared.replies.Reply.{Reply}
use Rattle.kabi_types.specs.declared.scripts.Control.{Control}
use Rattle.kabi_types.specs.declared.scripts.Program.{Program}
use Rattle.kabi_types.specs.declared.scripts.Script.{Script}
use Rattle.kabi_types.specs.declared.scripts.Statement.{Statement}
use Rattle.kabi_types.specs.declared.scripts.Statement.TheVariants as statement
use Rattle.posix_defs.specs.Control.{after, after_at, afresh, at_place, body_of, carry_on, forward, into, local_at, passes, register_of, restarted, settle, settled, statement_of, statements_of, value_of}
use Rattle.posix_defs.specs.ValidScript.{IsLabel, IsProgram, IsStatement, IsValid}
use Rattle.prog_ctl.specs.Runnable.{Rests, Stands}
use Rattle.prog_ctl.proofs.Settling.{after_is}

label_within : (body : List Statement) (place : ℕ) → IsLabel body place → place < length body
label_within body place label = slice_get_within body place _ label.1

all_at : {X : Type 0} (P : X → Type 0) (xs : List X) (i : ℕ) → AllByRecursion P xs → IfSome (slice_get xs i) P
all_at P [] i all = tt
all_at P (x ∷ xs) zero all = all.0
all_at P (x ∷ xs) (suc i) all = all_at P xs i all.1

-- each statement of a program is valid at its place
abbrev IsBody : List Statement → Type 0
IsBody body = (at : ℕ) → IfSome (slice_get body at) (IsStatement body at)

body_is : (found : Option Program) → IfSome found IsProgram → IsBody (statements_of found)
body_is None is = λ at. tt
body_is (Some program) is = is.body

valid_body : (script : Script) (control : Control) → IsValid script → IsBody (body_of script control)
valid_body script control is = body_is (slice_get script.programs control.program) (all_at IsProgram script.programs control.program is.programs)

-- a control at a place of this program, which has this body
abbrev StaysIn : List Statement → ℕ → Control → Type 0
StaysIn body program control = (control.program ≡ program) × (control.place ≤ length body)

branch_in : (body : List Statement) (control : Control) (place : ℕ) (taken : Bool) → control.place < length body → place < length body
    → StaysIn body control.program (if taken then at_place control place else forward control)
branch_in body control place true here there = (refl, (omega (arith, there)))
branch_in body control place false here there = (refl, (omega (arith, here)))

loop_in : (body : List Statement) (control : Control) (above : Bool) → control.place < length body
    → IfSome (if above then None else Some (forward control)) (StaysIn body control.program)
loop_in body control true here = tt
loop_in body control false here = (refl, (omega (arith, here)))

-- a local statement leads to a place of the program
local_in : (body : List Statement) (control : Control) (here : Option Statement) → slice_get body control.place ≡ here
    → IfSome here (IsStatement body control.place) → IfSome (local_at control here) (StaysIn body control.program)
local_in body control None e is = tt
local_in body control (Some (statement.Set register value)) e is = (refl, (omega (arith, slice_get_within body control.place _ e)))
local_in body control (Some (statement.Add register value)) e is = (refl, (omega (arith, slice_get_within body control.place _ e)))
local_in body control (Some (statement.If left test right place)) e is =
    branch_in body control place (passes test (value_of control left) (value_of control right)) (slice_get_within body control.place _ e) (label_within body place is.3)
local_in body control (Some (statement.Jump place)) e is = (refl, (omega (arith, label_within body place is.1)))
local_in body control (Some (statement.Label name)) e is = (refl, (omega (arith, slice_get_within body control.place _ e)))
local_in body control (Some (statement.Loop register place)) e is =
    loop_in body control (int_lt (pos 0) (register_of control register)) (slice_get_within body control.place _ e)
local_in body control (Some (statement.Invoke which values texts first second)) e is = tt

on_in : (body : List Statement) (control : Control) (rest : Control → Control)
    → ((next : Control) → next.place ≤ length body → StaysIn body next.program (rest next))
    → (next : Option Control) → IfSome next (StaysIn body control.program) → control.place ≤ length body
    → StaysIn body control.program (carry_on control rest next)
on_in body control rest goes None is place = (refl, place)
on_in body control rest goes (Some next) is place = let led = goes next is.1 in (led.0 ∙ is.0, led.1)

settle_in : (turns : ℕ) (body : List Statement) (control : Control) → IsBody body → control.place ≤ length body
    → StaysIn body control.program (settle turns body control)
settle_in zero body control is place = (refl, place)
settle_in (suc turns) body control is place =
    on_in body control (λ next. settle turns body next) (λ next at. settle_in turns body next is at)
    (local_at control (slice_get body control.place)) (local_in body control (slice_get body control.place) refl (is control.place)) place

-- a control that stays in a program stands in the script
stays : (script : Script) (old new : Control) → Stands script old → StaysIn (body_of script old) old.program new → Stands script new
stays script old new stands stay = record {
  valid = stands.valid;
  program = subst (λ p. p < length script.programs) (sym stay.0) stands.program;
  place = subst (λ p. new.place ≤ length (statements_of (slice_get script.programs p))) (sym stay.0) stay.1;
}

-- local statements lead to a place to stand at
pub settled_stands : (script : Script) (control : Control) → Stands script control → Stands script (settled script control)
settled_stands script control stands =
    stays script control (settled script control) stands
    (settle_in (length (body_of script control)) (body_of script control) control (valid_body script control stands.valid) stands.place)

into_keeps : (control : Control) (register : Option ℕ) (value : ℤ)
    → ((into control register value).program ≡ control.program) × ((into control register value).place ≡ control.place)
into_keeps control None value = (refl, refl)
into_keeps control (Some register) value = (refl, refl)

-- so does a reply
after_in : (body : List Statement) (control : Control) (reply : Reply) (here : Option Statement) → slice_get body control.place ≡ here
    → IfSome here (IsStatement body control.place) → control.place ≤ length body → StaysIn body control.program (after_at control reply here)
after_in body control reply None e is place = (refl, place)
after_in body control reply (Some (statement.Invoke which values texts first second)) e is place =
    let one = into_keeps control first (first_of reply) in
    let both = into_keeps (into control first (first_of reply)) second (second_of reply) in
    (both.0 ∙ one.0, (omega (arith, slice_get_within body control.place _ e, one.1, both.1)))
after_in body control reply (Some (statement.Loop register to)) e is place = (refl, (omega (arith, label_within body to is.2)))
after_in body control reply (Some _) e is place = (refl, place)

pub after_stands : (script : Script) (control : Control) (reply : Reply) → Stands script control → Rests script control
    → Stands script (after script control reply)
after_stands script control reply stands rests =
    subst (Stands script) (after_is script control reply rests)
    (stays script control (afresh (after_at control reply (statement_of script control))) stands
    (after_in (body_of script control) control reply (statement_of script control) refl (valid_body script control stands.valid control.place) stands.place))

-- the start of another program of the script is a place to stand at
pub restarted_stands : (script : Script) (control : Control) (program : ℕ) → IsValid script → program < length script.programs
    → Stands script (restarted control program)
restarted_stands script control program valid less = record { valid = valid; program = less; place = omega arith }

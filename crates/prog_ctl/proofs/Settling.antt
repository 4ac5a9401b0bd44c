-- Local statements lead on to the next call, each to a later place.
use Rattle.std.proofs.Common.{◌≡◌, ℕ, zero, suc, ◌+◌, ◌<◌, ◌≤◌, Bool, true, false, List, length, Option, None, Some, refl, sym, ap, ◌∙◌, arith}
use Rattle.std.specs.Prelude.{slice_get, if◌then◌else◌, int_lt, pos}
use Rattle.kabi_types.specs.declared.scripts.Control.{Control}
use Rattle.kabi_types.specs.declared.scripts.Statement.{Statement}
use Rattle.kabi_types.specs.declared.scripts.Statement.TheVariants as statement
use Rattle.kabi_types.specs.declared.replies.Reply.{Reply}
use Rattle.kabi_types.specs.declared.scripts.Script.{Script}
use Rattle.posix_defs.specs.Control.{after, after_at, afresh, at_place, body_of, call_at, call_of, carry_on, forward, local, local_at, passes, register_of, settle, settled, statement_of, statements_of, value_of}
use Rattle.prog_ctl.specs.Runnable.{IsLater, IsRunnableAt, Rests}

-- how far settling has come: with so many turns left it ends as it would from the start
abbrev pub SettlesAs : List Statement → Control → Control → Type 0
SettlesAs body old now = (turns : ℕ) × (settle turns body now ≡ settle (length body) body old) × (length body ≤ turns + now.place)

pub settles_from : (body : List Statement) (control : Control) → SettlesAs body control control
settles_from body control = (length body, refl, (omega arith))

-- a statement that is there has a turn left
pub settles_on : (body : List Statement) (old now next : Control) (here : Statement) → SettlesAs body old now → now.place < length body
    → slice_get body now.place ≡ Some here → local now here ≡ Some next → now.place < next.place → SettlesAs body old next
settles_on body old now next here (zero, is, left) within there leads later = absurd (omega (arith, left, within))
settles_on body old now next here (suc turns, is, left) within there leads later =
    (turns, (sym (ap (carry_on now (λ c. settle turns body c)) (ap (local_at now) there ∙ leads)) ∙ is), (omega (arith, left, later)))

-- where the next call is, settling is done
pub settled_at : (body : List Statement) (old now : Control) → SettlesAs body old now → local_at now (slice_get body now.place) ≡ None
    → now ≡ settle (length body) body old
settled_at body old now (zero, is, left) none = is
settled_at body old now (suc turns, is, left) none = sym (ap (carry_on now (λ c. settle turns body c)) none) ∙ is

abbrev some_in : Option Control → ℕ
some_in None = 0
some_in (Some control) = 1

-- the place of a control, if there is one
abbrev place_in : Option Control → ℕ
place_in None = 0
place_in (Some control) = control.place

branch_later : (control next : Control) (place : ℕ) (taken : Bool) → IsLater control.place place → control.place < 4294967295
    → Some (if taken then at_place control place else forward control) ≡ Some next → IsLater control.place next.place
branch_later control next place true later small is = let there = ap place_in is in ((omega (arith, there, later.0)), (omega (arith, there, later.1)))
branch_later control next place false later small is = let there = ap place_in is in ((omega (arith, there)), (omega (arith, there, small)))

step_later : (control moved next : Control) → control.place < 4294967295 → moved.place ≡ control.place + 1 → Some moved ≡ Some next → IsLater control.place next.place
step_later control moved next small one is = let there = ap place_in is in ((omega (arith, there, one)), (omega (arith, there, one, small)))

loop_later : (control next : Control) (above : Bool) → control.place < 4294967295 → (if above then None else Some (forward control)) ≡ Some next → IsLater control.place next.place
loop_later control next true small is = absurd (let wrong : 0 ≡ 1 = ap some_in is in omega (arith, wrong))
loop_later control next false small is = step_later control (forward control) next small refl is

-- a local statement leads to a later place
pub local_later : (control next : Control) (here : Statement) → IsRunnableAt control.place here → control.place < 4294967295 → local control here ≡ Some next
    → IsLater control.place next.place
local_later control next (statement.Set register value) runs small is = step_later control _ next small refl is
local_later control next (statement.Add register value) runs small is = step_later control _ next small refl is
local_later control next (statement.If left test right place) runs small is =
    branch_later control next place (passes test (value_of control left) (value_of control right)) runs.2 small is
local_later control next (statement.Jump place) runs small is = let there = ap place_in is in ((omega (arith, there, runs.0)), (omega (arith, there, runs.1)))
local_later control next (statement.Label _) runs small is = step_later control _ next small refl is
local_later control next (statement.Loop register place) runs small is = loop_later control next (int_lt (pos 0) (register_of control register)) small is
local_later control next (statement.Invoke k operands texts first second) runs small is = absurd (let wrong : 0 ≡ 1 = ap some_in is in omega (arith, wrong))

-- the program of a control, if there is one
abbrev program_in : ℕ → Option Control → ℕ
program_in default None = default
program_in default (Some control) = control.program

branch_program : (control : Control) (place : ℕ) (taken : Bool) → program_in control.program (Some (if taken then at_place control place else forward control)) ≡ control.program
branch_program control place true = refl
branch_program control place false = refl

loop_program : (control : Control) (above : Bool) → program_in control.program (if above then None else Some (forward control)) ≡ control.program
loop_program control true = refl
loop_program control false = refl

-- a local statement stays in its program
local_program : (control : Control) (here : Option Statement) → program_in control.program (local_at control here) ≡ control.program
local_program control None = refl
local_program control (Some (statement.Set register value)) = refl
local_program control (Some (statement.Add register value)) = refl
local_program control (Some (statement.If left test right place)) = branch_program control place (passes test (value_of control left) (value_of control right))
local_program control (Some (statement.Jump place)) = refl
local_program control (Some (statement.Label _)) = refl
local_program control (Some (statement.Loop register place)) = loop_program control (int_lt (pos 0) (register_of control register))
local_program control (Some (statement.Invoke k operands texts first second)) = refl

on_program : (control : Control) (more : Control → Control) (next : Option Control) → program_in control.program next ≡ control.program
    → ((c : Control) → (more c).program ≡ c.program) → (carry_on control more next).program ≡ control.program
on_program control more None is same = refl
on_program control more (Some next) is same = same next ∙ is

settle_program : (turns : ℕ) (body : List Statement) (control : Control) → (settle turns body control).program ≡ control.program
settle_program zero body control = refl
settle_program (suc turns) body control =
    on_program control (λ c. settle turns body c) (local_at control (slice_get body control.place)) (local_program control (slice_get body control.place))
    (λ c. settle_program turns body c)

-- where the local statements lead, the body is the same
pub same_body : (script : Script) (old now : Control) (body : List Statement) → body ≡ body_of script old → now ≡ settle (length body) body old → body ≡ body_of script now
same_body script old now body is there =
    is ∙ ap (λ p. statements_of (slice_get script.programs p)) (sym (ap (λ c. c.program) there ∙ settle_program (length body) body old))

pub settled_is : (script : Script) (old now : Control) (body : List Statement) → body ≡ body_of script old → now ≡ settle (length body) body old → now ≡ settled script old
settled_is script old now body is there = there ∙ ap (λ b. settle (length b) b old) is

-- the call that is made there is the next one
pub call_is : (script : Script) (old now : Control) (body : List Statement) → body ≡ body_of script old → now ≡ settle (length body) body old
    → call_at now (slice_get body now.place) ≡ call_of script old
call_is script old now body is there =
    ap (λ b. call_at now (slice_get b now.place)) (same_body script old now body is there)
    ∙ ap (λ c. call_at c (statement_of script c)) (settled_is script old now body is there)

rests_in : (turns : ℕ) (body : List Statement) (control : Control) → local_at control (slice_get body control.place) ≡ None → settle turns body control ≡ control
rests_in zero body control none = refl
rests_in (suc turns) body control none = ap (carry_on control (λ c. settle turns body c)) none

-- a control that rests is settled
pub rests_settled : (script : Script) (control : Control) → Rests script control → settled script control ≡ control
rests_settled script control rests = rests_in (length (body_of script control)) (body_of script control) control rests

pub after_is : (script : Script) (control : Control) (reply : Reply) → Rests script control
    → afresh (after_at control reply (statement_of script control)) ≡ after script control reply
after_is script control reply rests = ap (λ c. afresh (after_at c reply (statement_of script c))) (sym (rests_settled script control rests))

-- a loop that makes a call has a register above 0
pub loop_above : (control : Control) (register place : ℕ) → local_at control (Some (statement.Loop register place)) ≡ None → int_lt (pos 0) (register_of control register) ≡ true
loop_above control register place none = by (int_lt (pos 0) (register_of control register)) none
  where
    by : (above : Bool) → (if above then None else Some (forward control)) ≡ None → above ≡ true
    by true none = refl
    by false none = absurd (let wrong : 1 ≡ 0 = ap some_in none in omega (arith, wrong))

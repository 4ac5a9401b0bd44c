-- A part of a write changes nothing but what is done of it.
use Rattle.std.proofs.Common.{◌≡◌, ℕ, zero, suc, ◌+◌, Bool, true, false, List, length, Option, None, Some, refl, ap, ◌∙◌}
use Rattle.std.specs.Prelude.{int_lt, pos, ℤ, if◌then◌else◌, option_map, map, slice_get}
use Rattle.kabi_types.specs.Reply.{first_of, second_of}
use Rattle.kabi_types.specs.declared.calls.CallKind.{CallKind}
use Rattle.kabi_types.specs.declared.calls.CallKind.TheVariants as kind
use Rattle.kabi_types.specs.declared.replies.Reply.{Reply}
use Rattle.kabi_types.specs.declared.scripts.Control.{Control}
use Rattle.kabi_types.specs.declared.scripts.Script.{Script}
use Rattle.kabi_types.specs.declared.scripts.Statement.{Statement}
use Rattle.kabi_types.specs.declared.scripts.Statement.TheVariants as statement
use Rattle.posix_defs.specs.Control.{after, after_at, after_part, afresh, at_place, body_of, call_at, call_of, carry_on, forward, into, local_at, passes, register_of, settle, settled, statement_of, value_of}
use Rattle.posix_defs.specs.Made.{further, made}

-- so much more is done behind a step, if there is one
abbrev with_part : ℕ → Option Control → Option Control
with_part k next = option_map (λ c. after_part c k) next

branch_part : (control : Control) (k place : ℕ) (taken : Bool)
    → Some (if taken then at_place (after_part control k) place else forward (after_part control k))
    ≡ with_part k (Some (if taken then at_place control place else forward control))
branch_part control k place true = refl
branch_part control k place false = refl

loop_part : (control : Control) (k : ℕ) (above : Bool)
    → (if above then None else Some (forward (after_part control k))) ≡ with_part k (if above then None else Some (forward control))
loop_part control k true = refl
loop_part control k false = refl

local_part : (control : Control) (k : ℕ) (here : Option Statement) → local_at (after_part control k) here ≡ with_part k (local_at control here)
local_part control k None = refl
local_part control k (Some (statement.Set register value)) = refl
local_part control k (Some (statement.Add register value)) = refl
local_part control k (Some (statement.If left test right place)) =
    branch_part control k place (passes test (value_of control left) (value_of control right))
local_part control k (Some (statement.Jump place)) = refl
local_part control k (Some (statement.Label name)) = refl
local_part control k (Some (statement.Loop register place)) = loop_part control k (int_lt (pos 0) (register_of control register))
local_part control k (Some (statement.Invoke which values texts first second)) = refl

carried_part : (turns : ℕ) (body : List Statement) (control : Control) (k : ℕ) (next : Option Control)
    → ((c : Control) → settle turns body (after_part c k) ≡ after_part (settle turns body c) k)
    → carry_on (after_part control k) (λ c. settle turns body c) (with_part k next) ≡ after_part (carry_on control (λ c. settle turns body c) next) k
carried_part turns body control k None rest = refl
carried_part turns body control k (Some next) rest = rest next

settle_part : (turns : ℕ) (body : List Statement) (control : Control) (k : ℕ) → settle turns body (after_part control k) ≡ after_part (settle turns body control) k
settle_part zero body control k = refl
settle_part (suc turns) body control k =
    ap (carry_on (after_part control k) (λ c. settle turns body c)) (local_part control k (slice_get body control.place))
    ∙ carried_part turns body control k (local_at control (slice_get body control.place)) (λ c. settle_part turns body c k)

pub settled_part : (script : Script) (control : Control) (k : ℕ) → settled script (after_part control k) ≡ after_part (settled script control) k
settled_part script control k = settle_part (length (body_of script control)) (body_of script control) control k

made_part : (call : CallKind) (numbers : List ℤ) (texts : List (List ℕ)) (done k : ℕ) → made call numbers texts (done + k) ≡ further k (made call numbers texts done)
made_part kind.Write numbers texts done k = refl
made_part _ numbers texts done k = refl

call_at_part : (control : Control) (k : ℕ) (here : Option Statement) → call_at (after_part control k) here ≡ further k (call_at control here)
call_at_part control k None = refl
call_at_part control k (Some (statement.Invoke which values texts first second)) = made_part which (map (value_of control) values) texts control.done k
call_at_part control k (Some _) = refl

pub call_part : (script : Script) (control : Control) (k : ℕ) → call_of script (after_part control k) ≡ further k (call_of script control)
call_part script control k =
    ap (λ here. call_at here (statement_of script here)) (settled_part script control k)
    ∙ call_at_part (settled script control) k (statement_of script (settled script control))

into_part : (control : Control) (k : ℕ) (register : Option ℕ) (value : ℤ) → into (after_part control k) register value ≡ after_part (into control register value) k
into_part control k None value = refl
into_part control k (Some register) value = refl

answer_part : (control : Control) (k : ℕ) (reply : Reply) (here : Option Statement) → afresh (after_at (after_part control k) reply here) ≡ afresh (after_at control reply here)
answer_part control k reply None = refl
answer_part control k reply (Some (statement.Invoke which values texts first second)) =
    ap (λ c. afresh (forward (into c second (second_of reply)))) (into_part control k first (first_of reply))
    ∙ ap (λ c. afresh (forward c)) (into_part (into control first (first_of reply)) k second (second_of reply))
answer_part control k reply (Some (statement.Loop register place)) = refl
answer_part control k reply (Some _) = refl

pub after_part_is : (script : Script) (control : Control) (k : ℕ) (reply : Reply) → after script (after_part control k) reply ≡ after script control reply
after_part_is script control k reply =
    ap (λ here. afresh (after_at here reply (statement_of script here))) (settled_part script control k)
    ∙ answer_part (settled script control) k reply (statement_of script (settled script control))

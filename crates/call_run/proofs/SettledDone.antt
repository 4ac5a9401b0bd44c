-- Local statements move nothing of the next call.
use Rattle.std.proofs.Common.{◌≡◌, ℕ, zero, suc, Bool, true, false, cond, List, length, Option, None, Some, slice_get, refl, sym, ap, ◌∙◌}
use Rattle.kabi_types.specs.declared.scripts.Control.{Control}
use Rattle.kabi_types.specs.declared.scripts.Script.{Script}
use Rattle.kabi_types.specs.declared.scripts.Statement.{Statement}
use Rattle.kabi_types.specs.declared.scripts.Statement.TheVariants as statement
use Rattle.std.specs.Prelude.{int_lt, pos}
use Rattle.posix_defs.specs.Control.{at_place, body_of, carry_on, forward, local, local_at, passes, register_of, settle, settled, value_of}

some_control : {one other : Control} → Some one ≡ Some other → one ≡ other
some_control is = cc

no_control : {X : Type 0} {one : Control} → None ≡ Some one → X
no_control is = cc

local_done : (control : Control) (here : Statement) (next : Control) → local control here ≡ Some next → next.done ≡ control.done
local_done control (statement.Set register value) next is = ap (λ (c : Control). c.done) (sym (some_control is))
local_done control (statement.Add register value) next is = ap (λ (c : Control). c.done) (sym (some_control is))
local_done control (statement.If left test right place) next is = go (passes test (value_of control left) (value_of control right)) is
  where
    go : (b : Bool) → Some (cond b (at_place control place) (forward control)) ≡ Some next → next.done ≡ control.done
    go true same = ap (λ (c : Control). c.done) (sym (some_control same))
    go false same = ap (λ (c : Control). c.done) (sym (some_control same))
local_done control (statement.Jump place) next is = ap (λ (c : Control). c.done) (sym (some_control is))
local_done control (statement.Label name) next is = ap (λ (c : Control). c.done) (sym (some_control is))
local_done control (statement.Loop register place) next is = go (int_lt (pos 0) (register_of control register)) is
  where
    go : (b : Bool) → cond b None (Some (forward control)) ≡ Some next → next.done ≡ control.done
    go true same = no_control same
    go false same = ap (λ (c : Control). c.done) (sym (some_control same))
local_done control (statement.Invoke which operands texts first second) next is = no_control is

-- a statement leads on, or doesn't
goes : (control : Control) (rest : Control → Control) (o : Option Control) → ((next : Control) → (rest next).done ≡ next.done) → ((next : Control) → o ≡ Some next → next.done ≡ control.done)
    → (carry_on control rest o).done ≡ control.done
goes control rest None on same = refl
goes control rest (Some next) on same = on next ∙ same next refl

here_done : (control : Control) (here : Option Statement) (next : Control) → local_at control here ≡ Some next → next.done ≡ control.done
here_done control None next leads = no_control leads
here_done control (Some here) next leads = local_done control here next leads

settle_done : (turns : ℕ) (body : List Statement) (control : Control) → (settle turns body control).done ≡ control.done
settle_done zero body control = refl
settle_done (suc turns) body control =
    goes control (λ next. settle turns body next) (local_at control (slice_get body control.place)) (λ next. settle_done turns body next) (here_done control (slice_get body control.place))

pub settled_done : (script : Script) (control : Control) → (settled script control).done ≡ control.done
settled_done script control = settle_done (length (body_of script control)) (body_of script control) control

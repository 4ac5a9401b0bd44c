-- The local statements of a program end.
use Rattle.std.proofs.Common.{◌≡◌, ℕ, zero, suc, ◌+◌, ◌<◌, ◌≤◌, true, false, List, length, Option, None, Some, refl, ap, ◌∙◌, subst, arith}
use Rattle.std.specs.Prelude.{IfSome, is_some, slice_get}
use Rattle.std.proofs.lemmas.Option.{slice_get_within}
use Rattle.kabi_types.specs.declared.scripts.Control.{Control}
use Rattle.kabi_types.specs.declared.scripts.Script.{Script}
use Rattle.kabi_types.specs.declared.scripts.Statement.{Statement}
use Rattle.posix_defs.specs.Control.{body_of, carry_on, local_at, settle, settled}
use Rattle.prog_ctl.specs.Runnable.{IsRunnable, IsRunnableAt, Rests, Stands}
use Rattle.prog_ctl.proofs.Settling.{local_later, same_body}
use Rattle.prog_ctl.proofs.ValidPrograms.{stands_runs}

-- no statement makes a call here, or the next statement does
abbrev RestsIn : List Statement → Control → Type 0
RestsIn body control = local_at control (slice_get body control.place) ≡ None

past_end : (body : List Statement) (control : Control) (here : Option Statement) → slice_get body control.place ≡ here → length body ≤ control.place
    → local_at control here ≡ None
past_end body control None is past = refl
past_end body control (Some here) is past = absurd (omega (arith, slice_get_within body control.place here is, past))

carried : (turns : ℕ) (body : List Statement) (control : Control) (here : Option Statement) (next : Option Control) → slice_get body control.place ≡ here
    → local_at control here ≡ next → IsRunnable body → length body < 4294967295 → length body ≤ suc turns + control.place
    → ((c : Control) → length body ≤ turns + c.place → RestsIn body (settle turns body c))
    → RestsIn body (carry_on control (λ c. settle turns body c) next)
carried turns body control here None there leads runs short far more = ap (local_at control) there ∙ leads
carried turns body control None (Some next) there leads runs short far more = let wrong : false ≡ true = ap is_some leads in absurd cc
carried turns body control (Some here) (Some next) there leads runs short far more =
    let within = slice_get_within body control.place here there in
    let may = subst (λ o. IfSome o (IsRunnableAt control.place)) there (runs control.place) in
    let later = local_later control next here may (omega (arith, within, short)) leads in
    more next (omega (arith, far, later.0))

-- with a turn for each statement that is left, the local statements come to an end
pub settles : (turns : ℕ) (body : List Statement) (control : Control) → IsRunnable body → length body < 4294967295 → length body ≤ turns + control.place
    → RestsIn body (settle turns body control)
settles zero body control runs short far = past_end body control (slice_get body control.place) refl (omega (arith, far))
settles (suc turns) body control runs short far =
    carried turns body control (slice_get body control.place) (local_at control (slice_get body control.place)) refl refl runs short far
    (λ c. settles turns body c runs short)

pub settled_rests : (script : Script) (control : Control) → Stands script control → Rests script (settled script control)
settled_rests script control stands =
    let body = body_of script control in
    let now = settle (length body) body control in
    let runs = stands_runs script control stands in
    subst (λ b. local_at now (slice_get b now.place) ≡ None) (same_body script control now body refl refl)
    (settles (length body) body control runs.0 runs.1 (omega arith))

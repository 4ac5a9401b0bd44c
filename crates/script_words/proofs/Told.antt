-- What a step of a reader tells, and what is told of the whole then.
use Rattle.std.proofs.Common.{◌≡◌, Result, Ok, Err, refl, ap, subst, sym, ◌∙◌}
use Rattle.std.specs.Prelude.{MatchResult}
use Rattle.std.specs.Result.{IsErrAnd}
use Rattle.std.proofs.lemmas.Result.{err_from_is_err_and}
use Rattle.kabi_types.specs.declared.scripts.FaultKind.{FaultKind}
use Rattle.script_words.specs.declared.refused.Refused.{Refused}
use Rattle.script_words.specs.declared.refused.Refused.TheVariants as refused
use Rattle.script_words.specs.Telling.{Tells}

-- the error that was given on
pub err_is : {X E : Type 0} (error : E) (result : Result X E) → IsErrAnd result (λ e. e ≡ error) → result ≡ Err error
err_is error result and = let p = err_from_is_err_and result and in p.1 ∙ ap Err p.2

-- what was said, or its fault as why a reader stopped
pub tells_fault : {X : Type 0} (said : Result X FaultKind) (result : Result X Refused)
    → MatchResult said (λ x. result ≡ Ok x) (λ kind. IsErrAnd result (λ error. error ≡ refused.Fault kind)) → Tells (λ s. s) result (λ s. s ≡ said)
tells_fault (Ok x) result is = subst (λ r. Tells (λ s. s) r (λ s. s ≡ Ok x)) (sym is) refl
tells_fault (Err kind) result is = subst (λ r. Tells (λ s. s) r (λ s. s ≡ Err kind)) (sym (err_is (refused.Fault kind) result is)) refl

-- what is told in another way
pub told_as : {X Y : Type 0} (show : X → Y) (result : Result X Refused) {said as_well : Result Y FaultKind} → said ≡ as_well
    → Tells show result (λ s. s ≡ said) → Tells show result (λ s. s ≡ as_well)
told_as show result same told = subst (λ wanted. Tells show result (λ s. s ≡ wanted)) same told

-- a step has a fault, which is told of the whole
pub stops_at : {X Y Z : Type 0} (show : X → Y) (kind : FaultKind) (result : Result X Refused) (said : Result Z FaultKind) (next : Result Z FaultKind → Result Y FaultKind)
    → ((k : FaultKind) → next (Err k) ≡ Err k) → result ≡ Err (refused.Fault kind) → Err kind ≡ said → Tells show result (λ s. s ≡ next said)
stops_at show kind result said next strict is told =
    subst (λ r. Tells show r (λ s. s ≡ next said)) (sym is) (sym (strict kind) ∙ ap next told)

-- a step has a fault or no memory, and so has the whole
pub stops : {X Y Z W : Type 0} (show : X → Y) (view : W → Z) (error : Refused) (result : Result X Refused) (said : Result Z FaultKind)
    (next : Result Z FaultKind → Result Y FaultKind) → ((k : FaultKind) → next (Err k) ≡ Err k) → result ≡ Err error
    → Tells view (Err error) (λ s. s ≡ said) → Tells show result (λ s. s ≡ next said)
stops show view (refused.Fault kind) result said next strict is told = stops_at show kind result said next strict is told
stops show view refused.Memory result said next strict is told = subst (λ r. Tells show r (λ s. s ≡ next said)) (sym is) tt

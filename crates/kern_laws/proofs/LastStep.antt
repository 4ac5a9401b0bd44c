-- What a run of the core was one event before.
use Rattle.std.proofs.Common.{◌≡◌, ℕ, List, [], ◌∷◌, ◌++◌, refl, ap, ◌∙◌, subst}
use Rattle.kabi_types.specs.declared.entries.Noted.{Noted}
use Rattle.kabi_types.specs.declared.scripts.Script.{Script}
use Rattle.posix_defs.specs.CoreState.{CoreState, boot_state}
use Rattle.posix_defs.specs.CoreEvent.{Steps}
use Rattle.posix_defs.specs.CoreRun.{IsCoreRun, boots, goes_on}

-- two lists that end with one more are alike before it and in it
same_last : {X : Type 0} (xs ys : List X) (x y : X) → xs ++ x ∷ [] ≡ ys ++ y ∷ [] → (xs ≡ ys) × (x ≡ y)
same_last [] [] x y e = (refl, (cc))
same_last [] (b ∷ []) x y e = ((cc), (cc))
same_last [] (b ∷ c ∷ ys) x y e = ((cc), (cc))
same_last (a ∷ []) [] x y e = ((cc), (cc))
same_last (a ∷ c ∷ xs) [] x y e = ((cc), (cc))
same_last (a ∷ xs) (b ∷ ys) x y e = let rest = same_last xs ys x y (cc) in (let same : a ≡ b = (cc) in ap (λ h. h ∷ xs) same ∙ ap (λ t. b ∷ t) rest.0, rest.1)

none_empty : {X : Type 0} (xs : List X) (x : X) → [] ≡ xs ++ x ∷ [] → ⊥
none_empty [] x e = cc
none_empty (a ∷ xs) x e = cc

-- a run with no event is at boot
pub at_boot : {script : Script} {steps : ℕ} {run : List Noted} {s : CoreState} → IsCoreRun script steps run s → [] ≡ run → s ≡ boot_state script
at_boot boots e = refl
at_boot (goes_on run old new noted before ends follows step) e = absurd (none_empty run noted e)

-- a run that ends with an event came to it by a step
pub last_step : {script : Script} {steps : ℕ} {run : List Noted} {s : CoreState} → IsCoreRun script steps run s
    → (front : List Noted) (last : Noted) → run ≡ front ++ last ∷ []
    → (old : CoreState) × IsCoreRun script steps front old × Steps script old last s
last_step boots front last e = absurd (none_empty front last e)
last_step {script} {steps} (goes_on run old new noted before ends follows step) front last e =
    let same = same_last run front noted last e in
    (old, subst (λ r. IsCoreRun script steps r old) same.0 before, subst (λ n. Steps script old n new) same.1 step)

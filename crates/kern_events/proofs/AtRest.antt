-- While bytes are in reserve a call is admitted, and no end stands but that of the steps.
use Rattle.std.proofs.Common.{◌≡◌, ℕ, ◌+◌, ◌<◌, ◌==◌, ◌&&◌, ◌||◌, ◌⊎◌, inl, inr, not, Bool, true, false, if◌then◌else◌, List, [], ◌∷◌, Option, None, Some, IsNone, refl, ap, sym, ◌∙◌, arith}
use Rattle.std.specs.List.{list_all, list_any}
use Rattle.std.proofs.lemmas.List.Sums.{sum_by-cons}
use Rattle.kabi_types.specs.declared.entries.End.{End}
use Rattle.kabi_types.specs.declared.entries.End.TheVariants.{Finished, AllAsleep, Spent}
use Rattle.kabi_types.specs.declared.scripts.Script.{Script}
use Rattle.posix_defs.specs.declared.phases.Phase.{Phase}
use Rattle.posix_defs.specs.declared.phases.Phase.TheVariants.{User, Waiting, Admitted, Asleep, Stranded, Dead}
use Rattle.posix_defs.specs.declared.phases.Task.{Task}
use Rattle.posix_defs.specs.CoreState.{CoreState, held, is_admitted, lives, reserved_in}
use Rattle.posix_defs.specs.Ends.{all_asleep, end_of, sleeps_on, starved_or, vain_need}
use Rattle.posix_defs.specs.Licence.{can_evict_any}
use Rattle.posix_defs.specs.CoreState as state

-- a call that holds bytes is admitted, and doesn't sleep
one_admitted : (p : Phase) → 0 < held p → is_admitted p ≡ true
one_admitted (Admitted _) some = refl
one_admitted (Stranded _) some = refl
one_admitted User some = absurd (omega arith)
one_admitted (Waiting _) some = absurd (omega arith)
one_admitted (Asleep _) some = absurd (omega arith)
one_admitted Dead some = absurd (omega arith)

one_awake : (script : Script) (s : CoreState) (pid : ℕ) (p : Phase) → is_admitted p ≡ true → sleeps_on script s pid p ≡ false
one_awake script s pid (Asleep _) e = absurd (cc)
one_awake script s pid User e = refl
one_awake script s pid (Waiting _) e = refl
one_awake script s pid (Admitted _) e = refl
one_awake script s pid (Stranded _) e = refl
one_awake script s pid Dead e = refl

admitted_or_none : (p : Phase) → (is_admitted p ≡ true) ⊎ (held p ≡ 0)
admitted_or_none (Admitted _) = inl refl
admitted_or_none (Stranded _) = inl refl
admitted_or_none User = inr refl
admitted_or_none (Waiting _) = inr refl
admitted_or_none (Asleep _) = inr refl
admitted_or_none Dead = inr refl

-- where bytes are in reserve some call is admitted
pub some_admitted : (tasks : List Task) → 0 < reserved_in tasks → list_any (λ task. is_admitted task.phase) tasks ≡ true
some_admitted [] some = absurd (omega arith)
some_admitted (task ∷ tasks) some = go (admitted_or_none task.phase) (some_admitted tasks)
  where
    either : (b : Bool) → (b || true) ≡ true
    either true = refl
    either false = refl

    go : (is_admitted task.phase ≡ true) ⊎ (held task.phase ≡ 0) → (0 < reserved_in tasks → list_any (λ t. is_admitted t.phase) tasks ≡ true)
        → (is_admitted task.phase || list_any (λ t. is_admitted t.phase) tasks) ≡ true
    go (inl is) later = ap (λ b. b || list_any (λ t. is_admitted t.phase) tasks) is
    go (inr none) later =
        let rest : held task.phase + reserved_in tasks ≡ reserved_in (task ∷ tasks) = sym (sum_by-cons (λ t. held t.phase) task tasks) in
        let more : 0 < reserved_in tasks = omega (arith, some, none, rest) in
        ap (λ b. is_admitted task.phase || b) (later more) ∙ either (is_admitted task.phase)

-- where some call is admitted not all sleep
pub not_all_sleep : (script : Script) (s : CoreState) (tasks : List Task) → list_any (λ task. is_admitted task.phase) tasks ≡ true
    → list_all (λ task. sleeps_on script s task.pid task.phase) tasks ≡ false
not_all_sleep script s [] e = absurd (cc)
not_all_sleep script s (task ∷ tasks) e = go (is_admitted task.phase) refl (not_all_sleep script s tasks) e
  where
    either : (b : Bool) → (b && false) ≡ false
    either true = refl
    either false = refl

    go : (b : Bool) → is_admitted task.phase ≡ b → (list_any (λ t. is_admitted t.phase) tasks ≡ true → list_all (λ t. sleeps_on script s t.pid t.phase) tasks ≡ false)
        → (b || list_any (λ t. is_admitted t.phase) tasks) ≡ true
        → (sleeps_on script s task.pid task.phase && list_all (λ t. sleeps_on script s t.pid t.phase) tasks) ≡ false
    go true is later f = ap (λ b. b && list_all (λ t. sleeps_on script s t.pid t.phase) tasks) (one_awake script s task.pid task.phase is)
    go false is later f = ap (λ b. sleeps_on script s task.pid task.phase && b) (later f) ∙ either (sleeps_on script s task.pid task.phase)

-- so no end stands but that of the steps
pub only_spent : (script : Script) (steps taken : ℕ) (s : CoreState) → 0 < reserved_in s.tasks → end_of script steps taken s ≡ (if taken == steps then Some Spent else None)
only_spent script steps taken s some =
    let admitted = some_admitted s.tasks some in
    go (lives s 1) (list_any (λ task. is_admitted task.phase) s.tasks) (list_all (λ task. task.pid == 1) s.tasks) (not (can_evict_any s.world))
    (vain_need script s (state.phase_of s 1)) (all_asleep script s) admitted (not_all_sleep script s s.tasks admitted)
  where
    spent : Option End
    spent = if taken == steps then Some Spent else None

    go : (l a alone quiet : Bool) (need : Option ℕ) (asleep : Bool) → a ≡ true → asleep ≡ false
        → (if not l && not a then Some Finished
        else starved_or (if alone && not a && quiet then need else None) (if asleep then Some AllAsleep else spent)) ≡ spent
    go true true true true need false e f = refl
    go true true true false need false e f = refl
    go true true false quiet need false e f = refl
    go false true true true need false e f = refl
    go false true true false need false e f = refl
    go false true false quiet need false e f = refl
    go l false alone quiet need asleep e f = absurd (cc)
    go l true alone quiet need true e f = absurd (cc)

pub none_is : {X : Type 0} (x : Option X) → IsNone x → x ≡ None
none_is None e = refl
none_is (Some x) e = cc

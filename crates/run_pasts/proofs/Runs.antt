-- What follows is computed, and so is each history.
use Rattle.std.proofs.Common.{◌≡◌, cond, List, [], ◌∷◌, ◌++◌, Option, None, Some, option_map, option_and_then, refl, ap, sym, ◌∙◌, subst, append_assoc}
use Rattle.std.proofs.lemmas.List.{append-nil}
use Rattle.std.proofs.lemmas.Option.{cond_some, none-some, option_and_then_some, same_Some}
use Rattle.kabi_types.specs.declared.entries.Entry.{Entry}
use Rattle.kabi_types.specs.declared.scripts.Script.{Script}
use Rattle.posix_defs.specs.History.{Past, IsRun, MayFollow, boot_past, boots, goes_on}
use Rattle.run_pasts.specs.Claims.{claim_of_entry}
use Rattle.run_pasts.specs.Follows.{expected, follows, led_on, next_by, past_of}
use Rattle.run_pasts.specs.SameEntry.{is_same_entry}
use Rattle.run_pasts.specs.Turns.{Step, turn_of}
use Rattle.run_pasts.specs.declared.claims.Claim.{Claim}
use Rattle.run_pasts.proofs.Same.{entry_same, same_entry}
use Rattle.run_pasts.proofs.Steps.{may_follow, says_so, step_of, step_to}

-- ---- one entry

leads_by : (script : Script) (past : Past) (added : Entry) (next : Past) (step : Option Step)
    → turn_of script past (claim_of_entry added) ≡ step → next_by added step ≡ Some next → MayFollow script past added next
leads_by script past added next None is h = absurd (none-some next h)
leads_by script past added next (Some step) is h =
    let parts = cond_some (is_same_entry step.added added) step.next next h in
    subst (λ n. MayFollow script past added n) parts.1
    (subst (λ e. MayFollow script past e step.next) (same_entry step.added added parts.0) (may_follow script past (claim_of_entry added) step is))

pub may_lead : (script : Script) (past : Past) (added : Entry) (next : Past) → follows script past added ≡ Some next → MayFollow script past added next
may_lead script past added next h = leads_by script past added next (turn_of script past (claim_of_entry added)) refl h

pub leads_so : (script : Script) (past : Past) (added : Entry) (next : Past) → MayFollow script past added next → follows script past added ≡ Some next
leads_so script past added next may =
    ap (next_by added) (step_of script past added next may) ∙ ap (λ b. cond b (Some next) None) (entry_same added)

-- ---- what is expected

expected_by : (script : Script) (past : Past) (claim : Claim) (added : Entry) (step : Option Step)
    → turn_of script past claim ≡ step → option_map (λ s. s.added) step ≡ Some added → (next : Past) × MayFollow script past added next × (claim_of_entry added ≡ claim)
expected_by script past claim added None is h = absurd (none-some added h)
expected_by script past claim added (Some step) is h =
    let same = same_Some step.added added h in
    (step.next, subst (λ e. MayFollow script past e step.next) same (may_follow script past claim step is), subst (λ e. claim_of_entry e ≡ claim) same (says_so script past claim step is))

pub expected_may : (script : Script) (past : Past) (claim : Claim) (added : Entry) → expected script past claim ≡ Some added
    → (next : Past) × MayFollow script past added next × (claim_of_entry added ≡ claim)
expected_may script past claim added h = expected_by script past claim added (turn_of script past claim) refl h

pub may_expected : (script : Script) (past : Past) (added : Entry) (next : Past) → MayFollow script past added next → expected script past (claim_of_entry added) ≡ Some added
may_expected script past added next may = ap (option_map (λ s. s.added)) (step_of script past added next may)

pub one_expected : (script : Script) (past : Past) (added : Entry) (next : Past) (other : Entry) (elsewhere : Past)
    → MayFollow script past added next → MayFollow script past other elsewhere → claim_of_entry added ≡ claim_of_entry other → (added ≡ other) × (next ≡ elsewhere)
one_expected script past added next other elsewhere may also says =
    let same = same_Some (step_to added next) (step_to other elsewhere) (sym (step_of script past added next may) ∙ ap (turn_of script past) says ∙ step_of script past other elsewhere also) in
    (ap (λ s. s.added) same, ap (λ s. s.next) same)

-- ---- histories

then_on : Script → List Entry → Option Past → Option Past
then_on script rest past = option_and_then (λ next. led_on script next rest) past

led_next : (script : Script) (front rest : List Entry) → ((next : Past) → led_on script next (front ++ rest) ≡ then_on script rest (led_on script next front))
    → (next : Option Past) → option_and_then (λ n. led_on script n (front ++ rest)) next ≡ then_on script rest (option_and_then (λ n. led_on script n front) next)
unfolding then_on
led_next script front rest along None = refl
led_next script front rest along (Some next) = along next

-- entries lead on from where those before them lead
led_along : (script : Script) (past : Past) (front rest : List Entry) → led_on script past (front ++ rest) ≡ then_on script rest (led_on script past front)
unfolding then_on
led_along script past [] rest = refl
led_along script past (added ∷ front) rest = led_next script front rest (λ next. led_along script next front rest) (follows script past added)

led_one : (script : Script) (past : Past) (added : Entry) (next : Past) → MayFollow script past added next → led_on script past (added ∷ []) ≡ Some next
led_one script past added next may = ap (option_and_then (λ n. Some n)) (leads_so script past added next may)

pub run_computed : {script : Script} {history : List Entry} {past : Past} → IsRun script history past → past_of script history ≡ Some past
unfolding then_on
run_computed boots = refl
run_computed {script} (goes_on history past next added run may) =
    led_along script (boot_past script) history (added ∷ []) ∙ ap (then_on script (added ∷ [])) (run_computed run) ∙ led_one script past added next may

pub run_on : (script : Script) (front rest : List Entry) (between past : Past) → IsRun script front between → led_on script between rest ≡ Some past → IsRun script (front ++ rest) past
run_on script front [] between past run h = subst (λ l. IsRun script l past) (sym (append-nil front)) (subst (IsRun script front) (same_Some between past h) run)
run_on script front (added ∷ rest) between past run h =
    option_and_then_some (λ next. led_on script next rest) (follows script between added) past h
    (λ next may on. subst (λ l. IsRun script l past) (append_assoc front (added ∷ []) rest)
    (run_on script (front ++ added ∷ []) rest next past (goes_on front between next added run (may_lead script between added next may)) on))

pub computed_run : (script : Script) (history : List Entry) (past : Past) → past_of script history ≡ Some past → IsRun script history past
computed_run script history past h = run_on script [] history (boot_past script) past boots h

pub one_past : (script : Script) (history : List Entry) (past other : Past) → IsRun script history past → IsRun script history other → past ≡ other
one_past script history past other run also = same_Some past other (sym (run_computed run) ∙ run_computed also)

pub run_before : (script : Script) (front rest : List Entry) (past : Past) → IsRun script (front ++ rest) past
    → (between : Past) × IsRun script front between × (led_on script between rest ≡ Some past)
unfolding then_on
run_before script front rest past run =
    option_and_then_some (λ next. led_on script next rest) (past_of script front) past (sym (led_along script (boot_past script) front rest) ∙ run_computed run)
    (λ between is on. (between, computed_run script front between is, on))

pub stops_for_good : (script : Script) (front rest : List Entry) → past_of script front ≡ None → past_of script (front ++ rest) ≡ None
unfolding then_on
stops_for_good script front rest h = led_along script (boot_past script) front rest ∙ ap (then_on script rest) h

-- The one entry that a claim leads to may come next, and whatever may come next is that of what it says.
use Rattle.std.proofs.Common.{◌≡◌, ℕ, ◌+◌, ◌<◌, ◌≤◌, not, Bool, true, false, cond, Option, None, Some, refl, ap, sym, ◌∙◌, subst}
use Rattle.std.proofs.lemmas.Bool.{false≢true, leb-true, le-leb}
use Rattle.std.proofs.lemmas.Bool.Decides.{Decides-eqb, Decides-ltb}
use Rattle.std.proofs.lemmas.Option.{cond_some, none-some, same_Some}
use Rattle.kabi_types.specs.Call.{kind_of}
use Rattle.kabi_types.specs.declared.calls.CallKind.{CallKind}
use Rattle.kabi_types.specs.declared.entries.Cached.{Cached}
use Rattle.kabi_types.specs.declared.entries.Entry.{Entry}
use Rattle.kabi_types.specs.declared.entries.Entry.TheVariants as entry
use Rattle.kabi_types.specs.declared.scripts.Script.{Script}
use Rattle.posix_defs.specs.Answer.{Answer, Blocked, Done, Part, Ended}
use Rattle.posix_defs.specs.History.{MayFollow, MayRun, Past, is_up}
use Rattle.posix_defs.specs.Machine.{machine}
use Rattle.posix_defs.specs.Needs.{bound}
use Rattle.posix_defs.specs.Sizes.{reserve, room}
use Rattle.posix_defs.specs.Victim.{victim_of}
use Rattle.run_pasts.specs.Claims.{claim_of_entry}
use Rattle.run_pasts.specs.Turns.{Step, answered_step, did_step, evicted_step, gone_step, is_this, killed_step, least_live, may_run, next_call, refused_step, step_if, turn_of}
use Rattle.run_pasts.specs.declared.claims.Claim.{Claim}
use Rattle.run_pasts.specs.declared.claims.Claim.TheVariants.{Did, Killed, Evicted}
use Rattle.run_pasts.specs.declared.claims.Deed.{Deed}
use Rattle.run_pasts.specs.declared.claims.Deed.TheVariants as deed
use Rattle.run_pasts.proofs.Same.{both_true, true_both}

-- ---- tests

not_true : (b : Bool) → not b ≡ true → b ≡ false
not_true true h = absurd (false≢true h)
not_true false h = refl

true_not : (b : Bool) → b ≡ false → not b ≡ true
true_not b h = ap not h

-- a step stands for its entry's place in the definition, and says what was claimed
IsStep : Script → Past → Claim → Step → Type 0
IsStep script past claim step = MayFollow script past step.added step.next × (claim_of_entry step.added ≡ claim)

-- a step that is taken where a test holds is taken where it does
taken_if : (script : Script) (past : Past) (claim : Claim) (test : Bool) (added : Entry) (next : Past) (step : Step)
    → step_if test added next ≡ Some step → claim_of_entry added ≡ claim → (test ≡ true → MayFollow script past added next) → IsStep script past claim step
unfolding IsStep
taken_if script past claim test added next step h says may =
    let parts = cond_some test _ step h in
    subst (λ s. MayFollow script past s.added s.next × (claim_of_entry s.added ≡ claim)) parts.1 (may parts.0, says)

-- ---- from a step to what may come next

may_run_of : (script : Script) (past : Past) (pid : ℕ) → may_run script past pid ≡ true → MayRun script past pid (kind_of (next_call past script pid))
may_run_of script past pid h =
    let parts = both_true _ _ h in record { alive = parts.0; of_kind = refl; fits_ever = leb-true _ _ parts.1 }

refused_of : (script : Script) (past : Past) (pid : ℕ) (step : Step) → refused_step script past pid ≡ Some step → IsStep script past (Did pid deed.Refused) step
refused_of script past pid step h =
    taken_if script past (Did pid deed.Refused) _ _ _ step h refl
    (λ test. let parts = both_true _ _ test in record {
      alive = parts.0;
      of_kind = refl;
      is_bound = refl;
      never_fits = (Decides-ltb _ _).0 parts.1;
      leads = refl;
    })

gone_of : (script : Script) (past : Past) (pid : ℕ) (step : Step) → gone_step script past pid ≡ Some step → IsStep script past (Did pid deed.Gone) step
gone_of script past pid step h =
    taken_if script past (Did pid deed.Gone) _ _ _ step h refl
    (λ test.
    let parts = both_true _ _ test in
    let made = both_true _ _ parts.0 in
    let over = both_true _ _ parts.1 in
    record {
      made = ((Decides-ltb 0 pid).0 made.0, leb-true _ _ made.1);
      ended = not_true _ over.0;
      first = not_true _ over.1;
      of_kind = refl;
      leads = refl;
    })

answered_of : (script : Script) (past : Past) (pid : ℕ) (which : Deed) (answer : Answer) (step : Step) → may_run script past pid ≡ true
    → machine script past.plain pid (next_call past script pid) ≡ answer → answered_step script past pid which answer ≡ Some step → IsStep script past (Did pid which) step
unfolding IsStep
answered_of script past pid deed.Done (Done reply plain) step may is h =
    subst (λ s. MayFollow script past s.added s.next × (claim_of_entry s.added ≡ Did pid deed.Done)) (same_Some _ step h)
    (record { may_run = may_run_of script past pid may; plain = plain; answers = is; leads = refl }, refl)
answered_of script past pid deed.Part (Part moved plain) step may is h =
    subst (λ s. MayFollow script past s.added s.next × (claim_of_entry s.added ≡ Did pid deed.Part)) (same_Some _ step h)
    (record { may_run = may_run_of script past pid may; plain = plain; answers = is; leads = refl }, refl)
answered_of script past pid deed.Ended (Ended status plain) step may is h =
    subst (λ s. MayFollow script past s.added s.next × (claim_of_entry s.added ≡ Did pid deed.Ended)) (same_Some _ step h)
    (record { may_run = may_run_of script past pid may; plain = plain; answers = is; leads = refl }, refl)
answered_of script past pid deed.Slept Blocked step may is h =
    taken_if script past (Did pid deed.Slept) _ _ _ step h refl
    (λ up. record { may_run = may_run_of script past pid may; up = up; blocked = is; leads = refl })
answered_of script past pid _ _ step may is h = absurd (none-some step h)

-- where a call may run, and the machine answers so
if_may : (script : Script) (past : Past) (pid : ℕ) (which : Deed) (may : Bool) (answer : Answer) (step : Step)
    → may_run script past pid ≡ may → machine script past.plain pid (next_call past script pid) ≡ answer
    → cond may (answered_step script past pid which answer) None ≡ Some step → IsStep script past (Did pid which) step
if_may script past pid which true answer step may is h = answered_of script past pid which answer step may is h
if_may script past pid which false answer step may is h = absurd (none-some step h)

did_of : (script : Script) (past : Past) (pid : ℕ) (which : Deed) (may : Bool) (answer : Answer) (step : Step)
    → may_run script past pid ≡ may → machine script past.plain pid (next_call past script pid) ≡ answer
    → did_step script past pid which may answer ≡ Some step → IsStep script past (Did pid which) step
did_of script past pid deed.Refused may answer step runs is h = refused_of script past pid step h
did_of script past pid deed.Gone may answer step runs is h = gone_of script past pid step h
did_of script past pid deed.Done may answer step runs is h = if_may script past pid deed.Done may answer step runs is h
did_of script past pid deed.Part may answer step runs is h = if_may script past pid deed.Part may answer step runs is h
did_of script past pid deed.Slept may answer step runs is h = if_may script past pid deed.Slept may answer step runs is h
did_of script past pid deed.Ended may answer step runs is h = if_may script past pid deed.Ended may answer step runs is h

this_one : (pid : ℕ) (victim : Option ℕ) → is_this pid victim ≡ true → victim ≡ Some pid
this_one pid None h = absurd (false≢true h)
this_one pid (Some other) h = ap Some ((Decides-eqb other pid).0 h)

killed_of : (script : Script) (past : Past) (pid waiter : ℕ) (step : Step) → killed_step script past pid waiter ≡ Some step → IsStep script past (Killed pid waiter) step
killed_of script past pid waiter step h =
    taken_if script past (Killed pid waiter) _ _ _ step h refl
    (λ test.
    let parts = both_true _ _ test in
    let vain = both_true _ _ parts.1 in
    let waits = both_true _ _ vain.0 in
    let fits = both_true _ _ vain.1 in
    record {
      victim = this_one pid (victim_of script.policy past.plain past.account) parts.0;
      alive = waits.0;
      up = waits.1;
      is_bound = refl;
      fits_ever = leb-true _ _ fits.0;
      all_pinned = refl;
      too_much = (Decides-ltb _ _).0 fits.1;
      leads = refl;
    })

evicted_of : (script : Script) (past : Past) (what : Cached) (step : Step) → evicted_step script past what ≡ Some step → IsStep script past (Evicted what) step
evicted_of script past what step h =
    taken_if script past (Evicted what) _ _ _ step h refl
    (λ test.
    let parts = both_true _ _ test in
    let rest = both_true _ _ parts.1 in
    record {
      covered = record { names = leb-true _ _ parts.0; blocks = leb-true _ _ rest.0; vnodes = leb-true _ _ rest.1 };
      leads = refl;
    })

step_is : (script : Script) (past : Past) (claim : Claim) (step : Step) → turn_of script past claim ≡ Some step → IsStep script past claim step
unfolding turn_of
step_is script past (Did pid which) step h =
    did_of script past pid which (may_run script past pid) (machine script past.plain pid (next_call past script pid)) step refl refl h
step_is script past (Killed pid waiter) step h = killed_of script past pid waiter step h
step_is script past (Evicted what) step h = evicted_of script past what step h

pub may_follow : (script : Script) (past : Past) (claim : Claim) (step : Step) → turn_of script past claim ≡ Some step → MayFollow script past step.added step.next
unfolding IsStep
may_follow script past claim step h = (step_is script past claim step h).0

pub says_so : (script : Script) (past : Past) (claim : Claim) (step : Step) → turn_of script past claim ≡ Some step → claim_of_entry step.added ≡ claim
unfolding IsStep
says_so script past claim step h = (step_is script past claim step h).1

-- ---- from what may come next to the step

-- an entry, and where it leads, as a step
abbrev pub step_to : Entry → Past → Step
step_to added next = record { added = added; next = next }

step_taken : (test : Bool) (added other : Entry) (next elsewhere : Past) → test ≡ true → added ≡ other → elsewhere ≡ next → step_if test added next ≡ Some (step_to other elsewhere)
step_taken test added other next elsewhere h same leads =
    ap (λ t. step_if t added next) h ∙ ap (λ e. Some (step_to e next)) same ∙ ap (λ n. Some (step_to other n)) (sym leads)

may_run_again : (script : Script) (past : Past) (pid : ℕ) (which : CallKind) → MayRun script past pid which → may_run script past pid ≡ true
may_run_again script past pid which may = true_both _ _ may.alive (le-leb _ _ may.fits_ever)

-- what a call came to that may run, and that the machine answers so
came_to : (script : Script) (past : Past) (pid : ℕ) (which : Deed) (answer : Answer) (step : Option Step)
    → did_step script past pid which true answer ≡ step → may_run script past pid ≡ true → machine script past.plain pid (next_call past script pid) ≡ answer
    → turn_of script past (Did pid which) ≡ step
unfolding turn_of
came_to script past pid which answer step h may is =
    ap (λ m. did_step script past pid which m (machine script past.plain pid (next_call past script pid))) may ∙ ap (did_step script past pid which true) is ∙ h

-- the step that is taken where a call of this kind leads there
led : (added other : Entry) (next elsewhere : Past) → added ≡ other → elsewhere ≡ next → Some (step_to added next) ≡ Some (step_to other elsewhere)
led added other next elsewhere same leads = ap (λ e. Some (step_to e next)) same ∙ ap (λ n. Some (step_to other n)) (sym leads)

pub step_of : (script : Script) (past : Past) (added : Entry) (next : Past) → MayFollow script past added next → turn_of script past (claim_of_entry added) ≡ Some (step_to added next)
unfolding turn_of
step_of script past (entry.Done pid which reply) next may =
    came_to script past pid deed.Done (Done reply may.plain) _
    (led (entry.Done pid (kind_of (next_call past script pid)) reply) _ _ next (ap (λ k. entry.Done pid k reply) (sym may.may_run.of_kind)) may.leads)
    (may_run_again script past pid which may.may_run) may.answers
step_of script past (entry.Part pid which moved) next may =
    came_to script past pid deed.Part (Part moved may.plain) _
    (led (entry.Part pid (kind_of (next_call past script pid)) moved) _ _ next (ap (λ k. entry.Part pid k moved) (sym may.may_run.of_kind)) may.leads)
    (may_run_again script past pid which may.may_run) may.answers
step_of script past (entry.Ended pid which status) next may =
    came_to script past pid deed.Ended (Ended status may.plain) _
    (led (entry.Ended pid (kind_of (next_call past script pid)) status) _ _ next (ap (λ k. entry.Ended pid k status) (sym may.may_run.of_kind)) may.leads)
    (may_run_again script past pid which may.may_run) may.answers
step_of script past (entry.Slept pid which) next may =
    came_to script past pid deed.Slept Blocked _
    (step_taken (is_up past pid) (entry.Slept pid (kind_of (next_call past script pid))) _ _ next may.up (ap (entry.Slept pid) (sym may.may_run.of_kind)) may.leads)
    (may_run_again script past pid which may.may_run) may.blocked
step_of script past (entry.Refused pid which asked) next may =
    step_taken _ (entry.Refused pid (kind_of (next_call past script pid)) (bound (next_call past script pid))) _ _ next
    (true_both _ _ may.alive ((Decides-ltb _ _).1 (subst (λ n. room script.heap < n) may.is_bound may.never_fits)))
    (ap (λ k. entry.Refused pid k (bound (next_call past script pid))) (sym may.of_kind) ∙ ap (entry.Refused pid which) (sym may.is_bound)) may.leads
step_of script past (entry.Gone pid which) next may =
    step_taken _ (entry.Gone pid (kind_of (next_call past script pid))) _ _ next
    (true_both _ _ (true_both _ _ ((Decides-ltb 0 pid).1 may.made.0) (le-leb _ _ may.made.1)) (true_both _ _ (true_not _ may.ended) (true_not _ may.first)))
    (ap (entry.Gone pid) (sym may.of_kind)) may.leads
step_of script past (entry.Killed pid waiter need live) next may =
    step_taken _ (entry.Killed pid waiter (bound (next_call past script waiter)) (least_live past)) _ _ next
    (true_both _ _ (ap (is_this pid) may.victim ∙ (Decides-eqb pid pid).1 refl)
    (true_both _ _ (true_both _ _ may.alive may.up)
    (true_both _ _ (le-leb _ _ (subst (λ n. n ≤ room script.heap) may.is_bound may.fits_ever))
    ((Decides-ltb _ _).1 (subst (λ l. script.heap < l + reserve + bound (next_call past script waiter)) may.all_pinned (subst (λ n. script.heap < live + reserve + n) may.is_bound may.too_much))))))
    (ap (λ n. entry.Killed pid waiter n (least_live past)) (sym may.is_bound) ∙ ap (entry.Killed pid waiter need) (sym may.all_pinned)) may.leads
step_of script past (entry.Evicted what) next may =
    step_taken _ (entry.Evicted what) _ _ next
    (true_both _ _ (le-leb _ _ may.covered.names) (true_both _ _ (le-leb _ _ may.covered.blocks) (le-leb _ _ may.covered.vnodes))) refl may.leads
